-- Everything that can happen: by induction, each honest member keeps what a member keeps, what was said is what the
-- honest ones hear of themselves, and nobody hears a vote of an honest member that was not said.
use Rattle.std.proofs.Common.{◌≡◌, ℕ, ◌<◌, Bool, true, false, eqb, List, [], ◌∷◌, ◌++◌, sym, refl, ◌∙◌, inl, inr}
use Rattle.std.proofs.lemmas.Bool.{and_parts, and_from, or_cases, not-true, not_from_false, eq-eqb, ne_eqb, both_ways}
use Rattle.std.proofs.lemmas.Bool.{cases_eq, cond-true, cond-false}
use Rattle.protocol.specs.Vote.{Vote, Limits}
use Rattle.protocol.specs.Member.{Member, Event, got_vote, answer, after}
use Rattle.protocol.specs.Network.{Network, new_network, deliver, votes_of, can_come, can_happen, Reachable, begun}
use Rattle.protocol.specs.Network.{happens}
use Rattle.protocol.specs.Promises.{no_repeat}
use Rattle.safety.proofs.Votes.{In, in_none, in_first, in_later, in_left, in_right, in_either}
use Rattle.safety.proofs.Counting.{is_false}
use Rattle.safety.proofs.Keeps.{Keeps, new_keeps}
use Rattle.safety.proofs.Events.{Comes, event_comes}

pub record Honest (l : Limits) (faulty : ℕ → Bool) (i : ℕ) : Type 0 where
  pub member : i < l.members
  pub not_faulty : faulty i ≡ false

-- what holds of a network that can be: what was said was said by honest members, who heard it themselves; and what
-- anybody heard of an honest member was said
pub record Sound (l : Limits) (faulty : ℕ → Bool) (w : Network) : Type 0 where
  pub keeps : (i : ℕ) → Honest l faulty i → Keeps l i (w.member i)
  pub said-honest : (v : Vote) → In v w.said → Honest l faulty v.from
  pub said_heard : (i : ℕ) (v : Vote) → In v w.said → v.from ≡ i → In v (w.member i).votes
  pub can_have_come : (i : ℕ) (v : Vote) → Honest l faulty i → In v (w.member i).votes → faulty v.from ≡ false →
      In v w.said
  pub said_once : no_repeat w.said ≡ true

pub new_sound : (l : Limits) (faulty : ℕ → Bool) → Sound l faulty new_network
unfolding no_repeat
new_sound l faulty =
    record {
      keeps = λ i _. new_keeps l i;
      said-honest = λ v h. absurd (in_none v h);
      said_heard = λ i v h _. absurd (in_none v h);
      can_have_come = λ i v _ h _. absurd (in_none v h);
      said_once = refl;
    }

pub no_repeat_joined : (xs ys : List Vote) → no_repeat xs ≡ true → no_repeat ys ≡ true →
    ((v : Vote) → In v xs → In v ys → ⊥) → no_repeat (xs ++ ys) ≡ true
unfolding no_repeat
no_repeat_joined [] ys hx hy apart = hy
no_repeat_joined (x ∷ xs) ys hx hy apart =
    let (a, b) = and_parts _ _ hx in
    and_from _ _
    (not_from_false _ (is_false _ (λ at.
    elim (in_either x xs ys at)
    [ inl k ↦ both_ways _ (not-true _ a) k | inr k ↦ apart x (in_first x x xs refl) k ])))
    (no_repeat_joined xs ys b hy (λ v h k. apart v (in_later v x xs h) k))

-- a vote of an honest member comes only if it was said
pub came_said : (faulty : ℕ → Bool) (w : Network) (e : Event) (v : Vote) → can_happen faulty w e ≡ true →
    e ≡ got_vote v → faulty v.from ≡ false → In v w.said
unfolding can_happen
came_said faulty w e v can is honest =
    let come : can_come faulty w v ≡ true = rw is at can in
    elim (or_cases _ _ come) [ inl f ↦ absurd (both_ways _ honest f) | inr h ↦ h ]

-- what holds of member i after the event and of the others before it holds of all after it
pub all_after : (l : Limits) (w : Network) (i : ℕ) (e : Event) (P : ℕ → Member → Type 0) →
    P i (after l (w.member i) e) →
    ((j : ℕ) → (i ≡ j → ⊥) → P j (w.member j)) → (j : ℕ) → P j ((deliver l w i e).member j)
all_after l w i e P here others j =
    let then : Member = after l (w.member i) e in
    elim (cases_eq i j) [
      | inl is ↦ rw (← is) (rw (cond-true (eqb i i) then (w.member i) (eq-eqb i i refl)) here)
      | inr other ↦ rw (cond-false (eqb i j) then (w.member j) (ne_eqb i j other)) (others j other)
    ]

-- one event more
module _ (l : Limits) (faulty : ℕ → Bool) (w : Network) (sound : Sound l faulty w)
    (i : ℕ) (e : Event) (honest : Honest l faulty i) (can : can_happen faulty w e ≡ true) where
  -- what it says, and what it is then
  abbrev out : List Vote
  out = votes_of (answer l (w.member i) e)

  abbrev then : Member
  then = after l (w.member i) e

  comes : Comes l i (w.member i) e (record { member = then; out = out })
  comes = event_comes l i honest.member (w.member i) (sound.keeps i honest) e

  came_more : (v : Vote) → In v then.votes → faulty v.from ≡ false → In v (out ++ w.said)
  came_more v h good =
      elim (comes.kept.hears_no_more v h) [
        | inl b ↦ in_right v out w.said
            (elim (comes.from_before v b) [
              | inl at ↦ sound.can_have_come i v honest at good
              | inr is ↦ came_said faulty w e v can is good
            ])
        | inr o ↦ in_left v out w.said o
      ]

  said-honest_more : (v : Vote) → In v (out ++ w.said) → Honest l faulty v.from
  said-honest_more v h =
      elim (in_either v out w.said h) [ inl o ↦ rw (comes.kept.mine v o) honest | inr s ↦ sound.said-honest v s ]

  said_heard_more : (v : Vote) → In v (out ++ w.said) → (j : ℕ) → v.from ≡ j → In v ((deliver l w i e).member j).votes
  said_heard_more v h =
      all_after l w i e (λ j x. v.from ≡ j → In v x.votes)
      (λ mine.
      elim (in_either v out w.said h) [
        | inl o ↦ comes.kept.hears_itself v o
        | inr s ↦ comes.kept.forgets_none v (comes.all_before v (sound.said_heard i v s mine))
      ])
      (λ j other from.
      elim (in_either v out w.said h)
      [ inl o ↦ absurd (other (sym (comes.kept.mine v o) ∙ from)) | inr s ↦ sound.said_heard j v s from ])

  pub delivered_sound : Sound l faulty (deliver l w i e)
  delivered_sound =
      record {
        keeps = all_after l w i e (λ j x. Honest l faulty j → Keeps l j x) (λ _. comes.kept.member)
            (λ j _. sound.keeps j);
        said-honest = said-honest_more;
        said_heard = λ j v h from. said_heard_more v h j from;
        can_have_come = λ j v h at good.
            all_after l w i e (λ j x. Honest l faulty j → In v x.votes → In v (out ++ w.said))
            (λ _ at. came_more v at good)
            (λ j _ h at. in_right v out w.said (sound.can_have_come j v h at good)) j h at;
        said_once = no_repeat_joined out w.said comes.kept.once sound.said_once
            (λ v o s. comes.kept.news v o
            (comes.all_before v (sound.said_heard i v s (comes.kept.mine v o))));
      }

-- EVERYTHING THAT CAN HAPPEN
pub reachable_sound : (l : Limits) (faulty : ℕ → Bool) {w : Network} → Reachable l faulty w → Sound l faulty w
reachable_sound l faulty begun = new_sound l faulty
reachable_sound l faulty (happens {w = w} i e r lt good can) =
    delivered_sound l faulty w (reachable_sound l faulty r) i e (record { member = lt; not_faulty = good }) can
