-- What comes of an event keeps what a member keeps, and says just what is new of its own: one lemma for each rule.
use Rattle.std.proofs.Common.{◌≡◌, ℕ, true, ◌⊎◌, List, [], ◌∷◌, ◌++◌, sym, refl, inl, inr}
use Rattle.std.proofs.lemmas.Bool.{and_parts, and_from, not-true, not_from_false, both_ways}
use Rattle.protocol.specs.Vote.{Vote, Limits}
use Rattle.protocol.specs.Member.{Member, Outcome, silent, say}
use Rattle.protocol.specs.Promises.{no_repeat}
use Rattle.protocol.proofs.Ranges.{Ranged}
use Rattle.safety.proofs.Votes.{In, in_none, in_cases, in_first, in_later, in_left, in_right, in_either}
use Rattle.safety.proofs.Counting.{is_false}
use Rattle.safety.proofs.Keeps.{Keeps}
use Rattle.safety.proofs.Moves.{New, fresh_slot, with_vote_keeps}

-- an outcome for member i that had heard `before`: it heard only that and what it says, and all that it says is new
pub record Kept (l : Limits) (i : ℕ) (before : List Vote) (d : Outcome) : Type 0 where
  pub member : Keeps l i d.member
  pub mine : (v : Vote) → In v d.out → v.from ≡ i
  pub hears_itself : (v : Vote) → In v d.out → In v d.member.votes
  pub hears_no_more : (v : Vote) → In v d.member.votes → In v before ⊎ In v d.out
  pub forgets_none : (v : Vote) → In v before → In v d.member.votes
  pub news : (v : Vote) → In v d.out → In v before → ⊥
  pub once : no_repeat d.out ≡ true

pub silent-kept : (l : Limits) (i : ℕ) (m : Member) → Keeps l i m → Kept l i m.votes (silent m)
unfolding no_repeat
silent-kept l i m k =
    record {
      member = k;
      mine = λ v h. absurd (in_none v h);
      hears_itself = λ v h. absurd (in_none v h);
      hears_no_more = λ v h. inl h;
      forgets_none = λ v h. h;
      news = λ v h _. in_none v h;
      once = refl;
    }

-- a change of the member that leaves its votes
pub moved : (l : Limits) (i : ℕ) (b : List Vote) (d : Outcome) (m : Member) → Kept l i b d →
    m.votes ≡ d.member.votes → Keeps l i m → Kept l i b (record { member = m; out = d.out })
moved l i b d m k e new =
    record {
      member = new;
      mine = k.mine;
      hears_itself = λ v h. rw e (k.hears_itself v h);
      hears_no_more = λ v h. k.hears_no_more v (rw e at h);
      forgets_none = λ v h. rw e (k.forgets_none v h);
      news = k.news;
      once = k.once;
    }

pub no_repeat_more : (vs : List Vote) (v : Vote) → no_repeat vs ≡ true → (In v vs → ⊥) →
    no_repeat (vs ++ (v ∷ [])) ≡ true
unfolding no_repeat
no_repeat_more [] v h new = and_from _ _ (not_from_false _ (is_false _ (in_none v))) refl
no_repeat_more (w ∷ ws) v h new =
    let (a, b) = and_parts _ _ h in
    and_from _ _
    (not_from_false _ (is_false _ (λ at.
    elim (in_either w ws (v ∷ []) at) [
      | inl k ↦ both_ways _ (not-true _ a) k
      | inr k ↦ elim (in_cases w v [] k) [ inl e ↦ new (in_first v w ws (sym e)) | inr n ↦ in_none w n ]
    ])))
    (no_repeat_more ws v b (λ k. new (in_later v w ws k)))

-- it says a vote that it may say
pub say-kept : (l : Limits) (i : ℕ) (b : List Vote) (d : Outcome) (v : Vote) → Kept l i b d → Ranged l v → v.from ≡ i →
    New l i d.member v → Kept l i b (say v d)
say-kept l i b d v k range mine new =
    let vs : List Vote = d.member.votes in
    let nowhere : In v vs → ⊥ = λ h. new.fresh v h mine (record { period = refl; step = refl; kind = inl refl }) in
    record {
      member = with_vote_keeps l i d.member v k.member range (fresh_slot i v vs mine new.fresh) (λ _. new);
      mine = λ w h. elim (in_either w d.out (v ∷ []) h) [
        | inl a ↦ k.mine w a
        | inr c ↦ elim (in_cases w v [] c) [ inl e ↦ rw e mine | inr n ↦ absurd (in_none w n) ]
      ];
      hears_itself = λ w h. elim (in_either w d.out (v ∷ []) h) [
        | inl a ↦ in_later w v vs (k.hears_itself w a)
        | inr c ↦ elim (in_cases w v [] c) [ inl e ↦ in_first w v vs e | inr n ↦ absurd (in_none w n) ]
      ];
      hears_no_more = λ w h. elim (in_cases w v vs h) [
        | inl e ↦ inr (in_right w d.out (v ∷ []) (in_first w v [] e))
        | inr a ↦ elim (k.hears_no_more w a) [ inl x ↦ inl x | inr y ↦ inr (in_left w d.out (v ∷ []) y) ]
      ];
      forgets_none = λ w h. in_later w v vs (k.forgets_none w h);
      news = λ w h at. elim (in_either w d.out (v ∷ []) h) [
        | inl a ↦ k.news w a at
        | inr c ↦ elim (in_cases w v [] c)
            [ inl e ↦ nowhere (rw e at (k.forgets_none w at)) | inr n ↦ in_none w n ]
      ];
      once = no_repeat_more d.out v k.once (λ h. nowhere (k.hears_itself v h));
    }
