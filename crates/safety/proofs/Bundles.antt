-- Bundles: each is a quorum that can be shown, and from what a member heard one can be made.
use Rattle.std.proofs.Common.{◌≡◌, ℕ, ◌<◌, Bool, true, false, cond, List, [], ◌∷◌, refl, inl, inr}
use Rattle.std.proofs.lemmas.Bool.{and_parts, and_from, or_cases, or_left, or_right, ltb-true, lt-ltb, both_ways}
use Rattle.std.proofs.lemmas.Bool.{cases_Bool, not_from_false}
use Rattle.protocol.specs.Vote.{Vote, Limits, is_vote_in, is_for}
use Rattle.protocol.specs.Network.{Network, can_come, all_for, all_different, all_can_come, Bundle}
use Rattle.safety.proofs.Votes.{In, in_none, in_cases, in_here, in_first, in_later, slot_free, free_slot}
use Rattle.safety.proofs.Counting.{Fair, fair_rest, fair_first, Shown, picked, quorum_picked}
use Rattle.safety.proofs.Keeps.{Heard}
use Rattle.safety.proofs.Reached.{Honest, Sound}

-- what was said, as a test
abbrev pub said_in : Network → Vote → Bool
said_in w v = is_vote_in v w.said

abbrev pub CanShow : Limits → (ℕ → Bool) → Network → (k p s x : ℕ) → Type 0
CanShow l faulty w = Shown l faulty (said_in w)

pub comes_from : (l : Limits) (faulty : ℕ → Bool) (w : Network) (vs : List Vote) →
    all_can_come l faulty w vs ≡ true → (v : Vote) → In v vs → (v.from < l.members) × (can_come faulty w v ≡ true)
unfolding all_can_come
comes_from l faulty w [] h v at = absurd (in_none v at)
comes_from l faulty w (u ∷ us) h v at =
    let (a, b) = and_parts _ _ h in
    let (lt, can) = and_parts _ _ a in
    elim (in_cases v u us at) [ inl e ↦ rw e (ltb-true _ _ lt, can) | inr k ↦ comes_from l faulty w us b v k ]

pub said_if_honest : (faulty : ℕ → Bool) (w : Network) (v : Vote) → can_come faulty w v ≡ true →
    faulty v.from ≡ false → In v w.said
said_if_honest faulty w v can good = elim (or_cases _ _ can) [ inl f ↦ absurd (both_ways _ good f) | inr h ↦ h ]

pub bundle_shows : (l : Limits) (faulty : ℕ → Bool) (w : Network) (k p s x : ℕ) (vs : List Vote) →
    Bundle l faulty w k p s x vs → CanShow l faulty w k p s x
bundle_shows l faulty w k p s x vs b =
    record {
      votes = vs;
      fair = record { different = b.different; of_members = λ v h. (comes_from l faulty w vs b.possible v h).0 };
      possible = λ v h. said_if_honest faulty w v (comes_from l faulty w vs b.possible v h).1;
      enough = b.enough;
    }

module _ (l : Limits) (faulty : ℕ → Bool) (w : Network) (sound : Sound l faulty w)
    (i : ℕ) (honest : Honest l faulty i) where
  pub heard_shows : (k p s x : ℕ) → Heard l (w.member i).votes k p s x → CanShow l faulty w k p s x
  heard_shows k p s x h =
      record {
        votes = (w.member i).votes;
        fair = (sound.keeps i honest).heard.fair;
        possible = λ v at. sound.can_have_come i v honest at;
        enough = h;
      }

  -- a vote that it heard can come to others too
  pub heard_comes : (v : Vote) → In v (w.member i).votes → can_come faulty w v ≡ true
  heard_comes v at =
      elim (cases_Bool (faulty v.from))
      [ inl bad ↦ or_left _ _ bad | inr good ↦ or_right _ _ (sound.can_have_come i v honest at good) ]

-- THE VOTES OF ONE QUORUM, PICKED FROM WHAT WAS HEARD

module _ (k p s x : ℕ) where
  pub picked_from : (v : Vote) (vs : List Vote) → In v (picked k p s x vs) → In v vs
  unfolding picked
  picked_from v [] h = h
  picked_from v (w ∷ ws) h = go (is_for k p s x w) h (picked_from v ws)
    where
      go : (b : Bool) → In v (cond b (w ∷ picked k p s x ws) (picked k p s x ws)) →
          (In v (picked k p s x ws) → In v ws) → In v (w ∷ ws)
      go true h rest =
          elim (in_cases v w (picked k p s x ws) h) [ inl e ↦ in_first v w ws e | inr at ↦ in_later v w ws (rest at) ]
      go false h rest = in_later v w ws (rest h)

  pub picked_alike : (vs : List Vote) → all_for k p s x (picked k p s x vs) ≡ true
  unfolding picked all_for
  picked_alike [] = refl
  picked_alike (w ∷ ws) = go (is_for k p s x w) refl (picked_alike ws)
    where
      go : (b : Bool) → is_for k p s x w ≡ b → all_for k p s x (picked k p s x ws) ≡ true →
          all_for k p s x (cond b (w ∷ picked k p s x ws) (picked k p s x ws)) ≡ true
      go true e rest = and_from _ _ e rest
      go false e rest = rest

  pub picked_different : (n : ℕ) (vs : List Vote) → Fair n vs → all_different (picked k p s x vs) ≡ true
  unfolding picked all_different
  picked_different n [] f = refl
  picked_different n (w ∷ ws) f = go (is_for k p s x w) (picked_different n ws (fair_rest n w ws f))
    where
      go : (b : Bool) → all_different (picked k p s x ws) ≡ true →
          all_different (cond b (w ∷ picked k p s x ws) (picked k p s x ws)) ≡ true
      go true rest =
          and_from _ _
          (not_from_false _ (slot_free w (picked k p s x ws)
          (λ v at same. free_slot w v ws (fair_first n w ws f) (picked_from v ws at) same)))
          rest
      go false rest = rest

pub all_come : (l : Limits) (faulty : ℕ → Bool) (w : Network) (vs : List Vote) →
    ((v : Vote) → In v vs → (v.from < l.members) × (can_come faulty w v ≡ true)) → all_can_come l faulty w vs ≡ true
unfolding all_can_come
all_come l faulty w [] h = refl
all_come l faulty w (u ∷ us) h =
    let (lt, can) = h u (in_here u us) in
    and_from _ _ (and_from _ _ (lt-ltb _ _ lt) can) (all_come l faulty w us (λ v at. h v (in_later v u us at)))

pub heard_has_bundle : (l : Limits) (faulty : ℕ → Bool) (w : Network) → Sound l faulty w → (i k p s x : ℕ) →
    Honest l faulty i → Heard l (w.member i).votes k p s x → (vs : List Vote) × Bundle l faulty w k p s x vs
heard_has_bundle l faulty w sound i k p s x honest h =
    let vs : List Vote = (w.member i).votes in
    let fair : Fair l.members vs = (sound.keeps i honest).heard.fair in (
      picked k p s x vs,
      record {
        alike = picked_alike k p s x vs;
        different = picked_different k p s x l.members vs fair;
        possible = all_come l faulty w (picked k p s x vs)
            (λ v at. let here : In v vs = picked_from k p s x v vs at in
            (fair.of_members v here, heard_comes l faulty w sound i honest v here));
        enough = quorum_picked l k p s x vs h;
      },
    )
