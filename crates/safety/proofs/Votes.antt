-- Votes in lists: which stand there, and whose slots are taken.
use Rattle.std.proofs.Common.{◌≡◌, ℕ, Bool, true, false, ◌&&◌, eqb, ◌⊎◌, List, [], ◌∷◌, ◌++◌, refl, inl, inr, arith}
use Rattle.std.proofs.lemmas.Bool.Decides.{nat_tests}
use Rattle.std.proofs.lemmas.Bool.{both_ways, or_cases, or_left, or_right, or_parts, or_from}
use Rattle.protocol.specs.Vote.{Vote, same_slot, same_vote, slot_taken, is_vote_in}
use Rattle.protocol.proofs.Votes.{SamePlace, slot_of, slot_test, vote_of}

abbrev pub In : Vote → List Vote → Type 0
In v vs = is_vote_in v vs ≡ true

abbrev pub vote : ℕ → ℕ → ℕ → ℕ → ℕ → Vote
vote k p s x i = record { kind = k; period = p; step = s; value = x; from = i }

pub vote_test : (v : Vote) → same_vote v v ≡ true
vote_test v = grind (arith, nat_tests)

-- IN A LIST

pub in_none : (v : Vote) → In v [] → ⊥
unfolding is_vote_in
in_none v h = both_ways false refl h

pub in_cases : (v w : Vote) (ws : List Vote) → In v (w ∷ ws) → (v ≡ w) ⊎ In v ws
unfolding is_vote_in
in_cases v w ws h = elim (or_cases _ _ h) [ inl e ↦ inl (vote_of v w e) | inr k ↦ inr k ]

pub in_here : (v : Vote) (ws : List Vote) → In v (v ∷ ws)
unfolding is_vote_in
in_here v ws = or_left _ _ (vote_test v)

pub in_first : (v w : Vote) (ws : List Vote) → v ≡ w → In v (w ∷ ws)
in_first v w ws e = rw e (in_here w ws)

pub in_later : (v w : Vote) (ws : List Vote) → In v ws → In v (w ∷ ws)
unfolding is_vote_in
in_later v w ws h = or_right _ _ h

pub in_left : (v : Vote) (xs ys : List Vote) → In v xs → In v (xs ++ ys)
in_left v [] ys h = absurd (in_none v h)
in_left v (x ∷ xs) ys h =
    elim (in_cases v x xs h) [ inl e ↦ in_first v x (xs ++ ys) e | inr k ↦ in_later v x (xs ++ ys) (in_left v xs ys k) ]

pub in_right : (v : Vote) (xs ys : List Vote) → In v ys → In v (xs ++ ys)
in_right v [] ys h = h
in_right v (x ∷ xs) ys h = in_later v x (xs ++ ys) (in_right v xs ys h)

pub in_either : (v : Vote) (xs ys : List Vote) → In v (xs ++ ys) → In v xs ⊎ In v ys
in_either v [] ys h = inr h
in_either v (x ∷ xs) ys h =
    elim (in_cases v x (xs ++ ys) h) [
      | inl e ↦ inl (in_first v x xs e)
      | inr k ↦ elim (in_either v xs ys k) [ inl a ↦ inl (in_later v x xs a) | inr b ↦ inr b ]
    ]

-- SLOTS

-- a free slot has no vote of that member
pub slot_free : (v : Vote) (ws : List Vote) → ((w : Vote) → In w ws → SamePlace v w → ⊥) → slot_taken v ws ≡ false
unfolding slot_taken
slot_free v [] none = refl
slot_free v (w ∷ ws) none =
    or_from _ _ (here (same_slot v w && eqb v.from w.from) refl)
    (slot_free v ws (λ u h. none u (in_later u w ws h)))
  where
    here : (b : Bool) → (same_slot v w && eqb v.from w.from) ≡ b → b ≡ false
    here true e = absurd (none w (in_here w ws) (slot_of v w e))
    here false e = refl

pub free_slot : (v w : Vote) (ws : List Vote) → slot_taken v ws ≡ false → In w ws → SamePlace v w → ⊥
unfolding slot_taken
free_slot v w [] free h s = in_none w h
free_slot v w (u ∷ us) free h s =
    let f : _ = or_parts _ _ free in
    elim (in_cases w u us h)
    [ inl e ↦ both_ways _ f.0 (slot_test v u (rw e at s)) | inr k ↦ free_slot v w us f.1 k s ]

pub slot_has : (v w : Vote) (ws : List Vote) → In w ws → SamePlace v w → slot_taken v ws ≡ true
unfolding slot_taken
slot_has v w [] h s = absurd (in_none w h)
slot_has v w (u ∷ us) h s =
    elim (in_cases w u us h)
    [ inl e ↦ or_left _ _ (slot_test v u (rw e at s)) | inr k ↦ or_right _ _ (slot_has v w us k s) ]
