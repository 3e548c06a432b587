-- When two votes are of one slot and member, and when they are one vote.
use Rattle.std.proofs.Common.{◌≡◌, ℕ, true, ◌&&◌, eqb}
use Rattle.std.proofs.lemmas.Bool.{and_parts, and_from, eqb-true, eq-eqb}
use Rattle.protocol.specs.Vote.{Vote, same_slot, same_vote}

-- one slot, of one member
pub record Same (k p s i k' p' s' i' : ℕ) : Type 0 where
  pub kind : k ≡ k'
  pub period : p ≡ p'
  pub step : s ≡ s'
  pub from : i ≡ i'

-- of two votes: they say the same of whose they are and where
abbrev pub SamePlace : Vote → Vote → Type 0
SamePlace v w = Same v.kind v.period v.step v.from w.kind w.period w.step w.from

module _ (k p s i k' p' s' i' : ℕ) where
  pub same_of : (((eqb k k' && eqb p p') && eqb s s') && eqb i i') ≡ true → Same k p s i k' p' s' i'
  same_of h =
      let a : _ = and_parts _ _ h in
      let b : _ = and_parts _ _ a.0 in
      let c : _ = and_parts _ _ b.0 in
      record {
        kind = eqb-true _ _ c.0;
        period = eqb-true _ _ c.1;
        step = eqb-true _ _ b.1;
        from = eqb-true _ _ a.1;
      }

  pub same_test : Same k p s i k' p' s' i' → (((eqb k k' && eqb p p') && eqb s s') && eqb i i') ≡ true
  same_test h =
      and_from _ _ (and_from _ _ (and_from _ _ (eq-eqb _ _ h.kind) (eq-eqb _ _ h.period)) (eq-eqb _ _ h.step))
      (eq-eqb _ _ h.from)

pub slot_of : (v w : Vote) → (same_slot v w && eqb v.from w.from) ≡ true → SamePlace v w
slot_of v w = same_of _ _ _ _ _ _ _ _

pub slot_test : (v w : Vote) → SamePlace v w → (same_slot v w && eqb v.from w.from) ≡ true
slot_test v w = same_test _ _ _ _ _ _ _ _

pub same_votes : (v w : Vote) → SamePlace v w → v.value ≡ w.value → v ≡ w
same_votes v w s e =
    λ i. record { kind = s.kind i; period = s.period i; step = s.step i; value = e i; from = s.from i }

pub vote_of : (v w : Vote) → same_vote v w ≡ true → v ≡ w
vote_of v w h =
    let a : _ = and_parts _ _ h in
    let b : _ = and_parts _ _ a.0 in
    same_votes v w (slot_of v w (and_from _ _ b.0 a.1)) (eqb-true _ _ b.1)
