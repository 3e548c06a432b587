-- The chosen value: there is at most one that a quorum of soft votes is for, so it can be looked for by any way.
-- Assumes nothing.
use Rattle.std.proofs.Common.{◌≡◌, ℕ, ◌+◌, ◌*◌, ◌≤◌, Bool, true, false, cond, ◌&&◌, eqb, ◌⊎◌, List, [], ◌∷◌, sym, refl}
use Rattle.std.proofs.Common.{ap, ◌∙◌, inl, inr, ⊎_elim, zero-add, arith}
use Rattle.std.proofs.lemmas.Bool.{both_ways, and_parts, and_from, and_left, and_right, eqb-true, eq-eqb, leb-true}
use Rattle.std.proofs.lemmas.Bool.{cases_Bool, cases_eq, cond-true, cond-false}
use Rattle.protocol.specs.Vote.{soft, Vote, Limits, is_for, count, quorum, has_quorum}
use Rattle.protocol.specs.Member.{is_in, chosen_in, vote_in_range}
use Rattle.protocol.proofs.Ranges.{Ranged, ranged}
use Rattle.tally.specs.Votes.{all_in_range}

-- only a value that more than half are for can have a quorum
pub quorum-is_majority : (l : Limits) (vs : List Vote) (k p s c : ℕ) → 1 ≤ l.members →
    ((x : ℕ) → (x ≡ c → ⊥) → 2 * count k p s x vs ≤ l.members) → (x : ℕ) → has_quorum l k p s x vs ≡ true → x ≡ c
unfolding has_quorum
quorum-is_majority l vs k p s c some half x has =
    ⊎_elim (λ e. e)
    (λ other. absurd (omega (arith, half x other, leb-true (quorum l.members) (count k p s x vs) has)))
    (cases_eq x c)

-- a quorum is at least one vote
pub quorum_some : (l : Limits) (k p s x : ℕ) (vs : List Vote) → 1 ≤ l.members → has_quorum l k p s x vs ≡ true →
    1 ≤ count k p s x vs
unfolding has_quorum
quorum_some l k p s x vs some has = omega (arith, leb-true (quorum l.members) (count k p s x vs) has)

module _ (l : Limits) (p : ℕ) (vs : List Vote) (bs : List ℕ) (c : ℕ)
    (one : (x : ℕ) → has_quorum l soft p 0 x vs ≡ true → x ≡ c) where
  -- the test of the definition
  abbrev passes : Vote → Bool
  passes w = (eqb w.kind soft && eqb w.period p) && (has_quorum l soft p 0 w.value vs && is_in w.value bs)

  passing : (w : Vote) → passes w ≡ true → (w.value ≡ c) × ((has_quorum l soft p 0 c vs && is_in c bs) ≡ true)
  passing w h =
      let good = (and_parts (eqb w.kind soft && eqb w.period p)
      (has_quorum l soft p 0 w.value vs && is_in w.value bs) h).1 in
      let same = one w.value (and_parts (has_quorum l soft p 0 w.value vs) (is_in w.value bs) good).0 in
      (same, sym (ap (λ x. has_quorum l soft p 0 x vs && is_in x bs) same) ∙ good)

  counted : (w : Vote) → (has_quorum l soft p 0 c vs && is_in c bs) ≡ true → is_for soft p 0 c w ≡ true →
      passes w ≡ true
  counted w good h =
      let a = and_parts ((eqb soft w.kind && eqb p w.period) && eqb 0 w.step) (eqb c w.value) h in
      let b = and_parts (eqb soft w.kind && eqb p w.period) (eqb 0 w.step) a.0 in
      let d = and_parts (eqb soft w.kind) (eqb p w.period) b.0 in
      let value : c ≡ w.value = eqb-true c _ a.1 in
      and_from _ _
      (and_from _ _ (eq-eqb w.kind soft (sym (eqb-true soft _ d.0)))
      (eq-eqb w.period p (sym (eqb-true p _ d.1))))
      (sym (ap (λ x. has_quorum l soft p 0 x vs && is_in x bs) value) ∙ good)

  -- it has a quorum, and its block is here
  pub chosen_one : (ws : List Vote) → (has_quorum l soft p 0 c vs && is_in c bs) ≡ true → 1 ≤ count soft p 0 c ws →
      chosen_in l p ws vs bs ≡ c ∷ []
  unfolding chosen_in count
  chosen_one [] good some = absurd (omega (arith, some))
  chosen_one (w ∷ ws) good some =
      ⊎_elim (λ e. cond-true _ _ _ e ∙ ap (λ x. x ∷ []) (passing w e).0)
      (λ e. cond-false _ _ _ e ∙ chosen_one ws good (fewer e (cases_Bool (is_for soft p 0 c w))))
      (cases_Bool (passes w))
    where
      fewer : passes w ≡ false → (is_for soft p 0 c w ≡ true) ⊎ (is_for soft p 0 c w ≡ false) → 1 ≤ count soft p 0 c ws
      fewer e (inl own) = absurd (both_ways _ e (counted w good own))
      fewer e (inr other) =
          let none : cond (is_for soft p 0 c w) 1 0 + count soft p 0 c ws ≡ count soft p 0 c ws =
          ap (λ b. cond b 1 0 + count soft p 0 c ws) other ∙ zero-add _ in
          omega (arith, some, none)

  -- it has no quorum, or its block is not here
  pub chosen_not : (ws : List Vote) → (has_quorum l soft p 0 c vs && is_in c bs) ≡ false → chosen_in l p ws vs bs ≡ []
  unfolding chosen_in
  chosen_not [] bad = refl
  chosen_not (w ∷ ws) bad =
      ⊎_elim (λ e. absurd (both_ways _ bad (passing w e).1)) (λ e. cond-false _ _ _ e ∙ chosen_not ws bad)
      (cases_Bool (passes w))

-- no vote is of a period out of range
pub chosen-out : (l : Limits) (p : ℕ) (ws vs : List Vote) (bs : List ℕ) → all_in_range l ws ≡ true →
    (1 ≤ p → p ≤ l.periods → ⊥) → chosen_in l p ws vs bs ≡ []
unfolding chosen_in all_in_range
chosen-out l p [] vs bs good out = refl
chosen-out l p (w ∷ ws) vs bs good out =
    let ranges = and_parts (vote_in_range l w) (all_in_range l ws) good in
    cond-false _ _ _ (and_left _ _
    (and_right (eqb w.kind soft) _ (other ranges.0 (cases_Bool (eqb w.period p)))))
    ∙ chosen-out l p ws vs bs ranges.1 out
  where
    other : vote_in_range l w ≡ true → (eqb w.period p ≡ true) ⊎ (eqb w.period p ≡ false) →
        eqb w.period p ≡ false
    other range (inl e) =
        let r : Ranged l w = ranged l w range in
        let same = eqb-true w.period p e in
        absurd (out (omega (arith, same, r.from_1)) (omega (arith, same, r.periods)))
    other range (inr e) = e

-- the majority of the soft votes, if it has a quorum and its block is here
pub chosen_majority : (l : Limits) (vs : List Vote) (bs : List ℕ) (p c : ℕ) (b : Bool) → 1 ≤ l.members →
    ((x : ℕ) → (x ≡ c → ⊥) → 2 * count soft p 0 x vs ≤ l.members) →
    (has_quorum l soft p 0 c vs && is_in c bs) ≡ b → cond b (c ∷ []) [] ≡ chosen_in l p vs vs bs
chosen_majority l vs bs p c b some half e = by b e
  where
    one : (x : ℕ) → has_quorum l soft p 0 x vs ≡ true → x ≡ c
    one = quorum-is_majority l vs soft p 0 c some half

    by : (t : Bool) → (has_quorum l soft p 0 c vs && is_in c bs) ≡ t → cond t (c ∷ []) [] ≡ chosen_in l p vs vs bs
    by true e =
        sym (chosen_one l p vs bs c one vs e
        (quorum_some l soft p 0 c vs some (and_parts (has_quorum l soft p 0 c vs) (is_in c bs) e).0))
    by false e = sym (chosen_not l p vs bs c one vs e)
