-- In which period a quorum is certain of a value.
use Rattle.std.proofs.Common.{◌≡◌, ℕ, zero, suc, ◌+◌, ◌<◌, Bool, true, false, ◌||◌, List, sym, refl, ap, ◌∙◌, ⊎_elim}
use Rattle.std.proofs.Common.{add-one, arith}
use Rattle.std.specs.List.{list_any, range_with_len}
use Rattle.std.proofs.lemmas.Bool.{both_ways, or_left, or_right, or_cases, or_from, cases_eq}
use Rattle.protocol.specs.Vote.{cert, Vote, Limits, has_quorum}
use Rattle.tally.specs.Votes.{certified_by}

swap : (a b c : Bool) → (a || (b || c)) ≡ (b || (a || c))
swap true true c = refl
swap true false c = refl
swap false b c = refl

-- the first n periods, from the first up, are those that `certified_by` looks at, from the last down
module _ (l : Limits) (x : ℕ) (vs : List Vote) where
  abbrev quorum_after : ℕ → Bool
  quorum_after p = has_quorum l cert (p + 1) 0 x vs

  one_more : (a n : ℕ) → list_any quorum_after (range_with_len a (suc n))
      ≡ (quorum_after (a + n) || list_any quorum_after (range_with_len a n))
  one_more a zero = ap (λ p. quorum_after p || false) (omega arith)
  one_more a (suc n) =
      ap (λ b. quorum_after a || b) (one_more (a + 1) n)
      ∙ swap (quorum_after a) (quorum_after (a + 1 + n)) (list_any quorum_after (range_with_len (a + 1) n))
      ∙ ap (λ p. quorum_after p || list_any quorum_after (range_with_len a (suc n))) (omega arith)

  pub any_period : (n : ℕ) → list_any quorum_after (range_with_len 0 n) ≡ certified_by l x n vs
  unfolding certified_by
  any_period zero = refl
  any_period (suc n) =
      one_more 0 n
      ∙ ap (λ p. has_quorum l cert p 0 x vs || list_any quorum_after (range_with_len 0 n)) (omega arith)
      ∙ ap (λ b. has_quorum l cert (suc n) 0 x vs || b) (any_period n)

-- in none of them, and in one more
module _ (l : Limits) (x : ℕ) where
  pub by_none : (vs : List Vote) → certified_by l x 0 vs ≡ false
  unfolding certified_by
  by_none vs = refl

  pub by_more : (n : ℕ) (vs : List Vote) → has_quorum l cert (n + 1) 0 x vs ≡ false → certified_by l x n vs ≡ false →
      certified_by l x (n + 1) vs ≡ false
  unfolding certified_by
  by_more n vs not_here before =
      let here : has_quorum l cert (suc n) 0 x vs ≡ false =
      ap (λ p. has_quorum l cert p 0 x vs) (sym (add-one n)) ∙ not_here in
      ap (λ m. certified_by l x m vs) (add-one n) ∙ or_from _ _ here before

-- a period in which a quorum is certain is one of those
pub by_here : (l : Limits) (x m n : ℕ) (vs : List Vote) → m < n → has_quorum l cert (m + 1) 0 x vs ≡ true →
    certified_by l x n vs ≡ true
unfolding certified_by
by_here l x m zero vs h has = absurd (omega (arith, h))
by_here l x m (suc n) vs h has =
    ⊎_elim (λ e. or_left _ _ (ap (λ p. has_quorum l cert p 0 x vs) (omega (arith, e)) ∙ has))
    (λ other. or_right _ _ (by_here l x m n vs (omega arith) has)) (cases_eq m n)

-- a period in which a quorum is certain
pub by_some : (l : Limits) (x n : ℕ) (vs : List Vote) → certified_by l x n vs ≡ true →
    (p : ℕ) × (has_quorum l cert p 0 x vs ≡ true)
unfolding certified_by
by_some l x zero vs h = absurd (both_ways false refl h)
by_some l x (suc n) vs h =
    ⊎_elim (λ e. (suc n, e)) (λ e. by_some l x n vs e)
    (or_cases (has_quorum l cert (suc n) 0 x vs) (certified_by l x n vs) h)
