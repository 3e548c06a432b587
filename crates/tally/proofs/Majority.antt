-- One pass that leaves the only value which more than half can be for. Assumes nothing.
use Rattle.std.proofs.Common.{◌≡◌, ℕ, ◌+◌, ◌-◌, ◌*◌, ◌<◌, ◌≤◌, List, [], ◌∷◌, length, get_or, take, sym, refl, ap, ◌∙◌}
use Rattle.std.proofs.Common.{subst, ⊎_elim, arith}
use Rattle.std.proofs.lemmas.Bool.{cases_eq}
use Rattle.tally.specs.Votes.{heard_at}
use Rattle.tally.specs.Rows.{number_for}
use Rattle.tally.proofs.Entries.{row_empty, row_same, row_other}

-- of the first n entries, the candidate leads by at most so much, and every other value is behind by it
pub record Leads (row : List (List ℕ)) (n candidate lead : ℕ) : Type 0 where
  pub low : lead ≤ n
  pub own : 2 * number_for candidate (take n row) ≤ n + lead
  pub others : (x : ℕ) → (x ≡ candidate → ⊥) → 2 * number_for x (take n row) + lead ≤ n

module _ (row : List (List ℕ)) where
  pub leads_none : (candidate : ℕ) → Leads row 0 candidate 0
  leads_none candidate = record { low = omega arith; own = omega arith; others = λ x other. omega arith }

  module _ (n candidate lead : ℕ) (few : n < length row) (h : Leads row n candidate lead) where
    -- nothing heard
    pub leads_empty : [] ≡ heard_at (get_or row n []) 0 → Leads row (n + 1) candidate lead
    leads_empty e =
        record {
          low = omega arith;
          own = omega (arith, row_empty row n candidate few e);
          others = λ x other. omega (arith, row_empty row n x few e, h.others x other);
        }

    -- a new candidate
    pub leads_new : (y : ℕ) → y ∷ [] ≡ heard_at (get_or row n []) 0 → lead ≡ 0 → Leads row (n + 1) y 1
    leads_new y e none =
        record {
          low = omega arith;
          own = omega (arith, row_same row n y few y e refl, half y);
          others = λ x other. omega (arith, row_other row n x few y e (λ at. other (sym at)), half x);
        }
      where
        half : (x : ℕ) → 2 * number_for x (take n row) ≤ n
        half x =
            ⊎_elim (λ same. omega (arith, ap (λ z. number_for z (take n row)) same))
            (λ other. omega (arith, h.others x other)) (cases_eq x candidate)

    -- one more for the candidate
    pub leads_more : (y : ℕ) → y ∷ [] ≡ heard_at (get_or row n []) 0 → y ≡ candidate →
        Leads row (n + 1) candidate (lead + 1)
    leads_more y e same =
        record {
          low = omega arith;
          own = omega (arith, row_same row n candidate few y e same);
          others = λ x other.
              omega (arith, row_other row n x few y e (λ at. other (sym at ∙ same)), h.others x other);
        }

    -- one against it
    pub leads_less : (y : ℕ) → y ∷ [] ≡ heard_at (get_or row n []) 0 → (y ≡ candidate → ⊥) → 1 ≤ lead →
        Leads row (n + 1) candidate (lead - 1)
    leads_less y e against some =
        record {
          low = omega arith;
          own = omega (arith, row_other row n candidate few y e against);
          others = λ x other. omega (arith, behind x, h.others x other);
        }
      where
        behind : (x : ℕ) → number_for x (take (n + 1) row) ≤ number_for x (take n row) + 1
        behind x =
            ⊎_elim (λ same. omega (arith, row_same row n x few y e same))
            (λ other. omega (arith, row_other row n x few y e other))
            (cases_eq y x)

pub leads_at : (row : List (List ℕ)) (n a b lead m : ℕ) → Leads row n a lead → b ≡ a → m ≡ lead → Leads row n b m
leads_at row n a b lead m h e d = subst (λ (z : ℕ). Leads row n b z) (sym d)
    (subst (λ (z : ℕ). Leads row n z lead) (sym e) h)
