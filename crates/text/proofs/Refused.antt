-- Which word of a line is the first that is no number, and the error that says so.
use Rattle.std.proofs.Common.{◌≡◌, ℕ, ◌^◌, ◌<◌, List, Some, Ok, Err, Option, Result, decimal, sym, ◌∙◌, subst}
use Rattle.std.specs.Borrow.{Bor}
use Rattle.std.specs.Result.{IsErrAnd}
use Rattle.limits.specs.declared.bounds.Limits.{Limits}
use Rattle.limits.specs.declared.bounds.Limit.{Limit}
use Rattle.text.specs.declared.network.NetworkError.{NetworkError}
use Rattle.text.specs.declared.network.NetworkError.TheVariants.{NotNumber}
use Rattle.text.specs.Network.{Fields, IsNumber, FirstNoNumber, Reads}

pub is_number : {w : List ℕ} {n : ℕ} → n < 2 ^ 64 → w ≡ decimal n → IsNumber w
is_number {w} {n} small is = (n, (small, is))

-- the error says which of four words is the first that is no number
pub not_number : {m p s b : Bor (List ℕ)} (line : List ℕ)
    (fields : Option (Bor (List ℕ) × Bor (List ℕ) × Bor (List ℕ) × Bor (List ℕ)))
    (limit : Limit) (e : NetworkError) (r : Result Limits NetworkError) →
    IsErrAnd r (λ x. x ≡ e) → Fields line fields → fields ≡ Some (m, p, s, b) → e ≡ NotNumber limit →
    FirstNoNumber limit m.now p.now s.now b.now → Reads line r
not_number {m} {p} {s} {b} line fields limit e (Err x) gave h is error first =
    let says : NetworkError → Type 0 = λ y. Reads line (Err y) in
    subst says (sym error ∙ sym gave) (m.now, (p.now, (s.now, (b.now, (subst (Fields line) is h, first)))))
not_number line fields limit e (Ok l) gave h is error first = absurd gave
