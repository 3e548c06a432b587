-- What was written, from its pieces. Assumes nothing.
use Rattle.std.proofs.Common.{◌≡◌, ℕ, ◌<◌, ◌≤◌, List, ◌++◌, length, drop, IsErrAnd, Ok, Result, sym, refl, ap, ◌∙◌}
use Rattle.std.proofs.lemmas.Result.{err_from_is_err_and}
use Rattle.values.proofs.Pieces.{Front}
use Rattle.wire.specs.Bytes.{Written}

pub wrote : (bs q before after : List ℕ) (n : ℕ) → bs ≡ q → Front before n q after → n ≤ length before →
    Written bs before after (Ok n)
wrote bs q before after n e front room =
    (sym (ap length e ∙ front.long), room, front.is ∙ ap (λ l. l ++ drop n before) (sym e))

pub no_room : (bs before : List ℕ) (n m : ℕ) (r : Result ℕ ℕ) → length bs ≡ n → (m ≡ n) × (length before < m) →
    IsErrAnd r (λ x. x ≡ m) → Written bs before before r
no_room bs before n m r long h e =
    let p = err_from_is_err_and r e in
    rw (p.1, p.2) (h.0 ∙ sym long, h.1, refl)
