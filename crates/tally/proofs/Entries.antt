-- Rows of entries: each entry is that of the part, and the number for a value, entry by entry; and optional values as
-- what was heard. Assumes nothing.
use Rattle.std.proofs.Common.{◌≡◌, ℕ, zero, suc, ◌+◌, ◌*◌, ◌<◌, ◌≤◌, Bool, true, false, cond}
use Rattle.std.proofs.Common.{eqb, List, [], ◌∷◌, length}
use Rattle.std.proofs.Common.{get_or, take, sym, refl, ap, ◌∙◌, ⊎_elim, add-one, arith}
use Rattle.std.proofs.Common.{Some, None, Option}
use Rattle.std.specs.Bool.{then_some}
use Rattle.std.specs.Option as option
use Rattle.std.specs.Option.{option_eq}
use Rattle.std.specs.Simd.{first_chunks}
use Rattle.std.proofs.lemmas.Bool.Decides.{Decides-eqb, Decides-like, same_from_decides}
use Rattle.protocol.specs.Member.{is_some}
use Rattle.values.specs.Digits.{number_of}
use Rattle.values.specs.declared.value.Value.{Value}
use Rattle.cells.specs.Cells.{listed}
use Rattle.std.proofs.lemmas.Bool.{cases_Bool, eq-eqb, ne_eqb}
use Rattle.std.proofs.lemmas.List.Sums.{count_by_more_yes, count_by_more_no}
use Rattle.protocol.specs.Network.{how_many}
use Rattle.cells.proofs.Chunks.{number_at, chunk_value}
use Rattle.tally.specs.Votes.{heard_at, is_only}
use Rattle.tally.specs.Rows.{is_for, number_for}

-- an entry of the part, as a chunk of eight numbers
pub chunk_heard : (part : List ℕ) (k e : ℕ) → e < k → heard_at (get_or (first_chunks 8 k part) e []) 0 ≡ heard_at part e
chunk_heard part k e few =
    λ i. cond (eqb (number_at 8 k e 0 (8 * e) part few (omega arith) (omega arith) i) 0) []
    (chunk_value 8 k e 1 (8 * e + 1) part few (omega arith) (omega arith) i ∷ [])

abbrev pub bit : Bool → ℕ
bit b = cond b 1 0

-- the first n of a row, by what was heard at each
pub number_first : (x n : ℕ) (row : List (List ℕ)) → n ≤ length row →
    number_for x (take n row) ≡ how_many n (λ i. is_only x (heard_at (get_or row i []) 0))
unfolding how_many
number_first x zero row few = refl
number_first x (suc n) row few =
    let before = number_first x n row (omega arith) in
    ap (λ m. number_for x (take m row)) (sym (add-one n))
    ∙ ⊎_elim
    (λ yes. let here : bit (is_for x (get_or row n [])) ≡ 1 = ap bit yes in
    omega (arith, count_by_more_yes (is_for x) row n [] (omega arith) yes, here, before))
    (λ no. let here : bit (is_for x (get_or row n [])) ≡ 0 = ap bit no in
    omega (arith, count_by_more_no (is_for x) row n [] (omega arith) no, here, before))
    (cases_Bool (is_for x (get_or row n [])))

-- one entry more of a row
module _ (row : List (List ℕ)) (n x : ℕ) (few : n < length row) where
  pub row_empty : [] ≡ heard_at (get_or row n []) 0 → number_for x (take (n + 1) row) ≡ number_for x (take n row)
  unfolding is_only
  row_empty e = count_by_more_no (is_for x) row n [] few (ap (is_only x) (sym e))

  pub row_same : (y : ℕ) → y ∷ [] ≡ heard_at (get_or row n []) 0 → y ≡ x →
      number_for x (take (n + 1) row) ≡ number_for x (take n row) + 1
  unfolding is_only
  row_same y e same = count_by_more_yes (is_for x) row n [] few (ap (is_only x) (sym e) ∙ eq-eqb x y (sym same))

  pub row_other : (y : ℕ) → y ∷ [] ≡ heard_at (get_or row n []) 0 → (y ≡ x → ⊥) →
      number_for x (take (n + 1) row) ≡ number_for x (take n row)
  unfolding is_only
  row_other y e other =
      count_by_more_no (is_for x) row n [] few (ap (is_only x) (sym e) ∙ ne_eqb x y (λ at. other (sym at)))

-- an optional value as what was heard: whether it is one, and this one
pub some_listed : (o : Option Value) → option.is_some o ≡ is_some (listed o)
unfolding is_some
some_listed None = refl
some_listed (Some v) = refl

pub only_listed : (o : Option Value) (v : Value) →
    option_eq (λ x y. eqb (number_of x.limbs) (number_of y.limbs)) o (Some v) ≡ is_only (number_of v.limbs) (listed o)
unfolding is_only
only_listed None v = refl
only_listed (Some y) v =
    same_from_decides _ _ (Decides-eqb (number_of y.limbs) (number_of v.limbs))
    (Decides-like _ sym sym (Decides-eqb (number_of v.limbs) (number_of y.limbs)))

pub listed_then : (b : Bool) (v : Value) → listed (then_some b v) ≡ cond b (number_of v.limbs ∷ []) []
listed_then true v = refl
listed_then false v = refl
