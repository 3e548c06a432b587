-- What a write of a few numbers side by side leaves, and an optional value. Assumes nothing.
use Rattle.std.proofs.Common.{refl, ◌≡◌, ℕ, ◌+◌, ◌-◌, ◌<◌, ◌≤◌, List, [], ◌∷◌, length, get_or, take}
use Rattle.std.proofs.Common.{drop, set, sym, ap, ◌∙◌}
use Rattle.std.proofs.Common.{inl, inr, Bool, true, false, cond, not, arith}
use Rattle.std.specs.Bool.{then_some}
use borrow.Rule.Slice.PartMut.{put_mid}
use Rattle.std.proofs.lemmas.List.{get_or_append_left, get_or-append_right, get_or-drop, get_or-take, get_or-set_other}
use Rattle.std.proofs.lemmas.List.{length-take-le}
use Rattle.values.specs.Digits.{number_of}
use Rattle.values.proofs.Limbs.{four_by_places}
use Rattle.values.specs.declared.value.Value.{Value}
use Rattle.cells.specs.Cells.{value_at, listed, Only}

-- k numbers were written at place a
module _ (a k : ℕ) (xs ys : List ℕ) (long : length ys ≡ k) (within : a + k ≤ length xs) where
  front : length (take a xs) ≡ a
  front = length-take-le a xs (omega arith)

  -- what was written
  pub written : (j : ℕ) → j < k → get_or (put_mid a k xs ys) (a + j) 0 ≡ get_or ys j 0
  written j h =
      get_or-append_right (take a xs) _ a (a + j) 0 front (omega arith)
      ∙ get_or_append_left ys _ 0 (a + j - a) (omega arith)
      ∙ ap (λ i. get_or ys i 0) (omega arith)

  -- nothing else
  pub written_only : Only a (a + k) xs (put_mid a k xs ys)
  written_only i (inl below) =
      get_or_append_left (take a xs) _ 0 i (omega (arith, front)) ∙ get_or-take a xs i 0 below
  written_only i (inr above) =
      get_or-append_right (take a xs) _ a i 0 front (omega arith)
      ∙ get_or-append_right ys _ k (i - a) 0 long (omega arith)
      ∙ get_or-drop k (drop a xs) _ 0
      ∙ get_or-drop a xs _ 0
      ∙ ap (λ j. get_or xs j 0) (omega arith)

-- a value is the same where its four places are
pub same_value : (xs ys : List ℕ) (a b : ℕ) → ((j : ℕ) → j < 4 → get_or xs (a + j) 0 ≡ get_or ys (b + j) 0) →
    value_at xs a ≡ value_at ys b
same_value xs ys a b h = λ i. number_of (zero i ∷ h 1 (omega arith) i ∷ h 2 (omega arith) i ∷ h 3 (omega arith) i ∷ [])
  where
    zero : get_or xs a 0 ≡ get_or ys b 0
    zero = ap (λ n. get_or xs n 0) (omega arith) ∙ h 0 (omega arith) ∙ ap (λ n. get_or ys n 0) (omega arith)

pub value_written : (a : ℕ) (xs ys : List ℕ) → length ys ≡ 4 → a + 4 ≤ length xs →
    value_at (put_mid a 4 xs ys) a ≡ number_of ys
value_written a xs ys long within =
    same_value (put_mid a 4 xs ys) ys a 0
    (λ j low. written a 4 xs ys long within j low ∙ ap (λ i. get_or ys i 0) (omega arith))
    ∙ ap number_of (sym (four_by_places ys long))

-- places that did not change are those outside of more
pub only_wider : (a b low high : ℕ) (xs ys : List ℕ) → Only a b xs ys → low ≤ a → b ≤ high → Only low high xs ys
only_wider a b low high xs ys only l h i (inl below) = only i (inl (omega arith))
only_wider a b low high xs ys only l h i (inr above) = only i (inr (omega arith))

pub only_both : (a b : ℕ) (xs ys zs : List ℕ) → Only a b xs ys → Only a b ys zs → Only a b xs zs
only_both a b xs ys zs first then i out = then i out ∙ first i out

pub only_set : (a v : ℕ) (xs : List ℕ) → Only a (a + 1) xs (set xs a v)
only_set a v xs i (inl below) = get_or-set_other xs a i v 0 (λ e. absurd (omega (arith, e)))
only_set a v xs i (inr above) = get_or-set_other xs a i v 0 (λ e. absurd (omega (arith, e)))

-- an optional value of the code, none where a test says so
pub listed_some : (b : Bool) (v : Value) → listed (then_some (not b) v) ≡ cond b [] (number_of v.limbs ∷ [])
listed_some true v = refl
listed_some false v = refl
