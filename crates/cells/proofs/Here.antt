-- The blocks that are here: whether one is found, and one more. Assumes nothing.
use Rattle.std.proofs.Common.{◌≡◌, ◌==◌, ℕ, zero, suc, ◌+◌, ◌*◌, ◌<◌, ◌≤◌, ◌^◌, ◌||◌, false, List, [], ◌∷◌, length}
use Rattle.std.proofs.Common.{true, eqb, get_or, take, sym, refl, ap, ◌∙◌, inl, ⊎_elim, add-one, arith, Fits, w64}
use Rattle.std.specs.Simd.{first_chunks}
use Rattle.std.specs.List.{list_any}
use Rattle.std.specs.Cmp.Lexicographic.{pointwise}
use Rattle.std.proofs.Math.Bool.{or_comm}
use Rattle.std.proofs.lemmas.Bool.{or_left, or_right, or_from, eq-eqb, ne_eqb, cases_eq}
use Rattle.std.proofs.lemmas.Bool.Decides.{Decides-eqb, Decides-like}
use Rattle.std.proofs.lemmas.List.Folds.{list_any_more}
use Rattle.std.proofs.lemmas.Slice.Eq.{slice_eq-Decides}
use Rattle.protocol.specs.Member.{is_in, add_block}
use Rattle.values.specs.Digits.{number_of, under}
use Rattle.values.specs.declared.value.Value.{Value}
use Rattle.values.proofs.Limbs.{four_by_places, four-under, same_number}
use Rattle.cells.specs.Cells.{value_at, Only}
use Rattle.cells.specs.Blocks.{blocks_in}
use Rattle.cells.proofs.Written.{same_value}
use Rattle.cells.proofs.Chunks.{length-first_chunks, length-chunk, number_at, chunk_value}

-- the blocks as k chunks of four numbers
module _ (part : List ℕ) (k : ℕ) (v : Value) (long : 4 * k ≤ length part)
    (fits : (i : ℕ) → Fits w64 (get_or part i 0)) where
  abbrev chunk : ℕ → List ℕ
  chunk n = get_or (first_chunks 4 k part) n []

  -- a chunk has the value's limbs just where it writes the value
  same_chunk : (n : ℕ) → n < k → pointwise eqb (chunk n) v.limbs ≡ (number_of v.limbs == value_at part (4 * n))
  same_chunk n few =
      same_number v.limbs (chunk n) _ v.four four v.fit small
      (Decides-like _ sym sym (slice_eq-Decides Decides-eqb (chunk n) v.limbs _ refl))
      ∙ ap (eqb (number_of v.limbs)) value
    where
      four : length (chunk n) ≡ 4
      four = length-chunk 4 k n part few long

      value : number_of (chunk n) ≡ value_at part (4 * n)
      value =
          ap number_of (four_by_places (chunk n) four)
          ∙ chunk_value 4 k n 0 (4 * n) part few (omega arith) (omega arith)

      fit : (j : ℕ) → j < 4 → get_or (chunk n) j 0 < 2 ^ 64
      fit j low =
          let same = number_at 4 k n j (4 * n + j) part few low (omega arith) in
          let f = fits (4 * n + j) in
          omega (arith, same, f)

      small : under (2 ^ 64) (chunk n) ≡ true
      small =
          let each = four-under (2 ^ 64) _ _ _ _ (fit 0 (omega arith)) (fit 1 (omega arith)) (fit 2 (omega arith))
          (fit 3 (omega arith)) in
          ap (under (2 ^ 64)) (four_by_places (chunk n) four) ∙ each

  -- the first n blocks
  pub any_here : (n : ℕ) → n ≤ k → list_any (λ c. pointwise eqb c v.limbs) (take n (first_chunks 4 k part)) ≡
      is_in (number_of v.limbs) (blocks_in part n)
  unfolding is_in blocks_in
  any_here zero few = refl
  any_here (suc n) few =
      ap (λ m. list_any (λ c. pointwise eqb c v.limbs) (take m (first_chunks 4 k part))) (sym (add-one n))
      ∙ list_any_more (λ c. pointwise eqb c v.limbs) (first_chunks 4 k part) n []
      (omega (arith, length-first_chunks 4 k part))
      ∙ (λ i. any_here n (omega arith) i || same_chunk n (omega arith) i)
      ∙ or_comm (is_in (number_of v.limbs) (blocks_in part n)) (number_of v.limbs == value_at part (4 * n))

-- the n-th is the value
pub here : (part : List ℕ) (x n count : ℕ) → n < count → value_at part (4 * n) ≡ x →
    is_in x (blocks_in part count) ≡ true
unfolding is_in blocks_in
here part x n zero h e = absurd (omega (arith, h))
here part x n (suc m) h e =
    ⊎_elim (λ same. or_left _ _ (eq-eqb x _ (sym e ∙ ap (λ j. value_at part (4 * j)) same)))
    (λ other. or_right _ _ (here part x n m (omega arith) e)) (cases_eq n m)

-- the n-th is another
pub not_here : (part : List ℕ) (x n : ℕ) → is_in x (blocks_in part n) ≡ false → (value_at part (4 * n) ≡ x → ⊥) →
    is_in x (blocks_in part (n + 1)) ≡ false
unfolding is_in blocks_in
not_here part x n before other =
    rw add-one (or_from _ _ (ne_eqb x _ (λ e. other (sym e))) before)

-- blocks whose places did not change
pub same_blocks : (part now : List ℕ) (n b : ℕ) → Only (4 * n) b part now → blocks_in now n ≡ blocks_in part n
unfolding blocks_in
same_blocks part now n b only = below n (omega arith)
  where
    below : (m : ℕ) → m ≤ n → blocks_in now m ≡ blocks_in part m
    below zero h = refl
    below (suc m) h =
        λ i. same_value now part (4 * m) (4 * m) (λ j low. only (4 * m + j) (inl (omega arith))) i
        ∷ below m (omega arith) i

-- how many they are
pub length-blocks : (part : List ℕ) (n : ℕ) → length (blocks_in part n) ≡ n
unfolding blocks_in
length-blocks part zero = refl
length-blocks part (suc n) = ap suc (length-blocks part n)

-- one more
pub here_more : (part now : List ℕ) (x n : ℕ) → is_in x (blocks_in part n) ≡ false → Only (4 * n) (4 * n + 4) part now →
    value_at now (4 * n) ≡ x → blocks_in now (n + 1) ≡ add_block x (blocks_in part n)
unfolding blocks_in
here_more part now x n absent only is =
    rw (add-one, absent) (λ i. is i ∷ same_blocks part now n (4 * n + 4) only i)

pub here_none : (part : List ℕ) → blocks_in part 0 ≡ []
unfolding blocks_in
here_none part = refl
