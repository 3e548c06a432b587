-- A change of one part of the memory.
use Rattle.std.proofs.Common.{◌≡◌, ℕ, ◌+◌, ◌-◌, ◌≤◌, ◌⊎◌, List, ◌++◌, length, take, drop, sym, ap, ◌∙◌, ⊎_elim, arith}
use borrow.Rule.Slice.PartMut.{put_mid}
use Rattle.std.specs.List.{between}
use Rattle.std.proofs.lemmas.List.{take_at, take-take, drop-drop}
use Rattle.std.proofs.lemmas.Slice.{between_is, take-put_mid_below, drop-put_mid, between-put_mid}
use Rattle.network.specs.Parts.{OnlyPart}

-- the part from `start` to `end` of `xs` is now `ys`
module _ (start end : ℕ) (xs ys : List ℕ) (order : start ≤ end) (within : end ≤ length xs)
    (long : length ys ≡ end - start) where
  abbrev put : List ℕ
  put = put_mid start (end - start) xs ys

  pub part-is : between start end put ≡ ys
  part-is = between-put_mid start (end - start) xs ys end (omega arith) long

  pub part-only : OnlyPart start end xs put
  part-only = record {
    front = take-put_mid_below start (end - start) xs ys start (omega arith) (omega arith);
    rest = drop-put_mid start (end - start) xs ys end (omega arith) (omega arith) long;
  }

-- what a slice of all of it left, as the `Vec` has it then
pub written-back : (n : ℕ) (new rest : List ℕ) → length new ≡ n → new ≡ take n (new ++ rest)
written-back n new rest long = sym (take_at new rest n long)

-- WHAT LIES OUTSIDE THE PART

-- a part that ends before it
part_before : (start end a b : ℕ) (xs ys : List ℕ) → OnlyPart start end xs ys → b ≤ start →
    between a b ys ≡ between a b xs
part_before start end a b xs ys only h =
    between_is ys a b ∙ ap (drop a) (sym (take-take b start ys h) ∙ ap (take b) only.front ∙ take-take b start xs h)
    ∙ sym (between_is xs a b)

-- a part that begins behind it
part_behind : (start end a b : ℕ) (xs ys : List ℕ) → OnlyPart start end xs ys → end ≤ a →
    between a b ys ≡ between a b xs
part_behind start end a b xs ys only h =
    let there : (zs : List ℕ) → drop a zs ≡ drop (a - end) (drop end zs) =
    λ zs. ap (λ (n : ℕ). drop n zs) (omega arith) ∙ sym (drop-drop (a - end) end zs) in
    ap (take (b - a)) (there ys ∙ ap (drop (a - end)) only.rest ∙ sym (there xs))

pub part_apart : (start end a b : ℕ) (xs ys : List ℕ) → OnlyPart start end xs ys → (b ≤ start) ⊎ (end ≤ a) →
    between a b ys ≡ between a b xs
part_apart start end a b xs ys only =
    ⊎_elim (part_before start end a b xs ys only) (part_behind start end a b xs ys only)

-- a part by another spelling of its bounds and of the whole
pub span_is : (start end a size : ℕ) (xs ys : List ℕ) → start ≡ a → end ≡ start + size → xs ≡ ys →
    between start end xs ≡ between a (a + size) ys
span_is start end a size xs ys is-start is-end same =
    ap (λ (zs : List ℕ). between start end zs) same ∙ ap (λ (n : ℕ). between start n ys) is-end
    ∙ ap (λ (n : ℕ). between n (n + size) ys) is-start
