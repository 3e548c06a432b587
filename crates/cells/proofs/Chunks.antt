-- A part of memory as chunks of n numbers, one after the other. Assumes nothing.
use Rattle.std.proofs.Common.{◌≡◌, ℕ, zero, suc, ◌+◌, ◌*◌, ◌<◌, ◌≤◌, List, [], length, get_or, drop, refl, ap}
use Rattle.std.proofs.Common.{◌∙◌, length-drop, arith}
use Rattle.std.proofs.lemmas.List.{get_or-take, get_or-drop, length-take-le}
use Rattle.std.specs.Simd.{first_chunks}
use Rattle.cells.specs.Cells.{value_at}
use Rattle.cells.proofs.Written.{same_value}

-- how many there are, and how long each is
pub length-first_chunks : (n k : ℕ) (xs : List ℕ) → length (first_chunks n k xs) ≡ k
length-first_chunks n zero xs = refl
length-first_chunks n (suc k) xs = ap suc (length-first_chunks n k (drop n xs))

pub length-chunk : (n k i : ℕ) (xs : List ℕ) → i < k → n * k ≤ length xs →
    length (get_or (first_chunks n k xs) i []) ≡ n
length-chunk n zero i xs few long = absurd (omega (arith, few))
length-chunk n (suc k) zero xs few long = length-take-le n xs (omega arith)
length-chunk n (suc k) (suc i) xs few long =
    length-chunk n k i (drop n xs) (omega arith) (omega (arith, length-drop n xs))

-- a number of a chunk is that of the part
pub number_at : (n k i j m : ℕ) (xs : List ℕ) → i < k → j < n → m ≡ n * i + j →
    get_or (get_or (first_chunks n k xs) i []) j 0 ≡ get_or xs m 0
number_at n zero i j m xs few low at = absurd (omega (arith, few))
number_at n (suc k) zero j m xs few low at = get_or-take n xs j 0 low ∙ ap (λ p. get_or xs p 0) (omega arith)
number_at n (suc k) (suc i) j m xs few low at =
    number_at n k i j (n * i + j) (drop n xs) (omega arith) low refl ∙ get_or-drop n xs (n * i + j) 0
    ∙ ap (λ p. get_or xs p 0) (omega arith)

-- and so is a value
pub chunk_value : (n k i j m : ℕ) (xs : List ℕ) → i < k → j + 4 ≤ n → m ≡ n * i + j →
    value_at (get_or (first_chunks n k xs) i []) j ≡ value_at xs m
chunk_value n k i j m xs few low at =
    same_value (get_or (first_chunks n k xs) i []) xs j m
    (λ p four. number_at n k i (j + p) (m + p) xs few (omega arith) (omega arith))
