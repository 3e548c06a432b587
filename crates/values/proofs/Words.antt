-- Words of eight bytes: the number that each writes, as the standard library has it, and what they write together.
-- Assumes nothing.
use Rattle.std.proofs.Common.{◌≡◌, ℕ, zero, suc, ◌+◌, ◌*◌, ◌/◌, ◌%◌, ◌^◌, List, [], ◌∷◌, map, length, get_or, take}
use Rattle.std.proofs.Common.{drop, sym, refl, ap, ◌∙◌, ◌<◌, arith, length-drop, length-take}
use native.Mathlib.Nat.{div-div-eq-div-mul}
use Rattle.std.specs.Simd.{first_chunks}
use Rattle.std.proofs.lemmas.List.{take-append-drop, ext_get_or, get_or-map, length-map}
use Rattle.values.specs.Digits.{number_in, digits, number_of, le_number, le_bytes}
use Rattle.values.proofs.Digits.{number_append}
use Rattle.values.proofs.Places.{places, places_all}

-- the number of eight bytes, by their places
abbrev pub by_places : List ℕ → ℕ
by_places xs =
    get_or xs 0 0 + get_or xs 1 0 * 256 + get_or xs 2 0 * 65536 + get_or xs 3 0 * 16777216
    + get_or xs 4 0 * 4294967296 + get_or xs 5 0 * 1099511627776 + get_or xs 6 0 * 281474976710656 + get_or xs 7 0 *
    72057594037927936

pub word_number : (n : ℕ) (xs word : List ℕ) → n ≡ by_places xs → xs ≡ word → length word ≡ 8 → n ≡ le_number word
unfolding places number_in
word_number n xs word is same long =
    let whole : le_number word ≡ by_places word = ap le_number (sym (places_all 0 8 word (sym long))) ∙ omega arith in
    is ∙ ap by_places same ∙ sym whole

-- the eight bytes of a number, written out
pub word_bytes : (n : ℕ) →
    le_bytes 8 n ≡ (n % 256) ∷ (n / 256 % 256) ∷ (n / 65536 % 256) ∷ (n / 16777216 % 256) ∷ (n / 4294967296 % 256)
    ∷ (n / 1099511627776 % 256) ∷ (n / 281474976710656 % 256) ∷ (n / 72057594037927936 % 256) ∷ []
unfolding digits
word_bytes n = simp div-div-eq-div-mul

-- the numbers of words are the limbs of the number that all of the bytes write
pub words_number : (k : ℕ) (bs : List ℕ) → length bs ≡ 8 * k →
    number_of (map le_number (first_chunks 8 k bs)) ≡ le_number bs
unfolding number_in
words_number zero [] long = refl
words_number zero (b ∷ bs) long = absurd (omega arith)
words_number (suc k) bs long =
    let rest : length (drop 8 bs) ≡ 8 * k = length-drop 8 bs ∙ omega arith in
    let word : length (take 8 bs) ≡ 8 = length-take 8 bs ∙ omega arith in
    ap (λ n. le_number (take 8 bs) + 2 ^ 64 * n) (words_number k (drop 8 bs) rest)
    ∙ ap (λ n. le_number (take 8 bs) + 256 ^ n * le_number (drop 8 bs)) (sym word)
    ∙ sym (number_append 256 (take 8 bs) (drop 8 bs))
    ∙ ap le_number (take-append-drop 8 bs)

pub length_words : (k : ℕ) (bs : List ℕ) → length (first_chunks 8 k bs) ≡ k
length_words zero bs = refl
length_words (suc k) bs = ap suc (length_words k (drop 8 bs))

-- each word has eight bytes
pub word_long : (k i : ℕ) (bs : List ℕ) → length bs ≡ 8 * k → i < k → length (get_or (first_chunks 8 k bs) i []) ≡ 8
word_long zero i bs long low = absurd (omega arith)
word_long (suc k) zero bs long low = length-take 8 bs ∙ omega arith
word_long (suc k) (suc i) bs long low = word_long k i (drop 8 bs) (length-drop 8 bs ∙ omega arith) (omega arith)

-- a list by its places
pub mapped :
    {A B : Type 0} (f : A → B) (xs : List A) (ys : List B) (n : ℕ) (d : A) (e : B) → length xs ≡ n → length ys ≡ n →
    ((i : ℕ) → i < n → get_or ys i e ≡ f (get_or xs i d)) → ys ≡ map f xs
mapped f xs ys n d e long long' at =
    ext_get_or e ys (map f xs) (long' ∙ sym (length-map xs f ∙ long))
    (λ i low. at i (omega (arith, low, long')) ∙ sym (get_or-map f xs i d e (omega (arith, low, long, long'))))
