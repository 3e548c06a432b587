-- A list written out by its places. Assumes nothing.
use Rattle.std.proofs.Common.{◌≡◌, ℕ, zero, suc, ◌+◌, ◌<◌, true, List, [], ◌∷◌, length, get_or, drop, sym, refl, ap}
use Rattle.std.proofs.Common.{◌∙◌, arith, drop-cons, Fits, w8}
use Rattle.std.proofs.lemmas.List.{drop_all}
use Rattle.std.proofs.lemmas.Bool.{and_from, lt-ltb}
use Rattle.values.specs.Digits.{under, digits, le_number, le_bytes}
use Rattle.values.proofs.Digits.{digits_number}

-- the k elements from place i on
unfoldable pub places : ℕ → ℕ → List ℕ → List ℕ
places i zero xs = []
places i (suc k) xs = get_or xs i 0 ∷ places (suc i) k xs

pub places_all : (i k : ℕ) (xs : List ℕ) → i + k ≡ length xs → places i k xs ≡ drop i xs
unfolding places
places_all i zero xs e = sym (drop_all i xs (omega arith))
places_all i (suc k) xs e =
    ap (λ l. get_or xs i 0 ∷ l) (places_all (suc i) k xs (omega arith)) ∙ sym (drop-cons xs i 0 (omega arith))

-- digits are below the base if each place is
pub under_by_places : (b : ℕ) (xs : List ℕ) → ((i : ℕ) → get_or xs i 0 < b) → under b xs ≡ true
unfolding under
under_by_places b [] h = refl
under_by_places b (x ∷ xs) h = and_from _ _ (lt-ltb x b (h 0)) (under_by_places b xs (λ i. h (suc i)))

-- bytes are those of the number that they write
pub bytes_back : (bs : List ℕ) (k n : ℕ) → length bs ≡ k → n ≡ le_number bs → ((i : ℕ) → Fits w8 (get_or bs i 0)) →
    le_bytes k n ≡ bs
bytes_back bs k n long is low =
    (λ i. digits 256 (sym long i) (is i)) ∙ digits_number 256 bs (under_by_places 256 bs (λ i. (low i).fits))
