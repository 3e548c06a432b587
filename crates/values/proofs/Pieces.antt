-- Bytes that are written, or read, piece by piece. Assumes nothing.
use Rattle.std.proofs.Common.{◌≡◌, ℕ, ◌+◌, ◌<◌, ◌≤◌, List, [], ◌∷◌, ◌++◌, length, take, drop, set, sym, refl, ap, ◌∙◌}
use Rattle.std.proofs.Common.{subst, append_assoc, append-nil, arith, length-append}
use borrow.Rule.Slice.PartMut.{put_mid}
use Rattle.std.proofs.lemmas.List.{take_at, drop_at, drop-drop, drop_all, take-append-drop, take-take, drop-take}

-- the first n bytes are now q, and the rest is as it was in xs
pub record Front (xs : List ℕ) (n : ℕ) (q now : List ℕ) : Type 0 where
  pub long : length q ≡ n
  pub is : now ≡ q ++ drop n xs

pub front-none : (xs : List ℕ) → Front xs 0 [] xs
front-none xs = record { long = refl; is = refl }

-- one piece more
pub front_more : (xs : List ℕ) (n : ℕ) (q now : List ℕ) → Front xs n q now →
    (k : ℕ) (p part : List ℕ) → length p ≡ k → part ≡ p → Front xs (n + k) (q ++ p) (put_mid n k now part)
front_more xs n q now h k p part long is =
    record {
      long = length-append q p ∙ omega (arith, h.long);
      is =
          let before : take n now ≡ q = ap (take n) h.is ∙ take_at q (drop n xs) n h.long in
          let rest : drop n now ≡ drop n xs = ap (drop n) h.is ∙ drop_at q (drop n xs) n h.long in
          let past : drop k (drop n now) ≡ drop (n + k) xs = ap (drop k) rest ∙ drop-drop k n xs in
          (λ i. before i ++ (is i ++ past i)) ∙ sym (append_assoc q p (drop (n + k) xs));
    }

-- all of the bytes
pub front-all : (xs : List ℕ) (n : ℕ) (q now : List ℕ) → Front xs n q now → length xs ≤ n → now ≡ q
front-all xs n q now h all = h.is ∙ ap (λ l. q ++ l) (drop_all n xs all) ∙ append-nil q

-- one piece more that is read
pub read_more : (bs : List ℕ) (n : ℕ) (q : List ℕ) → take n bs ≡ q → (k : ℕ) (p : List ℕ) → p ≡ take k (drop n bs) →
    take (n + k) bs ≡ q ++ p
read_more bs n q h k p is =
    sym (take-append-drop n (take (n + k) bs))
    ∙ (λ i. take-take n (n + k) bs (omega arith) i ++ drop-take n k bs i)
    ∙ (λ i. h i ++ sym is i)

-- the first byte
pub front_byte : (xs : List ℕ) (b : ℕ) → 0 < length xs → Front xs 1 (b ∷ []) (set xs 0 b)
front_byte [] b some = absurd (omega arith)
front_byte (x ∷ xs) b some = record { long = refl; is = refl }

-- one piece more, up to place m
pub front-to : (xs : List ℕ) (n : ℕ) (q now : List ℕ) → Front xs n q now →
    (k m : ℕ) (p part : List ℕ) → length p ≡ k → n + k ≡ m → part ≡ p → Front xs m (q ++ p) (put_mid n k now part)
front-to xs n q now h k m p part long up is =
    let P : ℕ → Type 0 = λ i. Front xs i (q ++ p) (put_mid n k now part) in
    subst P up (front_more xs n q now h k p part long is)
