-- When bytes are as many as they should be, and the place where they are not. Assumes nothing.
use Rattle.std.proofs.Common.{◌≡◌, ℕ, ◌<◌, List, length, Ok, Err, Result, arith}
use Rattle.std.proofs.lemmas.Bool.{cond_both, ltb-true, ltb-false}
use Rattle.std.proofs.lemmas.Bool.Decides.{nat_tests}
use Rattle.wire.specs.Bytes.{sized, reaching}

pub sized-is : {A : Type 0} (place : ℕ → A) (n : ℕ) (bs : List ℕ) (a : A) → length bs ≡ n → sized place n bs a ≡ a
sized-is place n bs a e = grind (arith, nat_tests)

pub sized_err : {A : Type 0} (place : ℕ → A) (n : ℕ) (bs : List ℕ) (a : A) (m : ℕ) →
    ◌≡◌ {A = Result (Unit {0}) ℕ} (Err m) (sized Err n bs (Ok tt)) → place m ≡ sized place n bs a
sized_err place n bs a m e = grind (arith, nat_tests)

pub sized_cases : {A : Type 0} (P : A → Type 0) (place : ℕ → A) (n : ℕ) (bs : List ℕ) (a : A) →
    (length bs < n → P (place (length bs))) → (n < length bs → P (place n)) → (length bs ≡ n → P a) →
    P (sized place n bs a)
sized_cases P place n bs a short long whole =
    cond_both _ _ _ P (λ h. short (ltb-true _ _ h))
    (λ h. cond_both _ _ _ P (λ k. long (ltb-true _ _ k)) (λ k. whole (omega (arith, ltb-false _ _ h, ltb-false _ _ k))))

pub reaching-is : {A : Type 0} (place : ℕ → A) (n : ℕ) (bs : List ℕ) (a : A) → n < length bs → reaching place n bs a ≡ a
reaching-is place n bs a e = grind (arith, nat_tests)

pub reaching_ok : (n : ℕ) (bs : List ℕ) (u : Unit {0}) →
    ◌≡◌ {A = Result (Unit {0}) ℕ} (Ok u) (reaching Err n bs (Ok tt)) → n < length bs
reaching_ok n bs u e = grind (arith, nat_tests)

-- past the check
pub reaching_past : {A : Type 0} (place : ℕ → A) (n : ℕ) (bs : List ℕ) (a : A) (u : Unit {0}) →
    ◌≡◌ {A = Result (Unit {0}) ℕ} (Ok u) (reaching Err n bs (Ok tt)) → reaching place n bs a ≡ a
reaching_past place n bs a u e = reaching-is place n bs a (reaching_ok n bs u e)

pub reaching_err : {A : Type 0} (n : ℕ) (bs : List ℕ) (a : Result A ℕ) (m : ℕ) →
    ◌≡◌ {A = Result (Unit {0}) ℕ} (Err m) (reaching Err n bs (Ok tt)) → Err m ≡ reaching Err n bs a
reaching_err n bs a m e = grind (arith, nat_tests)
