-- Sets of members as bits.
use Rattle.std.proofs.Common.{◌≡◌, ℕ, zero, suc, ◌+◌, ◌-◌, ◌*◌, ◌/◌, ◌%◌, ◌^◌, ◌<◌, ◌≤◌, Bool, false, ◌||◌, eqb, ◌⊎◌}
use Rattle.std.proofs.Common.{sym, refl, ap, ◌∙◌, inl, inr, mul-div_cancel, arith, pow_mono}
use native.Mathlib.Nat.{div-eq_of_lt, div_self, mul-mod_left}
use lib.Bits.{bit_and, bit_or}
use Rattle.std.proofs.lemmas.Nat.{pow_pos, pow-add, pow_below, and_mask, or_comm, or_shr, or_mod, mod_below, one_shl}
use Rattle.std.proofs.lemmas.Bool.{cases_order, eq-eqb, ne_eqb}
use Rattle.network.specs.Members.{has}

-- the test of a bit by a mask
pub has_masked : (bits i : ℕ) → eqb (bit_and (bits / 2 ^ i) 1) 1 ≡ has bits i
unfolding has
has_masked bits i = ap (λ (n : ℕ). eqb n 1) (and_mask (bits / 2 ^ i) 1)

-- a bit of which nothing is left above it
high_bit : (bits i : ℕ) → bits < 2 ^ i → has bits i ≡ false
unfolding has
high_bit bits i h = ap (λ (n : ℕ). eqb (n % 2) 1) (div-eq_of_lt h)

pub has_past : (bits i : ℕ) → bits < 2 ^ 64 → 64 ≤ i → has bits i ≡ false
has_past bits i small h = high_bit bits i (omega (arith, pow_mono {i = 64} {j = i} h))

pub has-none : (i : ℕ) → has 0 i ≡ false
has-none i = high_bit 0 i (pow_pos i)

-- a number below two
bit : (n : ℕ) → n < 2 → (n ≡ 0) ⊎ (n ≡ 1)
bit zero h = inl refl
bit (suc zero) h = inr refl
bit (suc (suc n)) h = absurd (omega arith)

either_bit : (m n : ℕ) → m < 2 → n < 2 → eqb (bit_or m n) 1 ≡ eqb m 1 || eqb n 1
either_bit m n hm hn =
    elim (bit m hm) [
      | inl p ↦ elim (bit n hn) [ inl q ↦ rw (p, q) | inr q ↦ rw (p, q) ]
      | inr p ↦ elim (bit n hn) [ inl q ↦ rw (p, q) | inr q ↦ rw (p, q) ]
    ]

has_either : (a b i : ℕ) → has (bit_or a b) i ≡ has a i || has b i
unfolding has
has_either a b i =
    ap (λ (n : ℕ). eqb (n % 2) 1) (or_shr a b i)
    ∙ ap (λ (n : ℕ). eqb n 1) (or_mod (a / 2 ^ i) (b / 2 ^ i) 1)
    ∙ either_bit (a / 2 ^ i % 2) (b / 2 ^ i % 2) (mod_below (a / 2 ^ i) 2 (omega arith))
    (mod_below (b / 2 ^ i) 2 (omega arith))

-- a power above is a multiple of two
higher : (j i : ℕ) → i < j → (2 ^ j / 2 ^ i) % 2 ≡ 0
higher j i lt =
    let k : ℕ = j - suc i in
    let e : j ≡ (k + 1) + i = omega arith in
    rw e (rw pow-add (rw (mul-div_cancel (2 ^ (k + 1)) (pow_pos i)) (rw pow-add (mul-mod_left (2 ^ k) 2))))

-- one bit alone
has_one : (j i : ℕ) → has (2 ^ j) i ≡ eqb i j
unfolding has
has_one j i =
    elim (cases_order i j) [
      | inl e ↦ rw e (ap (λ (n : ℕ). eqb (n % 2) 1) (div_self (pow_pos j)) ∙ sym (eq-eqb j j refl))
      | inr (inl lt) ↦ ap (λ (n : ℕ). eqb n 1) (higher j i lt) ∙ sym (ne_eqb i j (λ e. omega arith))
      | inr (inr gt) ↦ high_bit (2 ^ j) i (pow_below j i gt) ∙ sym (ne_eqb i j (λ e. omega arith))
    ]

pub has_with : (bits j i : ℕ) → j < 64 → has (bit_or bits ((1 * 2 ^ j) % 2 ^ 64)) i ≡ eqb i j || has bits i
has_with bits j i h =
    ap (λ (n : ℕ). has (bit_or bits n) i) (one_shl j 64 h) ∙ ap (λ (n : ℕ). has n i) (or_comm bits (2 ^ j))
    ∙ has_either (2 ^ j) bits i ∙ ap (λ (b : Bool). b || has bits i) (has_one j i)
