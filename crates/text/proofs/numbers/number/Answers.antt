use Rattle.std.proofs.Common.{◌≡◌, ℕ, ◌+◌, ◌^◌, ◌<◌, ◌≤◌, List, length, get_or, take, refl, sym, ap, ◌∙◌, subst}
use Rattle.std.proofs.Common.{Bool, true, false, eqb, decimal, MatchOption, ◌≢◌, arith}
use Rattle.std.specs.Bool.{then_some}
use Rattle.std.specs.Str.Parse.{AllDigits, digits_value}
use Rattle.std.specs.Int.{IsInRange, IsOutOfRange}
use Rattle.std.specs.Char.{digit_value}
use Rattle.std.proofs.lemmas.Int.Digits.{digits_more, digits_value_more}
use Rattle.std.proofs.lemmas.Str.{digit_value_digit}
use Rattle.std.proofs.lemmas.Bool.{eqb-true, eqb-false}
use Rattle.std.proofs.lemmas.List.{take_all}
use Rattle.text.specs.Decimals.{spelled}
use Rattle.text.proofs.Numerals.{only_zero, not_empty, no_zero_before, only-digits}
use Rattle.text.proofs.Spelled.{not_spelled, not_small, whole-spelled, front_le, spelled_decimal}
use Rattle.text.proofs.numbers.number.Goals as goal

pub returns-then-is_empty : goal.returns-then-is_empty
returns-then-is_empty g c =
    let w : List ℕ = c.args.word.now in
    let empty = eqb-true (length w) 0 (sym c.if-is_empty.ensures) in
    let none = λ (n : ℕ) (_ : n < g.N.FromDigits.end). not_spelled w (not_empty w empty) n in
    record { is = none; small = not_small w _ none }

-- a word that begins with a zero spells a number where the zero is alone, and that is 0
zero_first : {N : Type 0} (value : N → ℕ) (end : ℕ) (w : List ℕ) (z : N) (b : Bool) → b ≡ eqb (length w) 1 →
    0 < length w → get_or w 0 0 ≡ 48 → value z ≡ 0 →
    MatchOption (then_some b z) ((n : ℕ) → n < end → w ≢ spelled n) (λ x. w ≡ spelled (value x))
    × (end ≤ 2 ^ 64 → MatchOption (then_some b z) ((n : ℕ) → n < end → w ≢ decimal n) (λ x. w ≡ decimal (value x)))
unfolding spelled
zero_first value end w z true one some lead zero =
    let is : w ≡ spelled (value z) = only_zero w (eqb-true (length w) 1 (sym one)) lead ∙ ap spelled (sym zero) in
    (is, λ few. is ∙ spelled_decimal (value z) (omega (arith, zero)))
zero_first value end w z false one some lead zero =
    let other = no_zero_before w (omega (arith, some, eqb-false (length w) 1 (sym one))) lead in
    let none = λ (n : ℕ) (_ : n < end). not_spelled w other n in
    (none, not_small w end none)

pub returns-then-word-eq48 : goal.returns-then-word-eq48
returns-then-word-eq48 g c =
    let w : List ℕ = c.args.word.now in
    let zero = zero_first g.N.FromDigits.value g.N.FromDigits.end w c.zero.result (eqb (length w) 1) refl
    (omega (arith, eqb-false (length w) 0 (sym c.if-is_empty.ensures))) (omega arith) c.zero.ensures.is in
    record { is = rw c.then_some.ensures zero.0; small = rw c.then_some.ensures zero.1 }

pub returns-then-not-is_ascii_digit : goal.returns-then-not-is_ascii_digit
returns-then-not-is_ascii_digit g c =
    let w : List ℕ = c.args.word.now in
    let i : ℕ = c.loop-c.c-index in
    let out : IsOutOfRange 48 57 (get_or w i 0) = c.if-not-is_ascii_digit.ensures.cases in
    let other = only-digits w i c.loop-c-test.true (λ digit. omega arith) in
    let none = λ (n : ℕ) (_ : n < g.N.FromDigits.end). not_spelled w other n in
    record { is = none; small = not_small w _ none }

pub returns-in_err-number : goal.returns-in_err-number
returns-in_err-number g c =
    let end = g.N.FromDigits.end in
    let w : List ℕ = c.args.word.now in
    let i : ℕ = c.loop-c.c-index in
    let in_range : IsInRange 48 57 (get_or w i 0) = c.if-not-is_ascii_digit.ensures.cases in
    let none : (n : ℕ) → n < end → w ≡ spelled n → ⊥ =
    λ n small e. omega (
      arith,
      digit_value_digit (get_or w i 0) in_range,
      digits_value_more 10 w i c.loop-c-test.true,
      front_le w (i + 1) n e,
      c.loop-c.invariant.is,
      c.in_err-number.ensures.is,
    ) in
    record { is = rw c.from_residual.ensures none; small = rw c.from_residual.ensures (not_small w end none) }

pub loop-c-preserved : goal.loop-c-preserved
loop-c-preserved g c =
    let w : List ℕ = c.args.word.now in
    let i : ℕ = c.loop-c.c-index in
    let in_range : IsInRange 48 57 (get_or w i 0) = c.if-not-is_ascii_digit.ensures.cases in
    let digit : digit_value (get_or w i 0) + 48 ≡ get_or w i 0 = digit_value_digit (get_or w i 0) in_range in
    record {
      digits = digits_more 10 w i c.loop-c-test.true c.loop-c.invariant.digits (omega arith);
      is = omega (
        arith,
        digits_value_more 10 w i c.loop-c-test.true,
        c.loop-c.invariant.is,
        c.in_ok-number.ensures.is,
      );
      small = c.in_ok-number.ensures.is.1;
    }

pub returns : goal.returns
returns g c =
    let value = g.N.FromDigits.value c.loop-c.number in
    let w : List ℕ = c.args.word.now in
    let whole : take c.loop-c.c-index w ≡ w = take_all c.loop-c.c-index w (omega arith) in
    let digits : AllDigits 10 w = subst (AllDigits 10) whole c.loop-c.invariant.digits in
    let lead : get_or w 0 0 ≡ 48 → length w ≤ 1 =
    λ zero. absurd (c.if-word-eq48.false zero) in
    let apart : (length w ≡ 0 → ⊥) = eqb-false (length w) 0 (sym c.if-is_empty.ensures) in
    let is : w ≡ spelled value =
    whole-spelled w digits (omega arith) lead ∙ ap spelled (sym (c.loop-c.invariant.is ∙ ap (digits_value 10) whole)) in
    record { is = is; small = λ few. is ∙ spelled_decimal value (omega (arith, c.loop-c.invariant.small)) }
