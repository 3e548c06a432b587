-- The kind that a number is.
use Rattle.std.proofs.Common.{◌≡◌, ℕ, ◌≤◌, Ok, Err, arith}
use Rattle.std.specs.Option.{ok_or}
use Rattle.std.proofs.lemmas.Bool.Decides.{nat_tests}
use Rattle.wire.specs.declared.votes.Kind.{Kind}
use Rattle.wire.specs.declared.votes.Kind.TheVariants.{Soft, Cert, Next, NextNone}
use Rattle.wire.specs.Meaning.{kind_of, kind_number}

pub is_kind : {E : Type 0} (e : E) (n : ℕ) (k : Kind) → ok_or (kind_of n) e ≡ Ok k → n ≡ kind_number k
is_kind e n Soft h = grind (arith, nat_tests)
is_kind e n Cert h = grind (arith, nat_tests)
is_kind e n Next h = grind (arith, nat_tests)
is_kind e n NextNone h = grind (arith, nat_tests)

pub no_kind : {E : Type 0} (e f : E) (n : ℕ) → n ≤ 3 → ok_or (kind_of n) e ≡ Err f → ⊥
no_kind e f n few h = grind (arith, nat_tests)
