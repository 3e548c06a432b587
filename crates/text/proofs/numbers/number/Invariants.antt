-- The digits so far, and their number.
use Rattle.std.proofs.Common.{◌≡◌, ◌<◌, take}
use Rattle.std.specs.Str.Parse.{AllDigits, digits_value}
use Rattle.text.proofs.numbers.number.Given as goal

abbrev pub invariant-loop-c : goal.invariant-loop-c
invariant-loop-c g l =
    let number = g.N.FromDigits.value l.number in
    record {
      digits : AllDigits 10 (take l.c-index l.word);
      is : number ≡ digits_value 10 (take l.c-index l.word);
      small : number < g.N.FromDigits.end;
    }
