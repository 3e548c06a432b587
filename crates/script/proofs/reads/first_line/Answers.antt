use Rattle.std.proofs.Common.{sym, refl, subst, Some}
use Rattle.std.proofs.lemmas.Bool.{eqb-true, eqb-false}
use Rattle.script.specs.Files.{FirstLine}
use Rattle.script.proofs.Files.{no_line, first_line_is}
use Rattle.script.proofs.reads.first_line.Goals as goal

pub returns-then-is_empty : goal.returns-then-is_empty
returns-then-is_empty c = record { is = no_line c.args.text.now (eqb-true _ _ (sym c.if-is_empty.ensures)) }

pub returns : goal.returns
returns c =
    let some = eqb-false _ _ (sym c.if-is_empty.ensures) in
    record {
      is = subst (λ x. FirstLine c.args.text.now (Some x)) (sym c.unwrap_or.ensures)
          (first_line_is c.args.text.now c.cut.result _ some refl refl c.cut.ensures.is);
    }
