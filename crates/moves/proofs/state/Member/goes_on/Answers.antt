use Rattle.std.proofs.Common.{sym, ap, ◌∙◌}
use Rattle.protocol.specs.Vote.{next}
use Rattle.protocol.specs.Member.{own}
use Rattle.values.specs.Values.{value_of}
use Rattle.cells.specs.Cells.{listed}
use Rattle.moves.proofs.Saying.{next-chosen, next-free, next_start, first_or}
use Rattle.moves.proofs.state.Member.goes_on.Goals as goal

pub returns-in-Some-default-clause-is : goal.returns-in-Some-default-clause-is
returns-in-Some-default-clause-is c = λ mem m s h. next-chosen m s c.args.chosen _ c.in-Some-default.is-0

pub returns-in-None-true-clause-is : goal.returns-in-None-true-clause-is
returns-in-None-true-clause-is c = λ mem m s h.
    next-free m s c.args.chosen _ c.in-None-true.is-0 (sym h.free ∙ c.in-None-true.is-1) c.zero.ensures.is

pub returns-in-None-false-clause-is : goal.returns-in-None-false-clause-is
returns-in-None-false-clause-is c = λ mem m s h.
    next_start m s c.args.chosen (listed c.args.self.start) c.in-None-false.is-0 (sym h.free ∙ c.in-None-false.is-1)
    (sym h.start)
    ∙ ap (own m next s) (first_or c.args.self.start _ c.zero-in-None-false.ensures.is
    ∙ ap value_of (sym c.unwrap_or.ensures))
