use Rattle.std.proofs.Common.{arith}
use Rattle.network.proofs.Spans.{part-only}
use Rattle.network.proofs.parts.take_in.Goals as goal

pub returns-clause-only : goal.returns-clause-only
returns-clause-only c =
    part-only c.args.span.start c.args.span.end c.args.memory.now c.take.new.memory c.requires.order
    c.requires.within (omega arith)
