use Rattle.values.specs.Values.{value_of}
use Rattle.lines.proofs.Printing.{same_written, block_shown}
use Rattle.lines.proofs.shown.put_block.Goals as goal

pub returns : goal.returns
returns g c = record { is = same_written c.write.result (block_shown (value_of c.args.value)) c.write.ensures.writes }
