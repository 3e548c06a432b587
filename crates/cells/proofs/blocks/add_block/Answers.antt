use Rattle.std.proofs.Common.{sym, arith}
use Rattle.values.specs.Digits.{number_of}
use Rattle.cells.proofs.Here.{here_more}
use Rattle.cells.proofs.blocks.add_block.Goals as goal

pub returns-clause-is : goal.returns-clause-is
returns-clause-is c =
    let x = number_of c.args.value.limbs in (
      here_more c.args.blocks.now c.put_value.new.part x c.args.count (sym c.if-has_block.ensures.is)
          c.put_value.ensures.only c.put_value.ensures.is,
      omega arith,
    )
