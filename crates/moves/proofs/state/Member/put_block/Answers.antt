use Rattle.std.proofs.Common.{arith}
use Rattle.protocol.specs.Vote.{Limits}
use Rattle.values.specs.Values.{value_of}
use Rattle.moves.specs.Parts.{of_blocks}
use Rattle.moves.specs.Stands.{lim}
use Rattle.moves.proofs.Regions.{Written, written-blocks}
use Rattle.moves.proofs.Room.{put_block}
use Rattle.moves.proofs.state.Member.put_block.Goals as goal

pub returns : goal.returns
returns c =
    let l : Limits = lim c.args.self in
    let put : Written of_blocks l c.args.memory.now c.add_block.new.blocks c.blocks_range.result.start _ =
    written-blocks l c.args.memory.now c.add_block.new.blocks c.blocks_range.result.start c.blocks_range.result.end
    (omega arith) (omega arith) c.blocks_range.ensures.start c.blocks_range.ensures.end in
    record {
      is = put_block l c.args.self.blocks (value_of c.args.value) c.args.memory.now c.add_block.new.blocks
          c.blocks_range.result.start c.blocks_range.result.end c.blocks_range.ensures.start c.blocks_range.ensures.end
          (omega arith) put c.add_block.result c.add_block.ensures.is;
      only = put.only;
    }
