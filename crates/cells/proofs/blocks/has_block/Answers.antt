use Rattle.std.specs.List.{list_any}
use Rattle.std.specs.Cmp.Lexicographic.{pointwise}
use Rattle.std.proofs.Common.{rules, eqb, take, ◌/◌, length, arith, ◌∙◌}
use Rattle.cells.proofs.Here.{any_here}
use Rattle.cells.proofs.blocks.has_block.Goals as goal

pub returns : goal.returns
returns c =
    let k = length c.args.blocks.now / 4 in
    record {
      is = c.contains.ensures.value
          ∙ (λ i.
          list_any (λ b. pointwise eqb b (c.limbs.ensures.is i)) (take c.args.count (c.as_chunks.ensures.front i)))
          ∙ any_here c.args.blocks.now k c.args.value (omega arith) (search rules) c.args.count (omega arith);
    }
