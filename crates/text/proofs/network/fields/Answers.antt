use Rattle.text.proofs.Cuts.{not_cut, last_word}
use Rattle.text.proofs.network.fields.Goals as goal

pub returns-then-is_some : goal.returns-then-is_some
returns-then-is_some c =
    let name = c.in_ok-name.ensures.is in
    let members = c.in_ok-members.ensures.is in
    let periods = c.in_ok-periods.ensures.is in
    let steps = c.in_ok-steps.ensures.is in
    record {
      is = λ m p s b e. not_cut 32 c.in_ok-steps.blocks.now _ c.cut-5.ensures.is c.if-is_some.ensures b
          (last_word name members periods steps e);
    }
