use Rattle.std.proofs.Common.{ℕ, List, arith}
use Rattle.wire.specs.Meaning.{event_of}
use Rattle.member.proofs.Calling.{called}
use Rattle.member.proofs.Fresh.{words_by_places}
use Rattle.member.proofs.opening.take.Goals as goal

pub returns : goal.returns
returns c =
    let mem : List ℕ = c.args.memory.now in
    let new : List ℕ = c.answer_to.new.memory in
    record {
      is = called mem new c.in_ok-member.member (event_of c.args.event) c.answer_to.result c.in_ok-member.ensures.is
          c.answer_to.ensures.is (omega arith) (words_by_places new (λ i. (c.type_inv.memory i).fits));
      held = (c.in_ok-member.member, c.in_ok-member.ensures.is);
    }
