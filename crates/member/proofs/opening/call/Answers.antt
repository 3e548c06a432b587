use Rattle.std.proofs.Common.{ℕ, List, subst, arith}
use Rattle.protocol.specs.Member.{Event, refused}
use Rattle.wire.specs.Meaning.{answer_of, event_of}
use Rattle.member.specs.Calls.{Called}
use Rattle.member.proofs.Calling.{called, called-unreadable}
use Rattle.member.proofs.Fresh.{words_by_places}
use Rattle.member.proofs.opening.call.Goals as goal

pub returns-in-Ok : goal.returns-in-Ok
returns-in-Ok c =
    let mem : List ℕ = c.args.memory.now in
    let new : List ℕ = c.answer_to.new.memory in
    record {
      is = subst (λ (e : Event). Called mem e new (answer_of c.answer_to.result)) c.in-Ok.ensures.is
          (called mem new c.in_ok-member.member (event_of c.in-Ok.event) c.answer_to.result c.in_ok-member.ensures.is
          c.answer_to.ensures.is (omega arith) (words_by_places new (λ i. (c.type_inv.memory i).fits)));
      held = (c.in_ok-member.member, c.in_ok-member.ensures.is);
    }

pub returns-in-Err : goal.returns-in-Err
returns-in-Err c =
    let mem : List ℕ = c.args.memory.now in
    record {
      is = subst (λ (e : Event). Called mem e mem (refused 1 c.in-Err.place)) c.in-Err.ensures.is
          (called-unreadable mem c.in-Err.place);
      held = (c.in_ok-member.member, c.in_ok-member.ensures.is);
    }
