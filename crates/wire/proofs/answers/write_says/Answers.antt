use Rattle.std.proofs.Common.{◌+◌, ◌-◌, sym, refl, ◌∙◌, arith}
use Rattle.values.proofs.Pieces.{front_byte, front-to}
use Rattle.wire.specs.Meaning.{said_of}
use Rattle.wire.proofs.Fields.{length-said, length-agreed}
use Rattle.wire.proofs.Writing.{wrote}
use Rattle.wire.proofs.answers.write_says.Goals as goal

pub returns-clause-is : goal.returns-clause-is
returns-clause-is c =
    let was = c.args.out.now in
    let at = 1 + c.size-at.result in
    let end = at + c.agreed_size.result in
    let said = length-said (said_of c.args.said) ∙ sym c.size-at.ensures.is in
    let agreed = length-agreed c.args.agreed ∙ sym c.agreed_size.ensures.is in
    let room = c.in_ok-room.ensures.is in
    let first = front_byte was 1 (omega (arith, room)) in
    let votes =
    front-to was 1 _ _ first (at - 1) at _ _ (omega (arith, said)) (omega arith) c.write_said.ensures.is in
    let all = front-to was at _ _ votes (end - at) end _ _ (omega (arith, agreed)) (omega arith)
    c.write_agreed.ensures.is in
    wrote _ _ was _ end refl all room
