use Rattle.std.proofs.Common.{Ok, ap, ◌∙◌, arith}
use Rattle.values.specs.Digits.{le_bytes}
use Rattle.values.proofs.Digits.{length_digits}
use Rattle.values.proofs.Pieces.{front_byte, front_more}
use Rattle.wire.specs.Bytes.{answer_bytes}
use Rattle.wire.specs.Meaning.{answer_of}
use Rattle.wire.specs.Statements.{sayable}
use Rattle.wire.proofs.AnswersBack.{answer_written_back, held_refusal_fits}
use Rattle.wire.proofs.Writing.{wrote}
use Rattle.wire.proofs.answers.write_answer.Goals as goal

pub returns-in_ok-room-in-Refused : goal.returns-in_ok-room-in-Refused
returns-in_ok-room-in-Refused c =
    let was = c.args.out.now in
    let bytes = ap (λ a. answer_bytes (answer_of a)) c.in-Refused.is in
    let room = c.in_ok-room-in-Refused.ensures.is in
    let first = front_byte was 0 (omega (arith, room)) in
    let number = c.write_number.ensures.is ∙ ap (le_bytes 8) c.into.ensures in
    let why = front_more was 1 _ _ first 8 _ _ (length_digits 256 8 _) number in
    let place = front_more was 9 _ _ why 8 _ _ (length_digits 256 8 _) c.write_number-in-Refused.ensures.is in
    let done = wrote _ _ was _ 17 bytes place room in
    let fit = ap (λ a. sayable (answer_of a)) c.in-Refused.is
    ∙ held_refusal_fits _ _ c.write_number-in-Refused.ensures.fits in
    record { is = done; back = answer_written_back _ was _ (Ok 17) fit done }

pub returns-in-Says-clause-back : goal.returns-in-Says-clause-back
returns-in-Says-clause-back c =
    let said = c.write_says.ensures in rw c.in-Says.is (answer_written_back _ _ _ _ said.fits said.is)
