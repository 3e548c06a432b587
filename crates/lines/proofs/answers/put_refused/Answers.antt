use Rattle.std.proofs.Common.{arith}
use Rattle.wire.specs.Meaning.{refusal_number}
use Rattle.lines.proofs.Printing.{same_written, refused_shown}
use Rattle.lines.proofs.answers.put_refused.Goals as goal

pub returns : goal.returns
returns g c =
    let number = c.from-number in
    let is = refused_shown number.result (refusal_number c.args.refusal) c.args.place number.ensures
    (omega arith) (omega arith) in
    record { is = same_written c.write.result is c.write.ensures.writes }
