use Rattle.std.proofs.Common.{arith}
use Rattle.std.proofs.Output.{has_written_of_eq}
use Rattle.wire.specs.Meaning.{agreed_of}
use Rattle.script.proofs.Printing.{member_shown}
use Rattle.script.proofs.shown.MemberLineDisplay.fmt.Goals as goal

pub returns-clause-writes : goal.returns-clause-writes
returns-clause-writes g c =
    let at = c.args.self.now in
    let is = member_shown at.member at.period at.step (agreed_of at.agreed)
    (omega arith) (omega arith) (omega arith) in
    λ plain ok. has_written_of_eq g.W.Write.write_str_gives _ _ _ _ is (c.write.ensures.writes plain ok)
