use Rattle.std.proofs.Common.{arith}
use Rattle.wire.specs.Meaning.{proposal_of}
use Rattle.lines.proofs.Printing.{same_written, proposal_shown}
use Rattle.lines.proofs.shown.put_proposal.Goals as goal

pub returns : goal.returns
returns g c =
    let is = proposal_shown (proposal_of c.args.proposal) (omega arith) (omega arith) in
    record { is = same_written c.write.result is c.write.ensures.writes }
