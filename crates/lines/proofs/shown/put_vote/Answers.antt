use Rattle.std.proofs.Common.{arith}
use Rattle.wire.specs.Meaning.{vote_of}
use Rattle.lines.proofs.Printing.{same_written, vote_shown}
use Rattle.lines.proofs.shown.put_vote.Goals as goal

pub returns : goal.returns
returns g c =
    let is = vote_shown (vote_of c.args.vote) (omega arith) (omega arith) (omega arith) (omega arith) in
    record { is = same_written c.write.result is c.write.ensures.writes }
