use Rattle.std.proofs.Common.{arith}
use Rattle.values.proofs.Digits.{length_digits}
use Rattle.values.proofs.Pieces.{front-none, front_more, front-all}
use Rattle.wire.specs.Bytes.{proposal_bytes}
use Rattle.wire.proofs.votes.write_proposal.Goals as goal

pub returns-clause-is : goal.returns-clause-is
unfolding proposal_bytes
returns-clause-is c =
    let was = c.args.part.now in
    let period = front_more was 0 _ _ (front-none was) 8 _ _ (length_digits 256 8 _) c.write_number.ensures.is in
    let rank = front_more was 8 _ _ period 8 _ _ (length_digits 256 8 _) c.write_number-2.ensures.is in
    let value = front_more was 16 _ _ rank 32 _ _ (length_digits 256 32 _) c.write_value.ensures.is in
    front-all was 48 _ _ value (omega arith)
