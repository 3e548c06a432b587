use Rattle.std.proofs.Common.{arith}
use Rattle.values.proofs.Digits.{length_digits}
use Rattle.values.proofs.Pieces.{front-none, front_more, front-all}
use Rattle.wire.specs.Bytes.{vote_bytes}
use Rattle.wire.proofs.votes.write_vote.Goals as goal

pub returns-clause-is : goal.returns-clause-is
unfolding vote_bytes
returns-clause-is c =
    let was = c.args.part.now in
    let kind = front_more was 0 _ _ (front-none was) 8 _ _ (length_digits 256 8 _) c.write_number.ensures.is in
    let period = front_more was 8 _ _ kind 8 _ _ (length_digits 256 8 _) c.write_number-2.ensures.is in
    let step = front_more was 16 _ _ period 8 _ _ (length_digits 256 8 _) c.write_number-3.ensures.is in
    let value = front_more was 24 _ _ step 32 _ _ (length_digits 256 32 _) c.write_value.ensures.is in
    let from = front_more was 56 _ _ value 8 _ _ (length_digits 256 8 _) c.write_number-4.ensures.is in
    front-all was 64 _ _ from (omega arith)
