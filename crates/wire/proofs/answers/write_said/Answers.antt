use Rattle.std.proofs.Common.{◌+◌, ◌*◌, length, sym, ap, ◌∙◌, arith}
use Rattle.values.proofs.Digits.{length_digits}
use Rattle.values.proofs.Pieces.{front-none, front_more, front-all}
use Rattle.wire.specs.Bytes.{said_bytes}
use Rattle.wire.specs.Meaning.{said_of}
use Rattle.wire.proofs.Fields.{length-vote, one_said, two_said}
use Rattle.wire.proofs.answers.write_said.Goals as goal

pub returns-in-One-clause-is : goal.returns-in-One-clause-is
returns-in-One-clause-is c =
    let was = c.args.part.now in
    let long = c.requires ∙ ap (λ s. 8 + 64 * length (said_of s)) c.in-One.is in
    let bytes = ap (λ s. said_bytes (said_of s)) c.in-One.is ∙ one_said _ in
    let count =
    front_more was 0 _ _ (front-none was) 8 _ _ (length_digits 256 8 1) c.write_number-in-One.ensures.is in
    let vote = front_more was 8 _ _ count 64 _ _ (length-vote _) c.write_vote.ensures.is in
    front-all was 72 _ _ vote (omega arith) ∙ sym bytes

pub returns-in-Two-clause-is : goal.returns-in-Two-clause-is
returns-in-Two-clause-is c =
    let was = c.args.part.now in
    let long = c.requires ∙ ap (λ s. 8 + 64 * length (said_of s)) c.in-Two.is in
    let bytes = ap (λ s. said_bytes (said_of s)) c.in-Two.is ∙ two_said _ _ in
    let count =
    front_more was 0 _ _ (front-none was) 8 _ _ (length_digits 256 8 2) c.write_number-in-Two.ensures.is in
    let first = front_more was 8 _ _ count 64 _ _ (length-vote _) c.write_vote-in-Two.ensures.is in
    let second = front_more was 72 _ _ first 64 _ _ (length-vote _) c.write_vote-in-Two-2.ensures.is in
    front-all was 136 _ _ second (omega arith) ∙ sym bytes
