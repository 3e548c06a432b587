use Rattle.std.proofs.Common.{◌+◌, ◌*◌, length, sym, ap, ◌∙◌, arith}
use Rattle.values.proofs.Digits.{length_digits}
use Rattle.values.proofs.Pieces.{front_byte, front_more, front-all}
use Rattle.wire.specs.Bytes.{agreed_bytes}
use Rattle.wire.specs.Meaning.{agreed_of}
use Rattle.wire.proofs.answers.write_agreed.Goals as goal

pub returns-in-Some : goal.returns-in-Some
returns-in-Some c =
    let was = c.args.part.now in
    let long = c.requires ∙ ap (λ o. 1 + 32 * length (agreed_of o)) c.in-Some.is in
    let bytes = ap (λ o. agreed_bytes (agreed_of o)) c.in-Some.is in
    let first = front_byte was 1 (omega arith) in
    let value = front_more was 1 _ _ first 32 _ _ (length_digits 256 32 _) c.write_value.ensures.is in
    record { is = front-all was 33 _ _ value (omega arith) ∙ sym bytes }
