-- An event has no more than 65 bytes.
use Rattle.std.proofs.Common.{◌≡◌, ℕ, ◌≤◌, List, length, Ok, Err, Result, refl, arith}
use Rattle.std.specs.Result.{IsOk}
use Rattle.protocol.specs.Member.{Event, got_vote, got_proposal, got_block, timeout, unreadable}
use Rattle.wire.specs.Bytes.{event_bytes, Written}
use Rattle.values.proofs.Digits.{length_digits}
use Rattle.wire.proofs.Fields.{length-vote, length_proposal}

fits : (e : Event) → length (event_bytes e) ≤ 65
fits (got_vote v) = omega (arith, length-vote v)
fits (got_proposal o) = omega (arith, length_proposal o)
fits (got_block x) = omega (arith, length_digits 256 32 x)
fits timeout = omega arith
fits (unreadable n) = omega arith

pub written : (e : Event) (before after : List ℕ) (r : Result ℕ ℕ) → length before ≡ 65 →
    Written (event_bytes e) before after r → IsOk r
written e before after (Ok n) long w = refl
written e before after (Err n) long w = absurd (omega (arith, w.0, w.1, long, fits e))
