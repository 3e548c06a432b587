use Rattle.std.proofs.Common.{◌≡◌, ℕ, ◌<◌, false, length}
use Rattle.protocol.specs.Promises.{all}
use Rattle.limits.specs.Limits.{limits_of}
use Rattle.member.specs.Calls.{Opened}
use Rattle.network.specs.Members.{has}
use Rattle.network.specs.Seats.{seat, memory_of}
use Rattle.network.proofs.begin.open_all.Given as goal

-- those of the seats before are new
abbrev pub invariant-loop-seat : goal.invariant-loop-seat
invariant-loop-seat l =
    ((goal.iterator-loop-seat).can_next l.seat-iterator × (goal.iterator-loop-seat).is_finite l.seat-iterator)
    × (((i : ℕ) → seat (has l.fn.faulty.bits) i < length l.yielded → has l.fn.faulty.bits i ≡ false →
    Opened (limits_of all l.fn.limits) i
    (memory_of (limits_of all l.fn.limits) (has l.fn.faulty.bits) i l.memory))
    × (length l.memory ≡ length l.initial.memory))
