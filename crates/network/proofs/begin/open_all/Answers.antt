use Rattle.std.proofs.Common.{ap, ◌+◌, ◌*◌, ◌≤◌, rules, tests, arith, ℕ, not, length}
use Rattle.std.proofs.lemmas.Iterator.{YieldsList-from_range}
use Rattle.std.proofs.lemmas.Iterator.Consumers.{YieldsList-from_filter, YieldsList-from_enumerate, YieldsList-turn}
use Rattle.std.proofs.lemmas.Iterator.Consumers.{YieldsList-at, YieldsList-end}
use Rattle.protocol.specs.Promises.{all}
use Rattle.limits.specs.Limits.{limits_of}
use Rattle.network.specs.Members.{has}
use Rattle.network.proofs.Opening.{SitsAt, sits_at, room_at, new_seat, new_all}
use Rattle.network.proofs.begin.open_all.Goals as goal
use Rattle.network.proofs.begin.open_all.Goals.{In-Some}

-- what the chain yields is the next seat, and who sits there
sits : (c : In-Some) →
    SitsAt (has c.args.faulty.bits) c.args.limits.members (length c.loop-seat.yielded)
    (c.in-Some.seat, c.in-Some.member)
sits c =
    sits_at (has c.args.faulty.bits) c.args.limits.members (length c.loop-seat.yielded) _
    (YieldsList-turn {s = c.into_iter-seat-iterator.result}
    (YieldsList-at c.into_iter-seat-iterator.ensures.into_iter_gives
    (YieldsList-from_enumerate {s = c.enumerate-seat-items.result} (YieldsList-at c.enumerate-seat-items.ensures.source
    (YieldsList-from_filter _ (λ i. not (has c.args.faulty.bits i))
    (YieldsList-from_range 0 c.args.limits.members c.args.limits.members (cc) (omega arith))
    c.filter-honest.ensures.closure (λ x r q k. search (rules, tests)))) c.enumerate-seat-items.ensures.count))
    c.loop-seat.yielded c.loop-seat.seat-iterator c.loop-seat.yielded_by _ _ _ c.in-Some.is c.next.ensures.steps)

-- it has room
room : (c : In-Some) → c.in-Some.seat * c.memory-size.result + c.memory-size.result ≤ length c.loop-seat.memory
room c =
    room_at (limits_of all c.args.limits) (has c.args.faulty.bits) (length c.loop-seat.yielded) c.memory-size.result
    (length c.loop-seat.memory) (length c.args.memory.now) (c.in-Some.seat, c.in-Some.member) (sits c)
    c.memory-size.ensures.is c.requires.room c.loop-seat.invariant.1.1

pub overflow_mul-start : goal.overflow_mul-start
overflow_mul-start c = omega (arith, room (goal.at.overflow_mul-start c).In-Some)

pub overflow_add-start : goal.overflow_add-start
overflow_add-start c = omega (arith, room (goal.at.overflow_add-start c).In-Some)

pub open_in-requires-clause-within : goal.open_in-requires-clause-within
open_in-requires-clause-within c = room (goal.at.open_in-requires-clause-within c).In-Some

pub open_in-requires-clause-me : goal.open_in-requires-clause-me
open_in-requires-clause-me c = (sits (goal.at.open_in-requires-clause-me c).In-Some).1.0

pub loop-seat-preserved : goal.loop-seat-preserved
loop-seat-preserved c = (
  search (rules, tests),
  (
    new_seat (limits_of all c.args.limits) (has c.args.faulty.bits) c.loop-seat.yielded
        (c.in-Some.seat, c.in-Some.member) c.loop-seat.memory c.open_in.new.memory _ c.memory-size.result
        (sits (goal.at.loop-seat-preserved c).In-Some) c.loop-seat.invariant.1.0 c.memory-size.ensures.is
        (ap (λ (k : ℕ). c.in-Some.seat * c.memory-size.result + k) c.memory-size.ensures.is)
        c.open_in.ensures.is c.open_in.ensures.only,
    omega (arith, c.loop-seat.invariant.1.1),
  ),
)

pub returns : goal.returns
returns c =
    let all-of =
    YieldsList-end {s = c.into_iter-seat-iterator.result}
    (YieldsList-at c.into_iter-seat-iterator.ensures.into_iter_gives
    (YieldsList-from_enumerate {s = c.enumerate-seat-items.result} (YieldsList-at c.enumerate-seat-items.ensures.source
    (YieldsList-from_filter _ (λ i. not (has c.args.faulty.bits i))
    (YieldsList-from_range 0 c.args.limits.members c.args.limits.members (cc) (omega arith))
    c.filter-honest.ensures.closure (λ x r q k. search (rules, tests)))) c.enumerate-seat-items.ensures.count))
    c.loop-seat.yielded c.loop-seat.seat-iterator c.loop-seat.yielded_by _ _ c.in-None.is c.next.ensures.steps in
    record {
      is = new_all (limits_of all c.args.limits) (has c.args.faulty.bits) (length c.loop-seat.yielded)
          c.loop-seat.memory c.loop-seat.invariant.1.0 all-of.1;
    }
