use Rattle.std.proofs.Common.{◌+◌, ◌-◌, ◌*◌, ◌<◌, ◌≤◌, arith}
use Rattle.std.proofs.lemmas.Nat.{mul-le}
use Rattle.limits.specs.Limits.{limits_of}
use Rattle.protocol.specs.Promises.{all}
use Rattle.wire.specs.Meaning.{kind_number}
use Rattle.tally.specs.declared.slots.Slot.{Slot}
use Rattle.tally.specs.Layout.{slot_place}
use Rattle.tally.proofs.Index.{period_some, slot_number_below, row_within}
use Rattle.tally.proofs.slots.Slot.first.Goals as goal

pub overflow_sub-result : goal.overflow_sub-result
overflow_sub-result c = let s = c.args.self in period_some (limits_of all s.heard.limits) _ s.period s.step s.in_range

-- there are few slots
few : (s : Slot) →
    (s.period - 1) * (2 * s.heard.limits.steps + 2)
    + slot_place (limits_of all s.heard.limits) (kind_number s.kind) s.step < 576
few s =
    let most : s.heard.limits.periods * (2 * s.heard.limits.steps + 2) ≤ 32 * 18 =
    mul-le _ _ 32 18 s.heard.limits.few_periods (omega arith) in
    omega (arith, slot_number_below (limits_of all s.heard.limits) (kind_number s.kind) s.period s.step s.in_range)

pub overflow_mul-result : goal.overflow_mul-result
overflow_mul-result c = omega (arith, few c.args.self)

pub overflow_add-result : goal.overflow_add-result
overflow_add-result c = omega (arith, few c.args.self, c.place.ensures.is)

pub overflow_mul-result-2 : goal.overflow_mul-result-2
overflow_mul-result-2 c =
    let s = c.args.self in
    let slot : (s.period - 1) * (2 * s.heard.limits.steps + 2) + c.place.result ≤ 576 =
    omega (arith, few s, c.place.ensures.is) in
    omega (arith, mul-le _ _ 576 64 slot s.heard.limits.few_members)

pub returns-clause-within : goal.returns-clause-within
returns-clause-within c =
    let s = c.args.self in
    let some = s.heard.limits.some_member in
    rw c.place.ensures.is (row_within (limits_of all s.heard.limits) _ s.period s.step s.in_range some)
