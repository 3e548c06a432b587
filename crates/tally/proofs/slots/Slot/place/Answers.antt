use Rattle.std.proofs.Common.{arith}
use Rattle.limits.specs.Limits.{limits_of}
use Rattle.protocol.specs.Promises.{all}
use Rattle.tally.proofs.Index.{step_high}
use Rattle.tally.proofs.slots.Slot.place.Goals as goal

pub overflow_add-result : goal.overflow_add-result
overflow_add-result c =
    let s = c.args.self in
    omega (arith, step_high (limits_of all s.heard.limits) _ s.period s.step s.in_range, s.heard.limits.few_steps)
