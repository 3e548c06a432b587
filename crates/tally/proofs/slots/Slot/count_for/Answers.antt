use Rattle.std.proofs.Common.{◌∙◌}
use Rattle.limits.specs.Limits.{limits_of}
use Rattle.protocol.specs.Promises.{all}
use Rattle.tally.proofs.Counting.{count-row}
use Rattle.tally.proofs.slots.Slot.count_for.Goals as goal

pub returns : goal.returns
returns c =
    let s = c.args.self in
    record {
      is = λ vs h.
          c.count_in.ensures.is
          ∙ count-row (limits_of all s.heard.limits) s.heard.votes.now vs h _ s.period s.step _ c.row.result.now
          s.in_range c.row.ensures.long c.row.ensures.entries;
    }
