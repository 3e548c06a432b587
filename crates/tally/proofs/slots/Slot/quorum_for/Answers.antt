use Rattle.std.proofs.Common.{leb, ap, ◌∙◌}
use Rattle.limits.specs.Limits.{limits_of}
use Rattle.protocol.specs.Promises.{all}
use Rattle.protocol.specs.Vote.{quorum, has_quorum}
use Rattle.tally.proofs.Counting.{count-row}
use Rattle.tally.proofs.slots.Slot.quorum_for.Goals as goal

pub returns : goal.returns
unfolding has_quorum
returns c =
    let s = c.args.self in
    record {
      is = λ vs h.
          c.quorum_in.ensures.is
          ∙ ap (leb (quorum s.heard.limits.members))
          (count-row (limits_of all s.heard.limits) s.heard.votes.now vs h _ s.period s.step _ c.row.result.now
          s.in_range c.row.ensures.long c.row.ensures.entries);
    }
