use Rattle.std.proofs.Common.{ap, arith}
use Rattle.protocol.proofs.Ranges.{ranged}
use Rattle.tally.specs.Valid.{valid_vote, vote_limits}
use Rattle.tally.proofs.valid.ValidVote.voted_in.Goals as goal

pub heard_from-requires : goal.heard_from-requires
heard_from-requires c =
    let v = c.args.self in
    let member = (ranged (vote_limits v) (valid_vote v) v.in_range).member in
    record { from = omega (arith, member, ap (λ l. l.members) c.slot.ensures.limits) }
