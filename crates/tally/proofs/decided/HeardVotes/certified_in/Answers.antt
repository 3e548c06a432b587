use Rattle.std.proofs.Common.{arith}
use Rattle.limits.specs.Limits.{limits_of}
use Rattle.protocol.specs.Promises.{all}
use Rattle.tally.proofs.Index.{alone_good}
use Rattle.tally.proofs.decided.HeardVotes.certified_in.Goals as goal

pub invariant_of-slot : goal.invariant_of-slot
invariant_of-slot c =
    record {
      in_range = alone_good (limits_of all c.args.self.limits) _ c.args.period (omega arith) c.requires.some
          c.requires.few;
    }
