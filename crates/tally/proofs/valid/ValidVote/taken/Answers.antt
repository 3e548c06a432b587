use Rattle.std.proofs.Common.{ap, ◌∙◌}
use Rattle.protocol.specs.Member.{is_some}
use Rattle.tally.specs.Valid.{valid_vote}
use Rattle.tally.proofs.Entries.{some_listed}
use Rattle.tally.proofs.Heard.{taken_voted}
use Rattle.tally.proofs.valid.ValidVote.taken.Goals as goal

pub returns : goal.returns
returns c =
    record {
      is = λ vs h.
          c.is_some.ensures ∙ some_listed c.voted_in.result ∙ ap is_some (c.voted_in.ensures.is vs h)
          ∙ taken_voted (valid_vote c.args.self) vs;
    }
