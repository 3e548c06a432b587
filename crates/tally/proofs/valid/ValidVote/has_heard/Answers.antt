use Rattle.std.proofs.Common.{ap, ◌∙◌}
use Rattle.tally.specs.Valid.{valid_vote}
use Rattle.tally.specs.Votes.{is_only}
use Rattle.tally.proofs.Entries.{only_listed}
use Rattle.tally.proofs.Heard.{heard_voted}
use Rattle.tally.proofs.valid.ValidVote.has_heard.Goals as goal

pub returns : goal.returns
returns c =
    let v = valid_vote c.args.self in
    record {
      is = λ vs h.
          c.eq.ensures ∙ only_listed c.voted_in.result c.args.self.vote.value
          ∙ ap (is_only v.value) (c.voted_in.ensures.is vs h) ∙ heard_voted v vs h.different;
    }
