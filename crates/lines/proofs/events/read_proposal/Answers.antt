use Rattle.lines.proofs.Reading.{after_word, proposal_fits}
use Rattle.lines.proofs.events.read_proposal.Goals as goal

pub returns-in_err-period : goal.returns-in_err-period
returns-in_err-period c =
    record {
      is = rw c.from_residual.ensures
          (λ o fits e. c.in_err-period.ensures.is o.period _ _ (proposal_fits o fits).0 e);
    }

pub returns-in_err-rank : goal.returns-in_err-rank
returns-in_err-rank c =
    let period = c.in_ok-period.ensures.is in
    record {
      is = rw c.from_residual-in_err-rank.ensures
          (λ o fits e. c.in_err-rank.ensures.is o.rank _ _ (proposal_fits o fits).1 (after_word period e));
    }

pub returns-in_err-value : goal.returns-in_err-value
returns-in_err-value c =
    let period = c.in_ok-period.ensures.is in
    let rank = c.in_ok-rank.ensures.is in
    record {
      is = rw c.from_residual-in_err-value.ensures
          (λ o fits e. c.in_err-value.ensures.is o.value (proposal_fits o fits).2
          (after_word rank (after_word period e)));
    }
