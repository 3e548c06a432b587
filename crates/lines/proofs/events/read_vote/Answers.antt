use Rattle.lines.proofs.Reading.{first_word, after_word, value-from, vote_fits}
use Rattle.lines.proofs.events.read_vote.Goals as goal

pub returns-in_err-kind : goal.returns-in_err-kind
returns-in_err-kind c =
    record {
      is = rw c.from_residual.ensures
          (λ v fits e. c.in_err-kind.ensures.is v.kind _ _ (vote_fits v fits).0 e);
    }

pub returns-in_err-period : goal.returns-in_err-period
returns-in_err-period c =
    let kind = c.in_ok-kind.ensures.is in
    record {
      is = rw c.from_residual-in_err-period.ensures
          (λ v fits e. c.in_err-period.ensures.is v.period _ _ (vote_fits v fits).1 (after_word kind e));
    }

pub returns-in_err-step : goal.returns-in_err-step
returns-in_err-step c =
    let kind = c.in_ok-kind.ensures.is in
    let period = c.in_ok-period.ensures.is in
    record {
      is = rw c.from_residual-in_err-step.ensures
          (λ v fits e. c.in_err-step.ensures.is v.step _ _ (vote_fits v fits).2
          (after_word period (after_word kind e)));
    }

pub returns-in_err-value : goal.returns-in_err-value
returns-in_err-value c =
    let kind = c.in_ok-kind.ensures.is in
    let period = c.in_ok-period.ensures.is in
    let step = c.in_ok-step.ensures.is in
    let word = c.in_ok-word.ensures.is in
    record {
      is = rw c.from_residual-in_err-value.ensures
          (λ v fits e. c.in_err-value.ensures.is v.value (vote_fits v fits).3
          (first_word word (value-from v kind period step e)));
    }

pub returns-in_err-from : goal.returns-in_err-from
returns-in_err-from c =
    let kind = c.in_ok-kind.ensures.is in
    let period = c.in_ok-period.ensures.is in
    let step = c.in_ok-step.ensures.is in
    let word = c.in_ok-word.ensures.is in
    record {
      is = rw c.from_residual-in_err-from.ensures
          (λ v fits e. c.in_err-from.ensures.is v.from (vote_fits v fits).4
          (after_word word (value-from v kind period step e)));
    }
