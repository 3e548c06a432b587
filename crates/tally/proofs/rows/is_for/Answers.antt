use Rattle.std.proofs.Common.{ap, ◌∙◌}
use Rattle.values.specs.Digits.{number_of}
use Rattle.tally.specs.Votes.{is_only}
use Rattle.tally.proofs.Entries.{only_listed}
use Rattle.tally.proofs.rows.is_for.Goals as goal

pub returns : goal.returns
returns c =
    let v = c.args.value in
    record { is = c.eq.ensures ∙ only_listed c.heard.result v ∙ ap (is_only (number_of v.limbs)) c.heard.ensures.is }
