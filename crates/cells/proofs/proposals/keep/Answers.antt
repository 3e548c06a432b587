use Rattle.std.proofs.Common.{◌≡◌, ◌+◌, ◌<◌, ◌≤◌, ◌⊎◌, length, get_or, sym, refl, ◌∙◌, inl, inr, arith}
use Rattle.cells.specs.Proposals.{seat, valid_proposal, proposal_limits}
use Rattle.cells.proofs.Best.{proposes_more, better_new, better_old, proposal_written, proposal_only}
use Rattle.cells.proofs.proposals.keep.Goals as goal
use Rattle.cells.proofs.proposals.keep.Goals.{then-proposals-start-eq0-via-then-proposals-start-eq0}
use Rattle.cells.proofs.proposals.keep.Goals.{then-proposals-start-eq0-via-else-proposals-start-eq0+then-proposal-proposals}

pub returns-then-proposals-start-eq0-clause-is : goal.returns-then-proposals-start-eq0-clause-is
returns-then-proposals-start-eq0-clause-is c =
    let l = proposal_limits c.args.proposal in
    let o = valid_proposal c.args.proposal in
    let part = c.args.proposals.now in
    let now = c.put_value.new.part in
    let within : seat o.period + 6 ≤ length part = omega (
      arith,
      c.requires.proposals,
      c.args.proposal.some_period,
      c.args.proposal.few_periods,
    ) in
    let is = proposal_written part now o.period o.rank _ within c.put_value.ensures.only
    c.put_value.ensures.is in
    let only =
    proposal_only part now o.period o.rank _ within c.put_value.ensures.only
    c.put_value.ensures.is in
    let why : (get_or part (seat o.period) 0 ≡ 0) ⊎ (o.rank < get_or part (seat o.period + 1) 0) =
    elim c.then-proposals-start-eq0.branch [
      | then-proposals-start-eq0-via-then-proposals-start-eq0 w ↦ inl w.if-proposals-start-eq0.true
      | then-proposals-start-eq0-via-else-proposals-start-eq0+then-proposal-proposals w ↦
          inr w.if-proposal-proposals.true
    ] in
    λ os h.
    proposes_more l part now o os h c.args.proposal.some_period c.args.proposal.few_periods
    (is ∙ sym (better_new part o why)) only

pub returns-else-proposal-proposals-clause-is : goal.returns-else-proposal-proposals-clause-is
returns-else-proposal-proposals-clause-is c =
    let l = proposal_limits c.args.proposal in
    let o = valid_proposal c.args.proposal in
    let part = c.args.proposals.now in
    λ os h. proposes_more l part part o os h c.args.proposal.some_period c.args.proposal.few_periods
    (better_old part o c.if-proposals-start-eq0.false c.if-proposal-proposals.false) (λ i _. refl)
