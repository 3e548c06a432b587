use Rattle.std.proofs.Common.{rules, ◌≤◌, ◌<◌, ◌⊎◌, refl, ⊎_elim, arith}
use Rattle.limits.specs.Limits.{limits_of}
use Rattle.protocol.specs.Promises.{all}
use Rattle.values.proofs.Limbs.{value_below}
use Rattle.wire.specs.Meaning.{proposal_of}
use Rattle.cells.proofs.InRange.{proposal_low, proposal_high, proposal_good}
use Rattle.cells.proofs.valid.ValidProposal.new.Goals as goal

pub returns-then-contains : goal.returns-then-contains
returns-then-contains c =
    let l = limits_of all c.args.limits in
    let o = proposal_of c.args.proposal in
    let x = c.args.proposal.value in
    let some : 1 ≤ o.period = search rules in
    let few : o.period ≤ l.periods = search rules in
    record { is = (refl, (refl, proposal_good l o some few (value_below x.limbs x.four x.fit) (omega arith))) }

pub returns-else-contains : goal.returns-else-contains
returns-else-contains c =
    let l = limits_of all c.args.limits in
    let o = proposal_of c.args.proposal in
    let out : (o.period < 1) ⊎ (l.periods < o.period) = search rules in
    record { is = ⊎_elim (λ low. proposal_low l o low) (λ high. proposal_high l o high) out }
