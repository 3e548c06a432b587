use Rattle.std.proofs.Common.{ℕ, suc, ◌+◌, ◌*◌, ◌≤◌, subst, ⊎_elim, arith}
use Rattle.std.proofs.lemmas.Bool.{cases_lt}
use Rattle.std.proofs.lemmas.Nat.{mul-le}
use Rattle.limits.specs.Limits.{limits_of}
use Rattle.limits.specs.declared.bounds.Limits.{Limits}
use Rattle.protocol.specs.Promises.{all}
use Rattle.protocol.specs.Vote as protocol
use Rattle.protocol.specs.Vote.{next, Vote}
use Rattle.protocol.proofs.Ranges.{Ranged, ranged}
use Rattle.tally.specs.Layout.{votes_size}
use Rattle.tally.specs.Valid.{valid_vote, vote_limits}
use Rattle.tally.proofs.valid.ValidVote.entry.Goals as goal

-- the step is small too: that the sum fits does not rest on which field is added, and which entry it is stands below
small_step : (l : protocol.Limits) (v : Vote) → Ranged l v → v.step ≤ suc l.steps
small_step l v r = ⊎_elim (λ low. omega (arith, r.first_step low)) (λ high. r.steps high) (cases_lt v.kind next)

-- the slot's row ends within the part
abbrev row_end : ℕ → Limits → Type 0
row_end first l = 8 * (first + l.members) ≤ votes_size (limits_of all l)

pub overflow_add-result : goal.overflow_add-result
overflow_add-result c =
    let v = c.args.self in
    let l = v.limits in
    let slots : l.periods * (2 * l.steps + 2) ≤ 32 * 18 = mul-le _ _ 32 18 l.few_periods (omega arith) in
    let most : l.members * (l.periods * (2 * l.steps + 2)) ≤ 64 * 576 = mul-le _ _ 64 576 l.few_members slots in
    let within : row_end c.first.result l =
    subst (row_end c.first.result) c.slot.ensures.limits c.first.ensures.within in
    let r = ranged (vote_limits v) (valid_vote v) v.in_range in
    omega (arith, within, most, r.member, small_step (vote_limits v) (valid_vote v) r, l.few_steps)

pub returns-clause-within : goal.returns-clause-within
returns-clause-within c =
    let v = c.args.self in
    let within : row_end c.first.result v.limits =
    subst (row_end c.first.result) c.slot.ensures.limits c.first.ensures.within in
    omega (arith, within, (ranged (vote_limits v) (valid_vote v) v.in_range).member)
