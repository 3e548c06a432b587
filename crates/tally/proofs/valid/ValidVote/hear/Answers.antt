use Rattle.std.proofs.Common.{◌≡◌, ℕ, [], ◌∷◌, rules, subst}
use Rattle.tally.specs.Valid.{valid_vote, vote_limits}
use Rattle.tally.specs.Votes.{heard_at, entry_of}
use Rattle.tally.proofs.Heard.{holds_more, same_heard}
use Rattle.tally.proofs.valid.ValidVote.hear.Goals as goal

pub returns-clause-is : goal.returns-clause-is
returns-clause-is c =
    let l = vote_limits c.args.self in
    let v = valid_vote c.args.self in
    let part = c.args.votes.now in
    let now = c.put_heard.new.votes in
    let is : heard_at now (entry_of l v) ≡ v.value ∷ [] =
    subst (λ (e : ℕ). heard_at now e ≡ v.value ∷ []) c.entry-at.ensures.is c.put_heard.ensures.is in
    λ vs h free. holds_more l part now v vs h c.args.self.in_range free is
    (λ e other. same_heard part now e (entry_of l v) (search rules) other)
