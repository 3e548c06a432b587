-- Whether an event is in range, by what was made of its vote or proposal.
use Rattle.std.proofs.Common.{◌≡◌, true, false, is_some, Some, None, Option, sym, subst₂, MatchOption}
use Rattle.protocol.specs.Member.{vote_in_range, in_range, got_proposal}
use Rattle.protocol.specs.Promises.{all}
use Rattle.limits.specs.Limits.{limits_of}
use Rattle.limits.specs.declared.bounds.Limits.{Limits}
use Rattle.wire.specs.declared.votes.Vote.{Vote}
use Rattle.wire.specs.declared.votes.Proposal.{Proposal}
use Rattle.wire.specs.Meaning.{vote_of, proposal_of}
use Rattle.tally.specs.declared.valid.ValidVote.{ValidVote}
use Rattle.cells.specs.declared.valid.ValidProposal.{ValidProposal}

pub some_vote : (l : Limits) (v : Vote) (o : Option ValidVote) →
    MatchOption o (vote_in_range (limits_of all l) (vote_of v) ≡ false) (λ w. (w.limits ≡ l) × (w.vote ≡ v)) →
    is_some o ≡ vote_in_range (limits_of all l) (vote_of v)
some_vote l v None h = sym h
some_vote l v (Some w) h =
    sym (subst₂ (λ (k : Limits) (u : Vote). vote_in_range (limits_of all k) (vote_of u) ≡ true) h.0 h.1 w.in_range)

pub some_proposal : (l : Limits) (p : Proposal) (o : Option ValidProposal) →
    MatchOption o (in_range (limits_of all l) (got_proposal (proposal_of p)) ≡ false)
    (λ q. (q.limits ≡ l) × ((q.proposal ≡ p) × (in_range (limits_of all l) (got_proposal (proposal_of p)) ≡ true))) →
    is_some o ≡ in_range (limits_of all l) (got_proposal (proposal_of p))
some_proposal l p None h = sym h
some_proposal l p (Some q) h = sym h.1.1
