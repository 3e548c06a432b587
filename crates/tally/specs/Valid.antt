-- The protocol's vote of a vote in range, and its limits. Assumes nothing.
use Rattle.limits.specs.Limits.{limits_of}
use Rattle.protocol.specs.Promises.{all}
use Rattle.protocol.specs.Vote.{Limits, Vote}
use Rattle.wire.specs.Meaning.{vote_of}
use Rattle.tally.specs.declared.valid.ValidVote.{ValidVote}

abbrev pub valid_vote : ValidVote → Vote
valid_vote v = vote_of v.vote

abbrev pub vote_limits : ValidVote → Limits
vote_limits v = limits_of all v.limits
