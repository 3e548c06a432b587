-- When a member by value, with its memory, is the protocol's member. Assumes nothing: these are definitions.
use Rattle.std.specs.Prelude.{◌≡◌, ℕ, List}
use Rattle.protocol.specs.Vote.{Limits}
use Rattle.protocol.specs.Member as protocol
use Rattle.protocol.specs.Promises.{all}
use Rattle.limits.specs.Limits.{limits_of}
use Rattle.cells.specs.Cells.{listed}
use Rattle.tally.specs.Votes.{Holds}
use Rattle.cells.specs.Proposals.{Proposes}
use Rattle.cells.specs.Blocks.{blocks_in}
use Rattle.moves.specs.Parts.{part, of_votes, of_proposals, of_blocks}
use Rattle.moves.specs.declared.state.Member.{Member}

-- the protocol's limits of a member
abbrev pub lim : Member → Limits
lim x = limits_of all x.limits

pub record Stands (x : Member) (mem : List ℕ) (m : protocol.Member) : Type 0 where
  pub me : x.me ≡ m.me
  pub period : x.period ≡ m.period
  pub step : x.step ≡ m.step
  pub start : listed x.start ≡ m.start
  pub free : x.free ≡ m.free
  pub certain : x.certain ≡ m.certain
  pub agreed : listed x.agreed ≡ m.agreed
  pub votes : Holds (lim x) (part of_votes (lim x) mem) m.votes
  pub proposals : Proposes (lim x) (part of_proposals (lim x) mem) m.proposals
  pub blocks : blocks_in (part of_blocks (lim x) mem) x.blocks ≡ m.blocks
