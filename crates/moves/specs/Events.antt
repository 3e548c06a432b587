-- Words of the contracts of what a member does with an event. Assumes nothing: these are definitions.
use Rattle.std.specs.Prelude.{◌≡◌, ℕ, List, []}
use Rattle.protocol.specs.Vote as protocol
use Rattle.protocol.specs.Member.{Outcome, certified}
use Rattle.safety.specs.Alone.{Fresh}
use Rattle.moves.specs.Moves.{OfMember}
use Rattle.moves.specs.Parts.{part, of_header, of_rest}
use Rattle.moves.specs.Stands.{Stands}
use Rattle.moves.specs.declared.state.Member.{Member}

-- what is true of a member alone after any events: its own slots from where it stands on are free, and if it has not
-- agreed there is no certified value whose block is here
pub record Lone (l : protocol.Limits) (m : OfMember) : Type 0 where
  pub fresh : Fresh l m.me m
  pub none : m.agreed ≡ [] → certified l m ≡ []

-- the same of one that has not agreed
pub record Ready (l : protocol.Limits) (m : OfMember) : Type 0 where
  pub fresh : Fresh l m.me m
  pub open_minded : m.agreed ≡ []
  pub none : certified l m ≡ []

-- a member with its memory and what it says are what an outcome has
pub record Did (x : Member) (mem : List ℕ) (said : List protocol.Vote) (d : Outcome) : Type 0 where
  pub stands : Stands x mem d.member
  pub out : said ≡ d.out

-- the header, and what the member does not use, are as they were
pub record KeptParts (l : protocol.Limits) (before after : List ℕ) : Type 0 where
  pub header : part of_header l after ≡ part of_header l before
  pub rest : part of_rest l after ≡ part of_rest l before
