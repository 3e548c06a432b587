-- When memory holds a member, and what an answer to an event leaves there. Assumes nothing: these are definitions.
use Rattle.std.specs.Prelude.{◌≡◌, ℕ, ◌<◌, List}
use Rattle.protocol.specs.Vote.{Limits}
use Rattle.protocol.specs.Member.{Event, refusal, answer, after}
use Rattle.wire.specs.declared.answers.Answer.{Answer}
use Rattle.wire.specs.Meaning.{answer_of}
use Rattle.member.specs.Header.{Header}
use Rattle.moves.specs.Moves.{OfMember}
use Rattle.moves.specs.Parts.{part, of_rest}
use Rattle.moves.specs.Stands.{lim, Stands}
use Rattle.moves.specs.declared.state.Member.{Member}

-- The memory holds the protocol's member m, with these limits and this number: its header is that of a member by value
-- that, with this memory, is m.
pub record Carries (l : Limits) (i : ℕ) (mem : List ℕ) (m : OfMember) : Type 0 where
  pub member : Member
  pub limits : lim member ≡ l
  pub me : member.me ≡ i
  pub header : Header mem member
  pub stands : Stands member mem m

-- the answer to an event is the protocol's, the memory then holds the member after it, what is refused changes nothing,
-- and what lies behind the member's memory is as it was
pub record Answered (x : Member) (mem new : List ℕ) (m : OfMember) (e : Event) (a : Answer) : Type 0 where
  pub is : answer_of a ≡ answer (lim x) m e
  pub carries : Carries (lim x) x.me new (after (lim x) m e)
  pub kept : 0 < refusal (lim x) m e → new ≡ mem
  pub rest : part of_rest (lim x) new ≡ part of_rest (lim x) mem
