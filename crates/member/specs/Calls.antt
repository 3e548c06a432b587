-- What opening a member and calling it do: the two definitions by which a caller knows them. Assumes nothing.
use Rattle.std.specs.Prelude.{◌≡◌, ℕ, ◌<◌, ◌≤◌, Bool, true, ◌&&◌, List, [], ◌∷◌, length, Some, None, Ok, Err, Result}
use Rattle.std.specs.Prelude.{◌==◌}
use Rattle.protocol.specs.Vote as protocol
use Rattle.protocol.specs.Vote.{is_vote_in}
use Rattle.protocol.specs.Member.{Event, Answer, refusal, answer}
use Rattle.protocol.specs.Programs.{member_after, memory_size, all_words}
use Rattle.protocol.specs.Promises.{all}
use Rattle.limits.specs.Limits.{first_bad}
use Rattle.wire.specs.declared.answers.Answer as code
use Rattle.wire.specs.Meaning.{answer_of}
use Rattle.member.specs.Answered.{Carries}
use Rattle.member.specs.Header.{Header}
use Rattle.moves.specs.Moves.{OfMember}
use Rattle.moves.specs.Parts.{part, of_rest}
use Rattle.moves.specs.Stands.{Stands}
use Rattle.member.specs.declared.calls.OpenError.{OpenError}
use Rattle.member.specs.declared.calls.OpenError.TheVariants.{OutOfRange, NotMember, TooShort}
use Rattle.member.specs.declared.calls.NotOpen.{NotOpen}
use Rattle.moves.specs.declared.state.Member.{Member}

-- the same limits, for a stage that takes every event
abbrev pub taking_all : protocol.Limits → protocol.Limits
taking_all l = record { takes = all; members = l.members; periods = l.periods; steps = l.steps; blocks = l.blocks }

-- The memory holds what the protocol makes of these events, the last first, of member i with limits l, at a stage that
-- takes the four events.
pub record Kept (l : protocol.Limits) (i : ℕ) (es : List Event) (mem : List ℕ) : Type 0 where
  pub takes : (k : ℕ) → k < 4 → l.takes k ≡ true
  pub carries : Carries (taking_all l) i mem (member_after l i es)

-- OPENED: the memory holds a new member.
abbrev pub Opened : protocol.Limits → ℕ → List ℕ → Type 0
Opened l i mem = Kept l i [] mem

-- CALLED: whatever events the memory holds, the answer to this one is what the definitions say, and the memory then
-- holds that event too; what is refused leaves the memory exactly as it was;
-- and what lies behind the member's memory stays.
pub record Called (mem : List ℕ) (e : Event) (new : List ℕ) (a : Answer) : Type 0 where
  pub is : (l : protocol.Limits) (i : ℕ) (es : List Event) → Kept l i es mem → a ≡ answer l (member_after l i es) e
  pub kept : (l : protocol.Limits) (i : ℕ) (es : List Event) → Kept l i es mem → Kept l i (e ∷ es) new
  pub refused : (l : protocol.Limits) (i : ℕ) (es : List Event) → Kept l i es mem →
      0 < refusal l (member_after l i es) e → new ≡ mem
  pub rest : (l : protocol.Limits) (i : ℕ) (es : List Event) → Kept l i es mem → part of_rest l new ≡ part of_rest l mem
  pub long : length new ≡ length mem
  pub words : all_words mem ≡ true → all_words new ≡ true

-- a member is held: the memory begins with its header
abbrev pub IsOpen : List ℕ → Type 0
IsOpen mem = (x : Member) × Header mem x

-- no member is held
abbrev pub IsNotOpen : List ℕ → Type 0
IsNotOpen mem = (x : Member) → Header mem x → ⊥

-- what is to be seen of a member by value is what the definitions make of the events that the memory holds
abbrev pub Looks : List ℕ → Member → Type 0
Looks mem x = (l : protocol.Limits) (i : ℕ) (es : List Event) → Kept l i es mem → Stands x mem (member_after l i es)

-- a vote that a member said: it is in its own name, and it heard it
abbrev pub SaidIt : protocol.Vote → OfMember → Bool
SaidIt v m = v.from == m.me && is_vote_in v m.votes

-- whether it said this vote; or no member is held
abbrev pub BySaid : List ℕ → protocol.Vote → Result Bool NotOpen → Type 0
BySaid mem v (Ok b) =
    (l : protocol.Limits) (i : ℕ) (es : List Event) → Kept l i es mem → b ≡ SaidIt v (member_after l i es)
BySaid mem v (Err n) = IsNotOpen mem

-- called; or no member is held, and nothing changes
abbrev pub ByCall : List ℕ → Event → List ℕ → Result code.Answer NotOpen → Type 0
ByCall mem e new (Ok a) = Called mem e new (answer_of a)
ByCall mem e new (Err n) = IsNotOpen mem × (new ≡ mem)

-- limits of these numbers, at a stage that takes the four events
pub record OfNumbers (ms ps ss bs : ℕ) (l : protocol.Limits) : Type 0 where
  pub members : l.members ≡ ms
  pub periods : l.periods ≡ ps
  pub steps : l.steps ≡ ss
  pub blocks : l.blocks ≡ bs
  pub takes : (k : ℕ) → k < 4 → l.takes k ≡ true

-- a member was opened: it holds nothing yet, and what lies behind its memory stays
pub record Opening (members periods steps blocks i : ℕ) (mem new : List ℕ) : Type 0 where
  pub member : i < members
  pub is : (l : protocol.Limits) → OfNumbers members periods steps blocks l → Opened l i new
  pub rest : (l : protocol.Limits) → OfNumbers members periods steps blocks l → part of_rest l new ≡ part of_rest l mem
  pub long : length new ≡ length mem
  pub words : all_words new ≡ true

-- what opening leaves and answers for these numbers: the first reason of the list that applies refuses it, and then
-- nothing changes
abbrev pub ByOpen : ℕ → ℕ → ℕ → ℕ → ℕ → List ℕ → List ℕ → Result (Unit {0}) OpenError → Type 0
ByOpen members periods steps blocks i mem new (Ok u) =
    (first_bad members periods steps blocks ≡ None) × Opening members periods steps blocks i mem new
ByOpen members periods steps blocks i mem new (Err (OutOfRange limit)) =
    (first_bad members periods steps blocks ≡ Some limit) × (new ≡ mem)
ByOpen members periods steps blocks i mem new (Err NotMember) =
    (first_bad members periods steps blocks ≡ None) × ((members ≤ i) × (new ≡ mem))
ByOpen members periods steps blocks i mem new (Err (TooShort n)) =
    (first_bad members periods steps blocks ≡ None) × ((i < members) × ((length mem < n)
    × (((l : protocol.Limits) → OfNumbers members periods steps blocks l → n ≡ memory_size l) × (new ≡ mem))))
