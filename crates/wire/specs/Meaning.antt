-- What the types of the code stand for in the protocol. Assumes nothing: these are definitions.
use Rattle.std.specs.Prelude.{ℕ, cond, List, [], ◌∷◌, Some, None, Ok, Err, Option, Result, ◌==◌}
use Rattle.values.specs.declared.value.Value.{Value}
use Rattle.values.specs.Values.{value_of}
use Rattle.protocol.specs.Vote as protocol
use Rattle.protocol.specs.Member.{got_vote, got_proposal, got_block, timeout, unreadable, refused, says, no_event}
use Rattle.protocol.specs.Member.{out_of_range, agreed_before, voted_before, no_more_time, no_more_blocks}
use Rattle.protocol.specs.Member as member
use Rattle.wire.specs.declared.votes.Kind.{Kind}
use Rattle.wire.specs.declared.votes.Kind.TheVariants.{Soft, Cert, Next, NextNone}
use Rattle.wire.specs.declared.votes.Vote.{Vote}
use Rattle.wire.specs.declared.votes.Proposal.{Proposal}
use Rattle.wire.specs.declared.events.Event.{Event}
use Rattle.wire.specs.declared.events.Event.TheVariants as event
use Rattle.wire.specs.declared.answers.Refusal.{Refusal}
use Rattle.wire.specs.declared.answers.Refusal.TheVariants.{NoEvent, OutOfRange, AgreedBefore}
use Rattle.wire.specs.declared.answers.Refusal.TheVariants.{VotedBefore, NoMoreTime, NoMoreBlocks}
use Rattle.wire.specs.declared.answers.Said.{Said}
use Rattle.wire.specs.declared.answers.Said.TheVariants.{Nothing, One, Two}
use Rattle.wire.specs.declared.answers.Answer.{Answer}
use Rattle.wire.specs.declared.answers.Answer.TheVariants.{Refused, Says}

-- the protocol's number of a kind
abbrev pub kind_number : Kind → ℕ
kind_number Soft = protocol.soft
kind_number Cert = protocol.cert
kind_number Next = protocol.next
kind_number NextNone = protocol.next_none

-- the kind of a number, if it is one's
abbrev pub kind_of : ℕ → Option Kind
kind_of n =
    cond (n == protocol.soft) (Some Soft)
    (cond (n == protocol.cert) (Some Cert)
    (cond (n == protocol.next) (Some Next) (cond (n == protocol.next_none) (Some NextNone) None)))

-- the protocol's vote, proposal and event that these are
abbrev pub vote_of : Vote → protocol.Vote
vote_of v = record { kind = v.kind; period = v.period; step = v.step; value = value_of v.value; from = v.from }

abbrev pub proposal_of : Proposal → protocol.Proposal
proposal_of o = record { period = o.period; rank = o.rank; value = value_of o.value }

abbrev pub event_of : Event → member.Event
event_of (event.Vote v) = got_vote (vote_of v)
event_of (event.Proposal o) = got_proposal (proposal_of o)
event_of (event.Block x) = got_block (value_of x)
event_of event.Timeout = timeout

-- what reading gave: an event, or the place at which the bytes cease to be one
abbrev pub event_read : Result Event ℕ → member.Event
event_read (Ok e) = event_of e
event_read (Err n) = unreadable n

-- the protocol's number of a refusal
abbrev pub refusal_number : Refusal → ℕ
refusal_number NoEvent = no_event
refusal_number OutOfRange = out_of_range
refusal_number AgreedBefore = agreed_before
refusal_number VotedBefore = voted_before
refusal_number NoMoreTime = no_more_time
refusal_number NoMoreBlocks = no_more_blocks

-- the refusal of a number, if it is one's
abbrev pub refusal_of : ℕ → Option Refusal
refusal_of n =
    cond (n == no_event) (Some NoEvent)
    (cond (n == out_of_range) (Some OutOfRange)
    (cond (n == agreed_before) (Some AgreedBefore)
    (cond (n == voted_before) (Some VotedBefore)
    (cond (n == no_more_time) (Some NoMoreTime)
    (cond (n == no_more_blocks) (Some NoMoreBlocks) None)))))

-- the votes that are said, the first first
abbrev pub said_of : Said → List protocol.Vote
said_of Nothing = []
said_of (One v) = vote_of v ∷ []
said_of (Two v w) = vote_of v ∷ vote_of w ∷ []

-- what is agreed on: none or one
abbrev pub agreed_of : Option Value → List ℕ
agreed_of None = []
agreed_of (Some x) = value_of x ∷ []

-- the protocol's answer that this is
abbrev pub answer_of : Answer → member.Answer
answer_of (Refused r n) = refused (refusal_number r) n
answer_of (Says s x) = says (said_of s) (agreed_of x)

-- what reading gave: an answer, or the place at which the bytes cease to be one
abbrev pub answer_read : Result Answer ℕ → Result member.Answer ℕ
answer_read (Ok a) = Ok (answer_of a)
answer_read (Err n) = Err n
