-- Which line says which event, and what is promised of lines that were printed. Assumes nothing: these are definitions
-- and statements.
use Rattle.std.specs.Prelude.{◌≡◌, ℕ, true, List, [], ◌∷◌, ◌++◌, Some, None, Option, MatchOption, ◌≢◌}
use Rattle.text.specs.Words.{pieces, words}
use Rattle.protocol.specs.Vote.{Vote, Proposal}
use Rattle.protocol.specs.Member.{Event, got_vote, got_proposal, is_event, Answer}
use Rattle.protocol.specs.Programs.{readable}
use Rattle.wire.specs.Meaning.{vote_of, proposal_of, event_of}
use Rattle.wire.specs.declared.events.Event as wire
use Rattle.wire.specs.declared.votes.Vote as votes
use Rattle.wire.specs.declared.votes.Proposal as proposals
use Rattle.lines.specs.Events.{vote_words, proposal_words, event_words, event_text}
use Rattle.lines.specs.Answers.{answer_parts, answer_lines}

-- the text has the words of this vote, or of no vote whose numbers fit
abbrev pub ReadsVote : List ℕ → Option votes.Vote → Type 0
ReadsVote text (Some v) = words text ≡ vote_words (vote_of v)
ReadsVote text None = (v : Vote) → readable (got_vote v) ≡ true → words text ≢ vote_words v

-- so for a proposal
abbrev pub ReadsProposal : List ℕ → Option proposals.Proposal → Type 0
ReadsProposal text (Some o) = words text ≡ proposal_words (proposal_of o)
ReadsProposal text None = (o : Proposal) → readable (got_proposal o) ≡ true → words text ≢ proposal_words o

-- the line has the words of this event; or no event whose numbers fit has its words
abbrev pub Reads : List ℕ → Option wire.Event → Type 0
Reads line (Some e) = words line ≡ event_words (event_of e)
Reads line None = (e : Event) → readable e ≡ true → words line ≢ event_words e

-- What is printed is read back: every event whose numbers fit.
abbrev pub EventsReadBack : Type 0
EventsReadBack =
    (e : Event) (r : Option wire.Event) → is_event e ≡ true → readable e ≡ true → Reads (event_text e) r →
    MatchOption r ⊥ (λ e'. event_of e' ≡ e)

-- There is one spelling: a line that says an event is what printing it gives.
abbrev pub EventsOneSpelling : Type 0
EventsOneSpelling = (line : List ℕ) (e : wire.Event) → Reads line (Some e) → line ≡ event_text (event_of e)

-- Cut at its line feeds, what is printed of an answer gives its parts, and nothing after the last.
abbrev pub AnswersByLines : Type 0
AnswersByLines = (a : Answer) → pieces 10 (answer_lines a) ≡ answer_parts a ++ ([] ∷ [])
