-- The words of the line that says an event. Assumes nothing: these are definitions.
use Rattle.std.specs.Prelude.{ℕ, List, [], ◌∷◌, codes}
use Rattle.protocol.specs.Vote.{Vote, Proposal}
use Rattle.protocol.specs.Member.{Event, got_vote, got_proposal, got_block, timeout, unreadable}
use Rattle.lines.specs.Between.{spaced}
use Rattle.text.specs.Decimals.{spelled}

-- KIND PERIOD STEP VALUE FROM
abbrev pub vote_words : Vote → List (List ℕ)
vote_words v =
    spelled v.kind ∷ (spelled v.period ∷ (spelled v.step ∷ (spelled v.value ∷ (spelled v.from ∷ []))))

-- PERIOD RANK VALUE
abbrev pub proposal_words : Proposal → List (List ℕ)
proposal_words o = spelled o.period ∷ (spelled o.rank ∷ (spelled o.value ∷ []))

-- which event it is, then its fields; bytes that are no event have no line
abbrev pub event_words : Event → List (List ℕ)
event_words (got_vote v) = codes "vote" ∷ vote_words v
event_words (got_proposal o) = codes "offer" ∷ proposal_words o
event_words (got_block x) = codes "block" ∷ (spelled x ∷ [])
event_words timeout = codes "time" ∷ []
event_words (unreadable n) = []

-- the text of its line
abbrev pub event_text : Event → List ℕ
event_text e = spaced (event_words e)
