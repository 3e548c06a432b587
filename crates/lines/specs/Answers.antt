-- The text of an answer: its parts, which are its lines. Assumes nothing: these are definitions.
use Rattle.std.specs.Prelude.{ℕ, List, [], ◌∷◌, ◌++◌, map, codes}
use Rattle.protocol.specs.Vote.{Vote}
use Rattle.protocol.specs.Member.{got_vote, Answer, refused, says}
use Rattle.lines.specs.Between.{between, spaced}
use Rattle.text.specs.Decimals.{spelled}
use Rattle.lines.specs.Events.{event_text}

-- a vote that is said is the text of the event that it is for the others
abbrev pub vote_text : Vote → List ℕ
vote_text v = event_text (got_vote v)

-- `agreed none`, or `agreed` and the value
abbrev pub agreed_text : List ℕ → List ℕ
agreed_text [] = spaced (codes "agreed" ∷ (codes "none" ∷ []))
agreed_text (x ∷ xs) = spaced (codes "agreed" ∷ (spelled x ∷ []))

-- `refused`, why and at which place
abbrev pub refused_text : ℕ → ℕ → List ℕ
refused_text r n = spaced (codes "refused" ∷ (spelled r ∷ (spelled n ∷ [])))

-- a part for each vote, then one for what is agreed on; or one for the refusal
abbrev pub answer_parts : Answer → List (List ℕ)
answer_parts (refused r n) = refused_text r n ∷ []
answer_parts (says vs xs) = map vote_text vs ++ (agreed_text xs ∷ [])

-- a line for each part, ended by a line feed
abbrev pub answer_lines : Answer → List ℕ
answer_lines a = between (10 ∷ []) (answer_parts a) ++ (10 ∷ [])

-- the parts in one line
abbrev pub answer_line : Answer → List ℕ
answer_line a = between (codes "; ") (answer_parts a)
