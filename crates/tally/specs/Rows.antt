-- Entries by themselves, eight numbers each, as a row has them. Assumes nothing: these are definitions.
use Rattle.std.specs.Prelude.{ℕ, Bool, List, count_by}
use Rattle.tally.specs.Votes.{heard_at, is_only}

-- an entry is for this value
abbrev pub is_for : ℕ → List ℕ → Bool
is_for x entry = is_only x (heard_at entry 0)

-- how many entries of a row are for this value
abbrev pub number_for : ℕ → List (List ℕ) → ℕ
number_for x row = count_by (is_for x) row
