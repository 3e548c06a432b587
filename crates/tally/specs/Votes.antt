-- When the votes' part of memory holds the votes that were heard. Assumes nothing: these are definitions.
use Rattle.std.specs.Prelude.{◌≡◌, ℕ, zero, suc, ◌+◌, ◌*◌, ◌<◌, Bool, true, false, cond, ◌&&◌, ◌||◌, List, [], ◌∷◌}
use Rattle.std.specs.Prelude.{◌==◌, slice_index}
use Rattle.protocol.specs.Vote.{cert, Vote, Limits, has_quorum}
use Rattle.protocol.specs.Member.{vote_in_range}
use Rattle.protocol.specs.Network.{all_different}
use Rattle.cells.specs.Cells.{value_at}
use Rattle.tally.specs.Layout.{row_of, slot_in_range}

-- the votes that were heard, the last first
abbrev pub Votes : Type 0
Votes = List Vote

-- an entry has eight numbers: 0 if nothing was heard, the four of the value, and three that are not used
abbrev pub heard_at : List ℕ → ℕ → List ℕ
heard_at part e = cond (slice_index part (8 * e) == 0) [] (value_at part (8 * e + 1) ∷ [])

-- where a vote's entry is
abbrev pub entry_of : Limits → Vote → ℕ
entry_of l v = row_of l v.kind v.period v.step + v.from

-- of none or one value: it is this one
unfoldable pub is_only : ℕ → List ℕ → Bool
is_only x [] = false
is_only x (y ∷ ys) = x == y

-- a vote of this member in this slot
abbrev pub is_of : ℕ → ℕ → ℕ → ℕ → Vote → Bool
is_of k p s i w = ((k == w.kind && p == w.period) && s == w.step) && i == w.from

-- what this member voted for in this slot, none or one
unfoldable pub voted : ℕ → ℕ → ℕ → ℕ → List Vote → List ℕ
voted k p s i [] = []
voted k p s i (w ∷ ws) = cond (is_of k p s i w) (w.value ∷ []) (voted k p s i ws)

unfoldable pub all_in_range : Limits → List Vote → Bool
all_in_range l [] = true
all_in_range l (w ∷ ws) = vote_in_range l w && all_in_range l ws

-- The part holds these votes, which are in range and no two of one member in one slot: the entry of each slot and
-- member is what that member voted for there.
pub record Holds (l : Limits) (part : List ℕ) (vs : List Vote) : Type 0 where
  pub different : all_different vs ≡ true
  pub in_range : all_in_range l vs ≡ true
  pub entries : (k p s i : ℕ) → slot_in_range l k p s ≡ true → i < l.members →
      heard_at part (row_of l k p s + i) ≡ voted k p s i vs

-- in one of the first n periods a quorum is certain of this value
unfoldable pub certified_by : Limits → ℕ → ℕ → List Vote → Bool
certified_by l x zero vs = false
certified_by l x (suc n) vs = has_quorum l cert (suc n) 0 x vs || certified_by l x n vs
