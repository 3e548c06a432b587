-- The values whose blocks are here, as the blocks' part of memory has them. Assumes nothing: these are definitions.
use Rattle.std.specs.Prelude.{◌≡◌, ℕ, zero, suc, ◌+◌, ◌*◌, ◌<◌, ◌≤◌, false, List, [], ◌∷◌, length, Some, None, Option}
use Rattle.protocol.specs.Member.{is_in, add_block}
use Rattle.protocol.specs.Vote.{Limits}
use Rattle.cells.specs.Cells.{value_at}

-- how many numbers the blocks take
abbrev pub blocks_size : Limits → ℕ
blocks_size l = 4 * l.blocks

-- the first n values of the part, four numbers each, the last first
unfoldable pub blocks_in : List ℕ → ℕ → List ℕ
blocks_in part zero = []
blocks_in part (suc n) = value_at part (4 * n) ∷ blocks_in part n

-- a block was added to the first n, unless it was among them, and now there are m; or it was not, and there is no room
abbrev pub Added : ℕ → ℕ → List ℕ → List ℕ → Option ℕ → Type 0
Added x n before after (Some m) = (blocks_in after m ≡ add_block x (blocks_in before n)) × (4 * m ≤ length after)
Added x n before after None =
    (is_in x (blocks_in before n) ≡ false) × ((length before < 4 * n + 4) × (after ≡ before))
