-- The parts of a member's memory, and what a change of one leaves alone. Assumes nothing: these are definitions.
use Rattle.std.specs.Prelude.{◌≡◌, ℕ, ◌+◌, ◌<◌, ◌≤◌, Bool, true, false, List, drop, Some, None, Option, slice_index}
use Rattle.std.specs.List.{between}
use Rattle.protocol.specs.Vote.{Limits}
use Rattle.protocol.specs.Member.{is_in, add_block}
use Rattle.cells.specs.Blocks.{blocks_in, blocks_size}
use Rattle.cells.specs.Proposals.{proposals_size}
use Rattle.tally.specs.Layout.{votes_size}

-- header, votes, proposals, blocks, and what the member does not use
pub data Part : Type 0 where
  of_header of_votes of_proposals of_blocks of_rest : Part

abbrev pub votes_end : Limits → ℕ
votes_end l = 64 + votes_size l

abbrev pub proposals_end : Limits → ℕ
proposals_end l = votes_end l + proposals_size l

abbrev pub blocks_end : Limits → ℕ
blocks_end l = proposals_end l + blocks_size l

abbrev pub part : Part → Limits → List ℕ → List ℕ
part of_header l mem = between 0 64 mem
part of_votes l mem = between 64 (votes_end l) mem
part of_proposals l mem = between (votes_end l) (proposals_end l) mem
part of_blocks l mem = between (proposals_end l) (blocks_end l) mem
part of_rest l mem = drop (blocks_end l) mem

abbrev pub is_part : Part → Part → Bool
is_part of_header of_header = true
is_part of_header of_votes = false
is_part of_header of_proposals = false
is_part of_header of_blocks = false
is_part of_header of_rest = false
is_part of_votes of_header = false
is_part of_votes of_votes = true
is_part of_votes of_proposals = false
is_part of_votes of_blocks = false
is_part of_votes of_rest = false
is_part of_proposals of_header = false
is_part of_proposals of_votes = false
is_part of_proposals of_proposals = true
is_part of_proposals of_blocks = false
is_part of_proposals of_rest = false
is_part of_blocks of_header = false
is_part of_blocks of_votes = false
is_part of_blocks of_proposals = false
is_part of_blocks of_blocks = true
is_part of_blocks of_rest = false
is_part of_rest of_header = false
is_part of_rest of_votes = false
is_part of_rest of_proposals = false
is_part of_rest of_blocks = false
is_part of_rest of_rest = true

-- the other parts are as they were
abbrev pub OnlyIn : Part → Limits → List ℕ → List ℕ → Type 0
OnlyIn p l before after = (q : Part) → is_part p q ≡ false → part q l after ≡ part q l before

-- zeros in all parts, and what the member does not use as it was
pub record Blank (l : Limits) (before after : List ℕ) : Type 0 where
  pub zeros : (i : ℕ) → i < blocks_end l → slice_index after i ≡ 0
  pub rest : part of_rest l after ≡ part of_rest l before

-- BLOCKS

-- the block of this value is among the first n, or there is room for it
abbrev pub Room : Limits → ℕ → ℕ → List ℕ → Type 0
Room l n x mem = is_in x (blocks_in (part of_blocks l mem) n) ≡ false → n < l.blocks

-- it is not, and there is none
abbrev pub NoRoom : Limits → ℕ → ℕ → List ℕ → Type 0
NoRoom l n x mem = (is_in x (blocks_in (part of_blocks l mem) n) ≡ false) × (l.blocks ≤ n)

-- a block was added to the first n, unless it was among them, and now there are m;
-- or there was no room, and nothing changed
abbrev pub PutBlock : Limits → ℕ → ℕ → List ℕ → List ℕ → Option ℕ → Type 0
PutBlock l n x mem new (Some m) =
    (blocks_in (part of_blocks l new) m ≡ add_block x (blocks_in (part of_blocks l mem) n))
    × ((m ≤ l.blocks) × Room l n x mem)
PutBlock l n x mem new None = NoRoom l n x mem × (new ≡ mem)
