-- A member's header, the first numbers of its memory. Assumes nothing: these are definitions.
use Rattle.std.specs.Prelude.{◌≡◌, ℕ, ◌+◌, ◌≤◌, Bool, cond, not, List, [], ◌∷◌, length, ◌==◌, slice_index}
use Rattle.std.specs.Prelude.{slice_index_or}
use Rattle.protocol.specs.Programs.{memory_size}
use Rattle.protocol.specs.Promises.{all}
use Rattle.limits.specs.Limits.{limits_of}
use Rattle.limits.specs.declared.bounds.Limits.{Limits}
use Rattle.cells.specs.Cells.{value_at, listed}
use Rattle.moves.specs.declared.state.Member.{Member}

-- the mark of memory that holds a member: the letters `Kegfelum`
abbrev pub mark : ℕ
mark = 0x6d756c656667654b

-- a value that may be missing: a flag and the four numbers of the value
abbrev pub option_at : List ℕ → ℕ → List ℕ
option_at mem at = cond (slice_index mem at == 0) [] (value_at mem (at + 1) ∷ [])

abbrev pub flag_at : List ℕ → ℕ → Bool
flag_at mem at = not (slice_index mem at == 0)

-- the memory is marked, has these limits, and is as long as they ask for
pub record Asks (mem : List ℕ) (l : Limits) : Type 0 where
  pub marked : slice_index_or mem 0 0 ≡ mark
  pub members : slice_index_or mem 1 0 ≡ l.members
  pub periods : slice_index_or mem 2 0 ≡ l.periods
  pub steps : slice_index_or mem 3 0 ≡ l.steps
  pub blocks : slice_index_or mem 4 0 ≡ l.blocks
  pub long : memory_size (limits_of all l) ≤ length mem

-- where the member stands
pub record Place (mem : List ℕ) (x : Member) : Type 0 where
  pub period : slice_index_or mem 6 0 ≡ x.period
  pub step : slice_index_or mem 7 0 ≡ x.step
  pub free : flag_at mem 8 ≡ x.free
  pub certain : flag_at mem 9 ≡ x.certain
  pub blocks : slice_index_or mem 10 0 ≡ x.blocks

-- the memory begins with the header of this member
pub record Header (mem : List ℕ) (x : Member) : Type 0 where
  pub asks : Asks mem x.limits
  pub me : slice_index_or mem 5 0 ≡ x.me
  pub place : Place mem x
  pub start : option_at mem 11 ≡ listed x.start
  pub agreed : option_at mem 16 ≡ listed x.agreed
