-- Where the memory of each honest member lies: one after the other, by their numbers. Assumes nothing: these are
-- definitions.
use Rattle.std.specs.Prelude.{ℕ, ◌+◌, ◌*◌, Bool, not, List}
use Rattle.std.specs.List.{between}
use Rattle.protocol.specs.Vote.{Limits}
use Rattle.protocol.specs.Network.{how_many}
use Rattle.protocol.specs.Programs.{memory_size}

-- how many honest members have a lower number
abbrev pub seat : (ℕ → Bool) → ℕ → ℕ
seat faulty i = how_many i (λ j. not (faulty j))

-- where the memory of honest member i begins
abbrev pub start_of : Limits → (ℕ → Bool) → ℕ → ℕ
start_of l faulty i = seat faulty i * memory_size l

-- the memory of honest member i
abbrev pub memory_of : Limits → (ℕ → Bool) → ℕ → List ℕ → List ℕ
memory_of l faulty i mem = between (start_of l faulty i) (start_of l faulty i + memory_size l) mem

-- how many numbers all honest members ask for together
abbrev pub room_for : Limits → (ℕ → Bool) → ℕ
room_for l faulty = start_of l faulty l.members
