-- The promises of a program that runs one member, for the contracts of `open` and `call`. Assumes nothing: these are
-- statements.
use Rattle.std.specs.Prelude.{◌≡◌, ℕ, ◌≤◌, Bool, true, length}
use Rattle.protocol.specs.Programs.{memory_size, all_words, Contract, Program, Meets}
use Rattle.protocol.specs.Promises.{RunsRight, RunsRefusalKeeps, RunsEnoughMemory}
use Rattle.protocol.specs.Promises.{Right, RefusalKeeps, EnoughMemory}
use Rattle.member.specs.Calls.{Opened, Called}

-- a member is opened in memory of numbers of eight bytes, no more than its limits ask for, and then called
abbrev pub running : Contract
running = record {
  Opened = λ l i mem. Opened l i mem × ((length mem ≤ memory_size l) × (all_words mem ≡ true));
  Called = Called;
}

-- over every run, and for every program that meets the contracts
abbrev pub RightStands : (ℕ → Bool) → Type 0
RightStands can = RunsRight can running × ((f : Program) → Meets can running f → Right can f)

abbrev pub RefusalKeepsStands : (ℕ → Bool) → Type 0
RefusalKeepsStands can = RunsRefusalKeeps can running × ((f : Program) → Meets can running f → RefusalKeeps can f)

abbrev pub EnoughMemoryStands : (ℕ → Bool) → Type 0
EnoughMemoryStands can = RunsEnoughMemory can running × ((f : Program) → Meets can running f → EnoughMemory can f)
