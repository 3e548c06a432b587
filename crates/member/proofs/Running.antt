-- Every run of `open` and `call` keeps what the definitions say.
use Rattle.std.proofs.Common.{◌≡◌, ℕ, ◌≤◌, Bool, true, List, [], ◌∷◌, length, arith}
use Rattle.protocol.specs.Vote.{Limits}
use Rattle.protocol.specs.Member.{Event}
use Rattle.protocol.specs.Programs.{memory_size, all_words, Runs, opened, called}
use Rattle.protocol.specs.Promises.{RunsRight, RunsRefusalKeeps, RunsEnoughMemory}
use Rattle.protocol.proofs.Programs.{program_right, program_refusal_keeps, program_enough_memory}
use Rattle.member.specs.Calls.{Kept}
use Rattle.member.specs.Runs.{running, RightStands, RefusalKeepsStands, EnoughMemoryStands}

-- what memory holds after a run
record Held (l : Limits) (i : ℕ) (es : List Event) (mem : List ℕ) : Type 0 where
  kept : Kept l i es mem
  few : length mem ≤ memory_size l
  words : all_words mem ≡ true

held : (l : Limits) (i : ℕ) (es : List Event) (mem : List ℕ) → Runs running l i es mem → Held l i es mem
held l i [] mem (opened o) = record { kept = o.0; few = o.1.0; words = o.1.1 }
held l i (e ∷ es) mem (called {mem = before} e' run readable call) =
    let h : Held l i es before = held l i es before run in
    record { kept = call.kept l i es h.kept; few = omega (arith, call.long, h.few); words = call.words h.words }

runs_right : (can : ℕ → Bool) → RunsRight can running
runs_right can l i es mem good low run e new a readable call = call.is l i es (held l i es mem run).kept

runs_refusal_keeps : (can : ℕ → Bool) → RunsRefusalKeeps can running
runs_refusal_keeps can l i es mem good low run e new a readable call turned =
    call.refused l i es (held l i es mem run).kept turned

runs_enough_memory : (can : ℕ → Bool) → RunsEnoughMemory can running
runs_enough_memory can l i es mem good low run = let h : Held l i es mem = held l i es mem run in (h.few, h.words)

pub right_stands : (can : ℕ → Bool) → RightStands can
right_stands can = (runs_right can, λ f meets. program_right can running f meets (runs_right can))

pub refusal_keeps_stands : (can : ℕ → Bool) → RefusalKeepsStands can
refusal_keeps_stands can = (
  runs_refusal_keeps can,
  λ f meets. program_refusal_keeps can running f meets
      (runs_refusal_keeps can),
)

pub enough_memory_stands : (can : ℕ → Bool) → EnoughMemoryStands can
enough_memory_stands can = (
  runs_enough_memory can,
  λ f meets. program_enough_memory can running f meets
      (runs_enough_memory can),
)
