-- What holds of every run of a contract holds of every program that meets it.
use Rattle.std.proofs.Common.{◌≡◌, ℕ, ◌<◌, Bool, true, List, [], ◌∷◌}
use Rattle.std.proofs.lemmas.Bool.{and_parts}
use Rattle.protocol.specs.Vote.{Limits}
use Rattle.protocol.specs.Member.{Event}
use Rattle.protocol.specs.Programs.{Contract, Runs, opened, called, Program, Meets, readable, all_readable, memory_of}
use Rattle.protocol.specs.Promises.{GoodLimits, RunsRight, Right, RunsRefusalKeeps, RefusalKeeps, RunsEnoughMemory}
use Rattle.protocol.specs.Promises.{EnoughMemory}

module _ (can : ℕ → Bool) (c : Contract) (f : Program) (meets : Meets can c f) where
  pub readable_parts : (e : Event) (es : List Event) → all_readable (e ∷ es) ≡ true → (readable e ≡ true)
      × (all_readable es ≡ true)
  unfolding all_readable
  readable_parts e es h = and_parts _ _ h

  -- a program that meets a contract runs as it says
  pub program_runs : (l : Limits) (i : ℕ) (es : List Event) → GoodLimits can l → i < l.members →
      all_readable es ≡ true →
      Runs c l i es (memory_of f l i es)
  unfolding memory_of
  program_runs l i [] good h r = opened (meets.opens l i good h)
  program_runs l i (e ∷ es) good h r =
      let parts : (readable e ≡ true) × (all_readable es ≡ true) = readable_parts e es r in
      called e (program_runs l i es good h parts.1) parts.0 (meets.calls (memory_of f l i es) e parts.0)

  pub program_right : RunsRight can c → Right can f
  program_right right l i es e good h r =
      let parts : (readable e ≡ true) × (all_readable es ≡ true) = readable_parts e es r in
      right l i es (memory_of f l i es) good h (program_runs l i es good h parts.1) e _ _ parts.0
      (meets.calls (memory_of f l i es) e parts.0)

  pub program_refusal_keeps : RunsRefusalKeeps can c → RefusalKeeps can f
  program_refusal_keeps keeps l i es e good h r turned =
      let parts : (readable e ≡ true) × (all_readable es ≡ true) = readable_parts e es r in
      keeps l i es (memory_of f l i es) good h (program_runs l i es good h parts.1) e _ _ parts.0
      (meets.calls (memory_of f l i es) e parts.0) turned

  pub program_enough_memory : RunsEnoughMemory can c → EnoughMemory can f
  program_enough_memory enough l i es good h r = enough l i es (memory_of f l i es) good h
      (program_runs l i es good h r)
