-- The stages, by the events that they take, and the limits with which a member is opened. Assumes nothing: these are
-- definitions.
use Rattle.std.specs.Prelude.{◌≡◌, ℕ, ◌≤◌, Bool, true, nat_lt}
use Rattle.protocol.specs.Vote.{Limits}

-- the events of the first stage, by their numbers
abbrev pub thin : ℕ → Bool
thin k = nat_lt k 4

-- every event
abbrev pub all : ℕ → Bool
all k = true

-- the limits with which a member is opened, for a stage that takes the events `can`
pub record GoodLimits (can : ℕ → Bool) (l : Limits) : Type 0 where
  pub some_member : 1 ≤ l.members
  pub few_members : l.members ≤ 64
  pub some_period : 1 ≤ l.periods
  pub few_periods : l.periods ≤ 32
  pub some_step : 1 ≤ l.steps
  pub few_steps : l.steps ≤ 8
  pub some_block : 1 ≤ l.blocks
  pub few_blocks : l.blocks ≤ 256
  pub stage : (k : ℕ) → l.takes k ≡ can k
