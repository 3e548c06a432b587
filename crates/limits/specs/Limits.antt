-- The limits of the code as the protocol's, and which of them is out of range. Assumes nothing.
use Rattle.std.specs.Prelude.{◌≡◌, ℕ, Bool, cond, ◌&&◌, List, Some, None, Ok, Err, Option, Result, nat_le, codes}
use Rattle.protocol.specs.Vote as protocol
use Rattle.limits.specs.declared.bounds.Limits.{Limits}
use Rattle.limits.specs.declared.bounds.Limit.{Limit}
use Rattle.limits.specs.declared.bounds.Limit.TheVariants.{Members, Periods, Steps, Blocks}

-- the protocol's limits, at a stage that takes the events `can`
abbrev pub limits_of : (ℕ → Bool) → Limits → protocol.Limits
limits_of can l =
    record { takes = can; members = l.members; periods = l.periods; steps = l.steps; blocks = l.blocks }

-- the most that each limit may be
abbrev pub most : Limit → ℕ
most Members = 64
most Periods = 32
most Steps = 8
most Blocks = 256

-- its name in the line that says the limits
abbrev pub name_of : Limit → List ℕ
name_of Members = codes "MEMBERS"
name_of Periods = codes "PERIODS"
name_of Steps = codes "STEPS"
name_of Blocks = codes "BLOCKS"

abbrev pub within : ℕ → ℕ → Bool
within most n = nat_le 1 n && nat_le n most

-- the first limit that is out of range
abbrev pub first_bad : ℕ → ℕ → ℕ → ℕ → Option Limit
first_bad members periods steps blocks =
    cond (within 64 members)
    (cond (within 32 periods)
    (cond (within 8 steps)
    (cond (within 256 blocks) None (Some Blocks))
    (Some Steps))
    (Some Periods))
    (Some Members)

-- limits are made of the numbers given; or the first of these that is out of range is named
abbrev pub Made : ℕ → ℕ → ℕ → ℕ → Result Limits Limit → Type 0
Made members periods steps blocks (Ok l) =
    (first_bad members periods steps blocks ≡ None)
    × ((l.members ≡ members) × (l.periods ≡ periods) × (l.steps ≡ steps) × (l.blocks ≡ blocks))
Made members periods steps blocks (Err e) = first_bad members periods steps blocks ≡ Some e
