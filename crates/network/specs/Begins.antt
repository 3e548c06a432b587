-- What beginning a network gives. Assumes nothing: these are definitions.
use Rattle.std.specs.Prelude.{◌≡◌, ℕ, ◌*◌, ◌<◌, ◌≤◌, Bool, false, List, Ok, Err, vec_items, vec_len, Result}
use Rattle.protocol.specs.Vote as protocol
use Rattle.protocol.specs.Network.{how_many}
use Rattle.protocol.specs.Promises.{all}
use Rattle.limits.specs.Limits.{limits_of}
use Rattle.limits.specs.declared.bounds.Limits.{Limits}
use Rattle.member.specs.Calls.{Opened}
use Rattle.network.specs.Members.{has}
use Rattle.network.specs.Seats.{memory_of, room_for}
use Rattle.network.specs.declared.errors.BeginError.{BeginError}
use Rattle.network.specs.declared.errors.BeginError.TheVariants.{TooManyFaulty, TooShort}
use Rattle.network.specs.declared.members.Members.{Members}
use Rattle.network.specs.declared.state.Network.{Network}

-- each honest member is new
abbrev pub AllNew : protocol.Limits → (ℕ → Bool) → List ℕ → Type 0
AllNew l faulty mem = (i : ℕ) → i < l.members → faulty i ≡ false → Opened l i (memory_of l faulty i mem)

-- the network has these limits and faulty members, and as much memory as it was lent; each honest member is new
pub record Begun (n : ℕ) (limits : Limits) (faulty : Members) (r : Network) : Type 0 where
  pub limits_are : r.limits ≡ limits
  pub faulty_are : r.faulty ≡ faulty
  pub long : vec_len r.memory ≡ n
  pub new : AllNew (limits_of all limits) (has faulty.bits) (vec_items r.memory)

-- begun in memory of n numbers; or the first reason why not
abbrev pub ByBegin : ℕ → Limits → Members → Result Network BeginError → Type 0
ByBegin n limits faulty (Ok r) = Begun n limits faulty r
ByBegin n limits faulty (Err TooManyFaulty) = limits.members ≤ 3 * how_many limits.members (has faulty.bits)
ByBegin n limits faulty (Err (TooShort needed)) =
    (3 * how_many limits.members (has faulty.bits) < limits.members)
    × ((needed ≡ room_for (limits_of all limits) (has faulty.bits)) × (n < needed))
