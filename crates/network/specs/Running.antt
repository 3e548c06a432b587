-- When the memory of a running network is a state that the protocol's network can come to. Assumes nothing: these are
-- definitions.
use Rattle.std.specs.Prelude.{◌≡◌, ℕ, ◌<◌, Bool, false, List}
use Rattle.protocol.specs.Vote.{Limits}
use Rattle.protocol.specs.Member.{Member, Event, Answer, answer}
use Rattle.protocol.specs.Network.{Network, deliver, Reachable}
use Rattle.protocol.specs.Programs.{member_after}
use Rattle.member.specs.Calls.{Kept}
use Rattle.network.specs.Seats.{memory_of}

-- the memory holds the protocol's member m, number i: it is what some events make of a new one
pub record Held (l : Limits) (i : ℕ) (mem : List ℕ) (m : Member) : Type 0 where
  pub events : List Event
  pub kept : Kept l i events mem
  pub is : member_after l i events ≡ m

-- the memory of each honest member holds what the protocol's network has under its number
abbrev pub HoldsAll : Limits → (ℕ → Bool) → List ℕ → Network → Type 0
HoldsAll l faulty mem w =
    (i : ℕ) → i < l.members → faulty i ≡ false → Held l i (memory_of l faulty i mem) (w.member i)

-- the memory is that of a network that the protocol can come to, whatever was delivered in whatever order
pub record Running (l : Limits) (faulty : ℕ → Bool) (mem : List ℕ) : Type 0 where
  pub state : Network
  pub reachable : Reachable l faulty state
  pub held : HoldsAll l faulty mem state

-- an event came to member i of the state w: the answer is the protocol's, and the memory then holds the protocol's
-- state after it
pub record Stepped (l : Limits) (faulty : ℕ → Bool) (i : ℕ) (new : List ℕ) (e : Event) (a : Answer)
    (w : Network) : Type 0 where
  pub is : a ≡ answer l (w.member i) e
  pub reachable : Reachable l faulty (deliver l w i e)
  pub held : HoldsAll l faulty new (deliver l w i e)
