-- What the calls of a running network do and answer. Assumes nothing: these are definitions.
use Rattle.std.specs.Prelude.{◌≡◌, ℕ, ◌<◌, ◌≤◌, Bool, true, false, List, [], ◌∷◌, Some, None, Ok, Err, vec_items}
use Rattle.std.specs.Prelude.{Option, Result, ◌≢◌}
use Rattle.protocol.specs.Vote.{Vote, Limits}
use Rattle.protocol.specs.Member.{Event, Answer, refused, says}
use Rattle.protocol.specs.Promises.{all}
use Rattle.limits.specs.Limits.{limits_of}
use Rattle.wire.specs.declared.answers.Answer as code
use Rattle.wire.specs.Meaning.{answer_of}
use Rattle.member.specs.Calls.{Looks}
use Rattle.member.specs.Header.{Header}
use Rattle.moves.specs.declared.state.Member.{Member}
use Rattle.network.specs.Members.{has}
use Rattle.network.specs.Seats.{memory_of}
use Rattle.network.specs.Memory.{agreed_in, may_happen, Agreement}
use Rattle.network.specs.Running.{Running, Stepped}
use Rattle.network.specs.declared.state.Network.{Network}
use Rattle.network.specs.declared.errors.DeliverError.{DeliverError}
use Rattle.network.specs.declared.errors.DeliverError.TheVariants.{NotMember, Faulty, NotSaid}

-- a network as the protocol has it: its limits, who is faulty, and the numbers in its memory
abbrev pub limits_in : Network → Limits
limits_in n = limits_of all n.limits

abbrev pub faulty_in : Network → ℕ → Bool
faulty_in n = has n.faulty.bits

abbrev pub memory_in : Network → List ℕ
memory_in n = vec_items n.memory

-- An event came to honest member `to`: it could come; the answer and the state then are the protocol's; what the answer
-- says is agreed is what memory then has; a refusal leaves the memory as it was; the other members' memory stays, and
-- what was agreed stays.
pub record Delivered (l : Limits) (faulty : ℕ → Bool) (to : ℕ) (mem new : List ℕ) (e : Event)
    (a : Answer) : Type 0 where
  pub member : to < l.members
  pub honest : faulty to ≡ false
  pub can : may_happen l faulty mem e ≡ true
  -- in every state that the memory stood for; there is one, by the network's type
  pub stepped : (before : Running l faulty mem) → Stepped l faulty to new e a before.state
  pub says : (vs : List Vote) (xs : List ℕ) → a ≡ says vs xs → agreed_in (memory_of l faulty to new) ≡ xs
  pub refused : (r n : ℕ) → a ≡ refused r n → memory_of l faulty to new ≡ memory_of l faulty to mem
  pub others : (j : ℕ) → j < l.members → faulty j ≡ false → (j ≢ to) →
      memory_of l faulty j new ≡ memory_of l faulty j mem
  pub stays : (j x : ℕ) → j < l.members → faulty j ≡ false → agreed_in (memory_of l faulty j mem) ≡ x ∷ [] →
      agreed_in (memory_of l faulty j new) ≡ x ∷ []
  pub agreement : Agreement l faulty new

-- delivered; or the first reason why not, and then nothing changes
abbrev pub ByDeliver : Network → ℕ → Event → Network → Result code.Answer DeliverError → Type 0
ByDeliver n to e new (Ok a) = Delivered (limits_in n) (faulty_in n) to (memory_in n) (memory_in new) e (answer_of a)
ByDeliver n to e new (Err NotMember) = (n.limits.members ≤ to) × (new ≡ n)
ByDeliver n to e new (Err Faulty) = (to < n.limits.members) × ((faulty_in n to ≡ true) × (new ≡ n))
ByDeliver n to e new (Err NotSaid) =
    (to < n.limits.members)
    × ((faulty_in n to ≡ false) × ((may_happen (limits_in n) (faulty_in n) (memory_in n) e ≡ false) × (new ≡ n)))

-- where honest member i stands, which is what the header of its memory says, and what the definitions make of the
-- events that it holds; none if i is no honest member
abbrev pub ByLook : Limits → (ℕ → Bool) → List ℕ → ℕ → Option Member → Type 0
ByLook l faulty mem i None = i < l.members → faulty i ≢ false
ByLook l faulty mem i (Some x) =
    (i < l.members)
    × ((faulty i ≡ false) × (Header (memory_of l faulty i mem) x × Looks (memory_of l faulty i mem) x))

abbrev pub LooksAt : Network → ℕ → Option Member → Type 0
LooksAt n = ByLook (limits_in n) (faulty_in n) (memory_in n)

-- honest member i agreed on x
pub record AgreedBy (l : Limits) (faulty : ℕ → Bool) (mem : List ℕ) (i x : ℕ) : Type 0 where
  pub member : i < l.members
  pub honest : faulty i ≡ false
  pub is : agreed_in (memory_of l faulty i mem) ≡ x ∷ []

-- member i is faulty, or it has not agreed
abbrev pub NotAgreed : Limits → (ℕ → Bool) → List ℕ → ℕ → Type 0
NotAgreed l faulty mem i = i < l.members → faulty i ≡ false → agreed_in (memory_of l faulty i mem) ≡ []

-- no honest member agreed yet; or some did on this value, and none on another
abbrev pub AgreedOn : Limits → (ℕ → Bool) → List ℕ → List ℕ → Type 0
AgreedOn l faulty mem [] = (i : ℕ) → i < l.members → faulty i ≡ false → agreed_in (memory_of l faulty i mem) ≡ []
AgreedOn l faulty mem (x ∷ xs) =
    ((i : ℕ) × AgreedBy l faulty mem i x) × ((j y : ℕ) → AgreedBy l faulty mem j y → y ≡ x)

abbrev pub AllAgreed : Network → List ℕ → Type 0
AllAgreed n = AgreedOn (limits_in n) (faulty_in n) (memory_in n)

-- AGREEMENT, of a network that runs
abbrev pub AgreementStands : Network → Type 0
AgreementStands n = Agreement (limits_in n) (faulty_in n) (memory_in n)
