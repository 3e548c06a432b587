-- What holds of one member alone after any events whatever, also events that no network could bring. Assumes nothing:
-- these are definitions and statements.
use Rattle.std.specs.Prelude.{◌≡◌, ℕ, suc, ◌<◌, ◌≤◌, true, false, List, [], ◌∷◌}
use Rattle.protocol.specs.Vote.{soft, cert, next, Vote, Limits, slot_taken, is_vote_in, has_quorum}
use Rattle.protocol.specs.Member.{Member, Event, own, chosen, certified, vote_in_range}
use Rattle.protocol.specs.Network.{all_different}
use Rattle.protocol.specs.Programs.{member_after}

-- of member i, after any events
abbrev pub AfterAny : (Limits → ℕ → Member → Type 0) → Type 0
AfterAny P = (l : Limits) (i : ℕ) (es : List Event) → i < l.members → P l i (member_after l i es)

-- It hears each slot of each member at most once.
abbrev pub HeardOnce : Type 0
HeardOnce = AfterAny (λ l i m. all_different m.votes ≡ true)

-- All that it heard is in range, its own votes too.
abbrev pub HeardInRange : Type 0
HeardInRange = AfterAny (λ l i m. (v : Vote) → is_vote_in v m.votes ≡ true → vote_in_range l v ≡ true)

-- It stands in a period from 1 to one past the last, at a step up to one past the last, and keeps its number.
pub record Place (l : Limits) (i : ℕ) (m : Member) : Type 0 where
  pub me : m.me ≡ i
  pub from_1 : 1 ≤ m.period
  pub periods : m.period ≤ suc l.periods
  pub steps : m.step ≤ suc l.steps

abbrev pub InItsPlace : Type 0
InItsPlace = AfterAny Place

-- Its own slots from where it stands on are free: of its soft vote before it votes, of being certain until it is, of
-- each later step, and of each later period.
pub record Fresh (l : Limits) (i : ℕ) (m : Member) : Type 0 where
  pub soft_slot : (x : ℕ) → m.step ≡ 0 → slot_taken (own m soft 0 x) m.votes ≡ false
  pub cert_slot : (x : ℕ) → m.certain ≡ false → slot_taken (own m cert 0 x) m.votes ≡ false
  pub step_slots : (k s x : ℕ) → next ≤ k → m.step < s → slot_taken (own m k s x) m.votes ≡ false
  pub later_slots : (v : Vote) → v.from ≡ i → m.period < v.period → slot_taken v m.votes ≡ false

abbrev pub OwnFresh : Type 0
OwnFresh = AfterAny Fresh

-- Two quorums of one kind, period and step that it heard are for one value. So at most one value is chosen in a period.
abbrev pub OneValueHeard : Type 0
OneValueHeard =
    AfterAny (λ l i m. (k p s a b : ℕ) →
    has_quorum l k p s a m.votes ≡ true → has_quorum l k p s b m.votes ≡ true → a ≡ b)

-- It is free and began with nothing, or it began with one value and is not free.
pub record Began (m : Member) : Type 0 where
  pub with_none : m.free ≡ true → m.start ≡ []
  pub with_one : m.free ≡ false → (x : ℕ) × (m.start ≡ x ∷ [])

abbrev pub Begins : Type 0
Begins = AfterAny (λ l i m. Began m)

-- If it has not agreed, there is no certified value whose block is here.
abbrev pub AgreesAtOnce : Type 0
AgreesAtOnce = AfterAny (λ l i m. m.agreed ≡ [] → certified l m ≡ [])

-- It is certain just where it said so in this period.
abbrev pub CertainIsSaid : Type 0
CertainIsSaid = AfterAny (λ l i m. (x : ℕ) → slot_taken (own m cert 0 x) m.votes ≡ m.certain)

-- At step 1 it says so as soon as a value is chosen.
abbrev pub CertainAtOnce : Type 0
CertainAtOnce = AfterAny (λ l i m. m.step ≡ 1 → m.certain ≡ false → chosen l m ≡ [])
