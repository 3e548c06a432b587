-- Votes, proposals and limits, and when there is a quorum. Assumes nothing: these are definitions.
use Rattle.std.specs.Prelude.{ℕ, ◌+◌, ◌-◌, ◌/◌, ◌^◌, Bool, false, cond, ◌&&◌, ◌||◌, List, [], ◌∷◌, ◌==◌, nat_le}

-- The kinds of votes, by their numbers.
-- a first vote for a value
abbrev pub soft : ℕ
soft = 0

-- certain of a value
abbrev pub cert : ℕ
cert = 1

-- to go on to the next period with a value
abbrev pub next : ℕ
next = 2

-- to go on to the next period with none
abbrev pub next_none : ℕ
next_none = 3

-- A vote. Its step is 0 for soft and cert, and 2 or more for the two kinds that go on; its value is 0 for next_none.
pub record Vote : Type 0 where
  pub kind : ℕ
  pub period : ℕ
  pub step : ℕ
  pub value : ℕ
  pub from : ℕ

-- A proposal for a period: of several, the one of the least rank counts.
pub record Proposal : Type 0 where
  pub period : ℕ
  pub rank : ℕ
  pub value : ℕ

-- What a network is opened with.
pub record Limits : Type 0 where
  -- which events, by their numbers, are taken at all
  pub takes : ℕ → Bool
  pub members : ℕ
  -- periods are 1 to so many
  pub periods : ℕ
  -- how many times a member may vote to go on in one period
  pub steps : ℕ
  -- how many blocks a member may have
  pub blocks : ℕ

-- values are below this
abbrev pub value_bound : ℕ
value_bound = 2 ^ 256

-- numbers of eight bytes are below this
abbrev pub word_bound : ℕ
word_bound = 2 ^ 64

-- A slot is a kind, a period and a step: each member has one vote in each.
abbrev pub same_slot : Vote → Vote → Bool
same_slot v w = (v.kind == w.kind && v.period == w.period) && v.step == w.step

-- the same slot, value and member
abbrev pub same_vote : Vote → Vote → Bool
same_vote v w = (same_slot v w && v.value == w.value) && v.from == w.from

-- its member has a vote in its slot already
unfoldable pub slot_taken : Vote → List Vote → Bool
slot_taken v [] = false
slot_taken v (w ∷ ws) = (same_slot v w && v.from == w.from) || slot_taken v ws

-- this very vote stands in the list
unfoldable pub is_vote_in : Vote → List Vote → Bool
is_vote_in v [] = false
is_vote_in v (w ∷ ws) = same_vote v w || is_vote_in v ws

-- a vote of this kind, period and step for this value
abbrev pub is_for : ℕ → ℕ → ℕ → ℕ → Vote → Bool
is_for k p s x w = ((k == w.kind && p == w.period) && s == w.step) && x == w.value

-- how many of these votes are of this kind, period and step and for this value
unfoldable pub count : ℕ → ℕ → ℕ → ℕ → List Vote → ℕ
count k p s x [] = 0
count k p s x (w ∷ ws) = cond (is_for k p s x w) 1 0 + count k p s x ws

-- n members less a third of n - 1, rounded down: of fewer than a third faulty,
-- two quorums have an honest member in common
abbrev pub quorum : ℕ → ℕ
quorum n = n - (n - 1) / 3

-- Is there a quorum of this kind, period and step for this value among these votes? Nothing else says what a quorum
-- of votes is: whoever weighs members, or draws committees, changes this definition alone.
unfoldable pub has_quorum : Limits → ℕ → ℕ → ℕ → ℕ → List Vote → Bool
has_quorum l k p s x ws = nat_le (quorum l.members) (count k p s x ws)
