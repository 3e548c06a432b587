-- A program that runs one member in lent memory. Assumes nothing: these are definitions. A program is known by the
-- contracts of its two functions, which are relations; a `Program` is two functions that meet them.
use Rattle.std.specs.Prelude.{◌≡◌, ℕ, ◌+◌, ◌*◌, ◌<◌, Bool, true, ◌&&◌, List, [], ◌∷◌, nat_lt}
use Rattle.protocol.specs.Vote.{Limits, value_bound, word_bound}
use Rattle.protocol.specs.Member.{Member, new_member, Event, got_vote, got_proposal}
use Rattle.protocol.specs.Member.{got_block, timeout, unreadable, Answer, after}
use Rattle.protocol.specs.Stages.{GoodLimits}

-- what the definitions make of all events so far, the last first
unfoldable pub member_after : Limits → ℕ → List Event → Member
member_after l i [] = new_member i
member_after l i (e ∷ es) = after l (member_after l i es) e

-- the numbers of eight bytes that a member asks for: 8 for each member, period and slot of a period, of which there are
-- twice the times to go on and 2; 8 for each period; 4 for each block; and 64
abbrev pub memory_size : Limits → ℕ
memory_size l = 8 * (l.members * (l.periods * (2 * l.steps + 2))) + (8 * l.periods + (4 * l.blocks + 64))

-- events that their bytes can carry
unfoldable pub readable : Event → Bool
readable (got_vote v) =
    (nat_lt v.kind word_bound && nat_lt v.period word_bound)
    && ((nat_lt v.step word_bound && nat_lt v.from word_bound) && nat_lt v.value value_bound)
readable (got_proposal o) = (nat_lt o.period word_bound && nat_lt o.rank word_bound) && nat_lt o.value value_bound
readable (got_block x) = nat_lt x value_bound
readable timeout = true
readable (unreadable n) = nat_lt n word_bound

-- each is
unfoldable pub all_readable : List Event → Bool
all_readable [] = true
all_readable (e ∷ es) = readable e && all_readable es

-- each number of the memory fits eight bytes
unfoldable pub all_words : List ℕ → Bool
all_words [] = true
all_words (x ∷ xs) = nat_lt x word_bound && all_words xs

-- RUNS

-- what the contracts of the two functions say: the memory in which a member is opened, and of a call the memory before,
-- the event, the memory after and the answer
pub record Contract : Type 1 where
  pub Opened : Limits → ℕ → List ℕ → Type 0
  pub Called : List ℕ → Event → List ℕ → Answer → Type 0

-- opened, then called for each event, the last first
pub data Runs (c : Contract) (l : Limits) (i : ℕ) : List Event → List ℕ → Type 0 where
  opened : {mem : List ℕ} → c.Opened l i mem → Runs c l i [] mem
  called : {es : List Event} {mem mem' : List ℕ} {a : Answer} (e : Event) → Runs c l i es mem → readable e ≡ true →
      c.Called mem e mem' a → Runs c l i (e ∷ es) mem'

-- PROGRAMS

-- a program of one member as functions: the memory at opening, and of a memory and an event
-- the memory after and the answer
pub record Program : Type 0 where
  pub open_with : Limits → ℕ → List ℕ
  pub call : List ℕ → Event → List ℕ
  pub answers : List ℕ → Event → Answer

-- it does what the contracts say
pub record Meets (can : ℕ → Bool) (c : Contract) (f : Program) : Type 0 where
  pub opens : (l : Limits) (i : ℕ) → GoodLimits can l → i < l.members → c.Opened l i (f.open_with l i)
  pub calls : (mem : List ℕ) (e : Event) → readable e ≡ true → c.Called mem e (f.call mem e) (f.answers mem e)

-- the memory after these events, the last first
unfoldable pub memory_of : Program → Limits → ℕ → List Event → List ℕ
memory_of f l i [] = f.open_with l i
memory_of f l i (e ∷ es) = f.call (memory_of f l i es) e
