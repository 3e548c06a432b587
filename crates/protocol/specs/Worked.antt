-- A worked table of four members, and a run in which all honest ones agree, as tables that the definitions compute.
-- Assumes nothing: these are definitions and statements.
use Rattle.std.specs.Prelude.{◌≡◌, ℕ, Bool, true, not, ◌&&◌, List, [], ◌∷◌, ◌==◌, nat_lt}
use Rattle.protocol.specs.Vote.{soft, cert, next, next_none, Vote, Limits}
use Rattle.protocol.specs.Member.{is_some, Member, Event, got_vote, got_proposal, got_block, timeout}
use Rattle.protocol.specs.Member.{Answer, refused, says, agreed_before, voted_before, answer, after}
use Rattle.protocol.specs.Network.{Network, new_network, deliver, can_happen, Reachable, FewFaulty}
use Rattle.protocol.specs.Promises.{thin, GoodLimits}

-- an event that comes to a member, its answer, and where the member then stands
pub record Row : Type 0 where
  pub to : ℕ
  pub event : Event
  pub answer : Answer
  pub period : ℕ
  pub step : ℕ
  pub start : List ℕ
  pub free : Bool
  pub agreed : List ℕ

-- the answer and the state that the definitions give to a row's event
abbrev pub computed : Row → Answer → Member → Row
computed r a m =
    record {
      to = r.to;
      event = r.event;
      answer = a;
      period = m.period;
      step = m.step;
      start = m.start;
      free = m.free;
      agreed = m.agreed;
    }

-- the rows with what the definitions compute for their events, one after the other
unfoldable pub played : Limits → Network → List Row → List Row
played l w [] = []
played l w (r ∷ rs) =
    computed r (answer l (w.member r.to) r.event) (after l (w.member r.to) r.event)
    ∷ played l (deliver l w r.to r.event) rs

-- each event can happen where it does
unfoldable pub possible : Limits → (ℕ → Bool) → Network → List Row → Bool
possible l faulty w [] = true
possible l faulty w (r ∷ rs) =
    ((nat_lt r.to l.members && not (faulty r.to)) && can_happen faulty w r.event)
    && possible l faulty (deliver l w r.to r.event) rs

unfoldable pub network_after : Limits → Network → List Row → Network
network_after l w [] = w
network_after l w (r ∷ rs) = network_after l (deliver l w r.to r.event) rs

-- the table is what the definitions compute, and what it tells can happen
pub record Worked (l : Limits) (faulty : ℕ → Bool) (rows : List Row) : Type 0 where
  pub as_computed : played l new_network rows ≡ rows
  pub reachable : Reachable l faulty (network_after l new_network rows)

-- a network of which the promises speak
pub record SpokenOf (l : Limits) (faulty : ℕ → Bool) : Type 0 where
  pub good : GoodLimits thin l
  pub few : FewFaulty l faulty

-- FOUR MEMBERS, OF WHOM NUMBER 3 IS FAULTY

abbrev pub four : Limits
four = record { takes = thin; members = 4; periods = 4; steps = 4; blocks = 4 }

abbrev pub third_faulty : ℕ → Bool
third_faulty i = i == 3

abbrev pub vote : ℕ → ℕ → ℕ → ℕ → ℕ → Vote
vote k p s x i = record { kind = k; period = p; step = s; value = x; from = i }

-- a row: the member, the event and the answer; then period, step, starting value and what it agreed on
abbrev pub row : ℕ → Event → Answer → ℕ → ℕ → List ℕ → List ℕ → Row
row i e a p s x y =
    record { to = i; event = e; answer = a; period = p; step = s; start = x; free = not (is_some x); agreed = y }

abbrev pub none : List ℕ
none = []

abbrev pub only : ℕ → List ℕ
only x = x ∷ []

-- value 5 is proposed for period 1 with rank 0
abbrev pub proposal_of_5 : Event
proposal_of_5 = got_proposal (record { period = 1; rank = 0; value = 5 })

abbrev pub quiet : Answer
quiet = says [] none

abbrev pub saying : Vote → Answer
saying v = says (v ∷ []) none

-- Members come to period 2 in two ways, free and with value 5, and there is no certificate in period 1, nor will there
-- be: it would need member 1 or 2.
abbrev pub two_ways : List Row
two_ways =
    row 0 proposal_of_5 quiet 1 0 none none
    ∷ row 1 proposal_of_5 quiet 1 0 none none
    ∷ row 2 proposal_of_5 quiet 1 0 none none
    ∷ row 0 (got_block 5) quiet 1 0 none none
    ∷ row 1 (got_block 5) quiet 1 0 none none
    ∷ row 0 timeout (saying (vote soft 1 0 5 0)) 1 1 none none
    ∷ row 1 timeout (saying (vote soft 1 0 5 1)) 1 1 none none
    ∷ row 2 timeout (saying (vote soft 1 0 5 2)) 1 1 none none
    ∷ row 0 (got_vote (vote soft 1 0 5 1)) quiet 1 1 none none
    ∷ row 0 (got_vote (vote soft 1 0 5 1)) (refused voted_before 0) 1 1 none none
    ∷ row 0 (got_vote (vote soft 1 0 5 2)) (saying (vote cert 1 0 5 0)) 1 1 none none
    ∷ row 1 (got_vote (vote soft 1 0 5 0)) quiet 1 1 none none
    ∷ row 1 (got_vote (vote soft 1 0 6 3)) quiet 1 1 none none
    ∷ row 1 timeout (saying (vote next_none 1 2 0 1)) 1 2 none none
    ∷ row 2 timeout (saying (vote next_none 1 2 0 2)) 1 2 none none
    ∷ row 0 timeout (saying (vote next 1 2 5 0)) 1 2 none none
    ∷ row 1 (got_vote (vote soft 1 0 5 2)) quiet 1 2 none none
    ∷ row 2 (got_vote (vote next_none 1 2 0 1)) quiet 1 2 none none
    ∷ row 2 (got_vote (vote next_none 1 2 0 3)) quiet 2 0 none none
    ∷ row 2 timeout quiet 2 1 none none
    ∷ row 1 timeout (saying (vote next 1 3 5 1)) 1 3 none none
    ∷ row 0 timeout (saying (vote next 1 3 5 0)) 1 3 none none
    ∷ row 1 (got_vote (vote next 1 3 5 0)) quiet 1 3 none none
    ∷ row 1 (got_vote (vote next 1 3 5 3)) quiet 2 0 (only 5) none
    ∷ row 1 timeout (saying (vote soft 2 0 5 1)) 2 1 (only 5) none
    ∷ row 0 (got_vote (vote cert 1 0 5 3)) quiet 1 3 none none
    ∷ []

abbrev pub TwoWays : Type 0
TwoWays = Worked four third_faulty two_ways

-- All honest members agree on value 5, though member 3 votes first for 5 to one and for 6 to another.
abbrev pub all_agree : List Row
all_agree =
    row 0 proposal_of_5 quiet 1 0 none none
    ∷ row 1 proposal_of_5 quiet 1 0 none none
    ∷ row 2 proposal_of_5 quiet 1 0 none none
    ∷ row 0 (got_block 5) quiet 1 0 none none
    ∷ row 1 (got_block 5) quiet 1 0 none none
    ∷ row 2 (got_block 5) quiet 1 0 none none
    ∷ row 0 timeout (saying (vote soft 1 0 5 0)) 1 1 none none
    ∷ row 1 timeout (saying (vote soft 1 0 5 1)) 1 1 none none
    ∷ row 2 timeout (saying (vote soft 1 0 5 2)) 1 1 none none
    ∷ row 0 (got_vote (vote soft 1 0 5 3)) quiet 1 1 none none
    ∷ row 0 (got_vote (vote soft 1 0 5 1)) (saying (vote cert 1 0 5 0)) 1 1 none none
    ∷ row 1 (got_vote (vote soft 1 0 6 3)) quiet 1 1 none none
    ∷ row 1 (got_vote (vote soft 1 0 5 0)) quiet 1 1 none none
    ∷ row 1 (got_vote (vote soft 1 0 5 2)) (saying (vote cert 1 0 5 1)) 1 1 none none
    ∷ row 2 (got_vote (vote soft 1 0 5 0)) quiet 1 1 none none
    ∷ row 2 (got_vote (vote soft 1 0 5 1)) (saying (vote cert 1 0 5 2)) 1 1 none none
    ∷ row 0 (got_vote (vote cert 1 0 5 1)) quiet 1 1 none none
    ∷ row 0 (got_vote (vote cert 1 0 5 2)) (says [] (only 5)) 1 1 none (only 5)
    ∷ row 1 (got_vote (vote cert 1 0 6 3)) quiet 1 1 none none
    ∷ row 1 (got_vote (vote cert 1 0 5 2)) quiet 1 1 none none
    ∷ row 1 (got_vote (vote cert 1 0 5 0)) (says [] (only 5)) 1 1 none (only 5)
    ∷ row 2 (got_vote (vote cert 1 0 5 0)) quiet 1 1 none none
    ∷ row 2 (got_vote (vote cert 1 0 5 1)) (says [] (only 5)) 1 1 none (only 5)
    ∷ row 2 timeout (refused agreed_before 0) 1 1 none (only 5)
    ∷ []

abbrev pub AllAgree : Type 0
AllAgree = Worked four third_faulty all_agree
