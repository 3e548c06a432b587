-- One member, and what it does with each event. Assumes nothing: these are definitions. Lists have the last heard
-- first; a list of values that holds none or one stands for a value that may be missing.
use Rattle.std.specs.Prelude.{ℕ, suc, Bool, true, false, cond, not, ◌&&◌, ◌||◌, List, [], ◌∷◌, ◌++◌, length, ◌==◌}
use Rattle.std.specs.Prelude.{nat_le, nat_lt}
use Rattle.protocol.specs.Vote.{soft, cert, next, next_none, Vote, Proposal, Limits}
use Rattle.protocol.specs.Vote.{value_bound, word_bound, slot_taken, has_quorum}

-- it holds something
unfoldable pub is_some : {A : Type 0} → List A → Bool
is_some [] = false
is_some (x ∷ xs) = true

-- n is among these
unfoldable pub is_in : ℕ → List ℕ → Bool
is_in n [] = false
is_in n (x ∷ xs) = n == x || is_in n xs

-- THE MEMBER

pub record Member : Type 0 where
  pub me : ℕ
  pub period : ℕ
  -- 0 before the first vote of a period, 1 after it, and one more after each vote to go on
  pub step : ℕ
  -- the value that it began this period with, none or one
  pub start : List ℕ
  -- it may vote for what is proposed: this is the first period, or a quorum went on to it with none
  pub free : Bool
  -- it said in this period that it is certain
  pub certain : Bool
  -- votes that it heard, its own among them
  pub votes : List Vote
  -- the best proposal of each period
  pub proposals : List Proposal
  -- values whose blocks are here, and right
  pub blocks : List ℕ
  -- what it agreed on, none or one
  pub agreed : List ℕ

-- a member at first
abbrev pub new_member : ℕ → Member
new_member i =
    record {
      me = i;
      period = 1;
      step = 0;
      start = [];
      free = true;
      certain = false;
      votes = [];
      proposals = [];
      blocks = [];
      agreed = [];
    }

-- The definitions up to the events change one part each, and keep the others.

abbrev pub with_vote : Vote → Member → Member
with_vote v m =
    record {
      me = m.me;
      period = m.period;
      step = m.step;
      start = m.start;
      free = m.free;
      certain = m.certain;
      votes = v ∷ m.votes;
      proposals = m.proposals;
      blocks = m.blocks;
      agreed = m.agreed;
    }

abbrev pub with_proposals : List Proposal → Member → Member
with_proposals os m =
    record {
      me = m.me;
      period = m.period;
      step = m.step;
      start = m.start;
      free = m.free;
      certain = m.certain;
      votes = m.votes;
      proposals = os;
      blocks = m.blocks;
      agreed = m.agreed;
    }

abbrev pub with_blocks : List ℕ → Member → Member
with_blocks bs m =
    record {
      me = m.me;
      period = m.period;
      step = m.step;
      start = m.start;
      free = m.free;
      certain = m.certain;
      votes = m.votes;
      proposals = m.proposals;
      blocks = bs;
      agreed = m.agreed;
    }

abbrev pub at_step : ℕ → Member → Member
at_step s m =
    record {
      me = m.me;
      period = m.period;
      step = s;
      start = m.start;
      free = m.free;
      certain = m.certain;
      votes = m.votes;
      proposals = m.proposals;
      blocks = m.blocks;
      agreed = m.agreed;
    }

abbrev pub now_certain : Member → Member
now_certain m =
    record {
      me = m.me;
      period = m.period;
      step = m.step;
      start = m.start;
      free = m.free;
      certain = true;
      votes = m.votes;
      proposals = m.proposals;
      blocks = m.blocks;
      agreed = m.agreed;
    }

-- a period begins: with a value, or free
abbrev pub in_period : ℕ → List ℕ → Bool → Member → Member
in_period p x f m =
    record {
      me = m.me;
      period = p;
      step = 0;
      start = x;
      free = f;
      certain = false;
      votes = m.votes;
      proposals = m.proposals;
      blocks = m.blocks;
      agreed = m.agreed;
    }

abbrev pub having_agreed : ℕ → Member → Member
having_agreed x m =
    record {
      me = m.me;
      period = m.period;
      step = m.step;
      start = m.start;
      free = m.free;
      certain = m.certain;
      votes = m.votes;
      proposals = m.proposals;
      blocks = m.blocks;
      agreed = x ∷ [];
    }

-- EVENTS AND ANSWERS

pub data Event : Type 0 where
  got_vote : Vote → Event
  got_proposal : Proposal → Event
  got_block : ℕ → Event
  -- time is up for the next step
  timeout : Event
  -- bytes that are no event, with the place at which they cease to be one
  unreadable : ℕ → Event

pub data Answer : Type 0 where
  -- a refusal's number, and its place
  refused : ℕ → ℕ → Answer
  -- the votes that it says, the first first, and what it agreed on, none or one
  says : List Vote → List ℕ → Answer

-- an event's number, by which a stage takes it
unfoldable pub event_number : Event → ℕ
event_number (got_vote v) = 0
event_number (got_proposal o) = 1
event_number (got_block x) = 2
event_number timeout = 3
event_number (unreadable n) = 255

-- The refusals, by their numbers; 0 is none.
abbrev pub not_refused : ℕ
not_refused = 0

-- bytes that are no event
abbrev pub no_event : ℕ
no_event = 1

-- a field out of range, or an event that is not taken
abbrev pub out_of_range : ℕ
out_of_range = 2

abbrev pub agreed_before : ℕ
agreed_before = 3

-- heard before, or another of the same slot and member, or in its own name
abbrev pub voted_before : ℕ
voted_before = 4

-- no steps or periods are left
abbrev pub no_more_time : ℕ
no_more_time = 5

-- no room for a new block
abbrev pub no_more_blocks : ℕ
no_more_blocks = 6

-- WHAT IT KNOWS

-- the value that a quorum of soft votes of a period is for, if its block is here. There are never two; `ws` goes
-- through the votes, so that the definition alone says which
unfoldable pub chosen_in : Limits → ℕ → List Vote → List Vote → List ℕ → List ℕ
chosen_in l p [] vs bs = []
chosen_in l p (w ∷ ws) vs bs =
    cond ((w.kind == soft && w.period == p) && (has_quorum l soft p 0 w.value vs && is_in w.value bs))
    (w.value ∷ []) (chosen_in l p ws vs bs)

-- the same of a member
abbrev pub chosen : Limits → Member → List ℕ
chosen l m = chosen_in l m.period m.votes m.votes m.blocks

-- the value of which a quorum is certain in some period, if its block is here
unfoldable pub certified_in : Limits → List Vote → List Vote → List ℕ → List ℕ
certified_in l [] vs bs = []
certified_in l (w ∷ ws) vs bs =
    cond (w.kind == cert && (has_quorum l cert w.period 0 w.value vs && is_in w.value bs))
    (w.value ∷ []) (certified_in l ws vs bs)

-- the same of a member
abbrev pub certified : Limits → Member → List ℕ
certified l m = certified_in l m.votes m.votes m.blocks

-- a proposal is kept if there is none for its period, or one of a greater rank
unfoldable pub keep_best : Proposal → List Proposal → List Proposal
keep_best o [] = o ∷ []
keep_best o (b ∷ bs) =
    cond (b.period == o.period) (cond (nat_lt o.rank b.rank) o b ∷ bs) (b ∷ keep_best o bs)

-- the value proposed for a period
unfoldable pub proposed : ℕ → List Proposal → List ℕ
proposed p [] = []
proposed p (o ∷ os) = cond (o.period == p) (o.value ∷ []) (proposed p os)

-- each block once
abbrev pub add_block : ℕ → List ℕ → List ℕ
add_block x bs = cond (is_in x bs) bs (x ∷ bs)

-- WHAT IT DOES

-- what comes of an event: the member then, and the votes that it says, the first first
pub record Outcome : Type 0 where
  pub member : Member
  pub out : List Vote

-- it says nothing
abbrev pub silent : Member → Outcome
silent m = record { member = m; out = [] }

-- a vote of its own, in its period
abbrev pub own : Member → ℕ → ℕ → ℕ → Vote
own m k s x = record { kind = k; period = m.period; step = s; value = x; from = m.me }

-- it says a vote, and hears it itself at once
abbrev pub say : Vote → Outcome → Outcome
say v d = record { member = with_vote v d.member; out = d.out ++ (v ∷ []) }

-- time is up at step 0: its soft vote, for what is proposed if it is free, else for its starting value
abbrev pub soft_value : Member → List ℕ
soft_value m = cond m.free (proposed m.period m.proposals) m.start

-- it says a soft vote for this value, if there is one
unfoldable pub say_soft : List ℕ → Outcome → Outcome
say_soft [] d = d
say_soft (x ∷ xs) d = say (own d.member soft 0 x) d

-- the value, or 0 where there is none, which never comes about
unfoldable pub first_or_zero : List ℕ → ℕ
first_or_zero [] = 0
first_or_zero (x ∷ xs) = x

-- time is up at a later step: it goes on with the chosen value; or with none, if it is free; or with its starting value
unfoldable pub next_vote : Member → ℕ → List ℕ → Vote
next_vote m s (x ∷ xs) = own m next s x
next_vote m s [] = cond m.free (own m next_none s 0) (own m next s (first_or_zero m.start))

-- time is up
abbrev pub on_timeout : Limits → Member → Outcome
on_timeout l m =
    cond (m.step == 0)
    (say_soft (soft_value m) (silent (at_step 1 m)))
    (say (next_vote m (suc m.step) (chosen l m)) (silent (at_step (suc m.step) m)))

-- After the event itself three rules follow; `settle` and `does` say in which order.

-- onward: after a vote to go on, of its period or a later one, for which there is now a quorum,
-- it is in the period after
abbrev pub onward : Limits → Vote → Outcome → Outcome
onward l v d =
    cond ((nat_le next v.kind && nat_le d.member.period v.period)
    && has_quorum l v.kind v.period v.step v.value d.member.votes)
    (record {
      member = in_period (suc v.period) (cond (v.kind == next) (v.value ∷ []) [])
          (v.kind == next_none) d.member;
      out = d.out;
    })
    d

-- onward for each of these votes, in order
unfoldable pub onward_all : Limits → List Vote → Outcome → Outcome
onward_all l [] d = d
onward_all l (v ∷ vs) d = onward_all l vs (onward l v d)

-- it says that it is certain of this value, if there is one
unfoldable pub say_cert : List ℕ → Outcome → Outcome
say_cert [] d = d
say_cert (x ∷ xs) d = say (own d.member cert 0 x) (record { member = now_certain d.member; out = d.out })

-- certain: between its soft vote and the first to go on, once in a period, of the chosen value
abbrev pub certainly : Limits → Outcome → Outcome
certainly l d = cond (d.member.step == 1 && not d.member.certain) (say_cert (chosen l d.member) d) d

-- it agrees on this value, if there is one
unfoldable pub agree_on : List ℕ → Member → Member
agree_on [] m = m
agree_on (x ∷ xs) m = having_agreed x m

-- agree: if it has not agreed, on the certified value
abbrev pub agree : Limits → Outcome → Outcome
agree l d =
    record {
      member = cond (is_some d.member.agreed) d.member (agree_on (certified l d.member) d.member);
      out = d.out;
    }

-- certain, then onward for all that it said now, then agree
abbrev pub settle : Limits → Outcome → Outcome
settle l d = let e : Outcome = certainly l d in agree l (onward_all l e.out e)

-- what it does with an event that it takes
unfoldable pub does : Limits → Member → Event → Outcome
does l m (got_vote v) = settle l (onward l v (silent (with_vote v m)))
does l m (got_proposal o) = silent (with_proposals (keep_best o m.proposals) m)
does l m (got_block x) = settle l (silent (with_blocks (add_block x m.blocks) m))
does l m timeout = settle l (on_timeout l m)
does l m (unreadable n) = silent m

-- WHAT IT REFUSES

-- kind, period, step, value and sender are in range
unfoldable pub vote_in_range : Limits → Vote → Bool
vote_in_range l v =
    ((nat_le v.kind next_none && (nat_le 1 v.period && nat_le v.period l.periods))
    && (nat_lt v.from l.members && nat_lt v.value value_bound))
    && (cond (nat_lt v.kind next) (v.step == 0) (nat_le 2 v.step && nat_le v.step (suc l.steps))
    && cond (v.kind == next_none) (v.value == 0) true)

-- the fields of an event are in range
unfoldable pub in_range : Limits → Event → Bool
in_range l (got_vote v) = vote_in_range l v
in_range l (got_proposal o) =
    (nat_le 1 o.period && nat_le o.period l.periods) && (nat_lt o.value value_bound && nat_lt o.rank word_bound)
in_range l (got_block x) = nat_lt x value_bound
in_range l timeout = true
in_range l (unreadable n) = true

-- it is not bytes that are no event
unfoldable pub is_event : Event → Bool
is_event (got_vote v) = true
is_event (got_proposal o) = true
is_event (got_block x) = true
is_event timeout = true
is_event (unreadable n) = false

-- the last three reasons, which are each of one event
unfoldable pub last_refusal : Limits → Member → Event → ℕ
last_refusal l m (got_vote v) = cond (slot_taken v m.votes || v.from == m.me) voted_before not_refused
last_refusal l m (got_proposal o) = not_refused
last_refusal l m (got_block x) =
    cond (is_in x m.blocks || nat_lt (length m.blocks) l.blocks) not_refused no_more_blocks
last_refusal l m timeout = cond (nat_le m.step l.steps && nat_le m.period l.periods) not_refused no_more_time
last_refusal l m (unreadable n) = not_refused

-- the first reason of the list that applies
abbrev pub refusal : Limits → Member → Event → ℕ
refusal l m e =
    cond (not (is_event e)) no_event
    (cond (not (l.takes (event_number e) && in_range l e)) out_of_range
    (cond (is_some m.agreed) agreed_before
    (last_refusal l m e)))

-- the place of a refusal
unfoldable pub place : Event → ℕ
place (unreadable n) = n
place (got_vote v) = 0
place (got_proposal o) = 0
place (got_block x) = 0
place timeout = 0

-- WHAT IT ANSWERS, AND WHAT IT IS AFTER IT

-- refused, or done
abbrev pub answer : Limits → Member → Event → Answer
answer l m e =
    cond (refusal l m e == not_refused)
    (says (does l m e).out (does l m e).member.agreed)
    (refused (refusal l m e) (place e))

abbrev pub after : Limits → Member → Event → Member
after l m e = cond (refusal l m e == not_refused) (does l m e).member m
