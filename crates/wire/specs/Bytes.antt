-- The bytes of votes, proposals, events and answers, and what bytes are read as. Assumes nothing: these are
-- definitions. Numbers have 8 bytes and values 32, little-endian.
use Rattle.std.specs.Prelude.{◌≡◌, ℕ, zero, suc, ◌+◌, ◌*◌, ◌<◌, ◌≤◌, cond, ◌&&◌, List, [], ◌∷◌, ◌++◌, length, take}
use Rattle.std.specs.Prelude.{drop, Ok, Err, Result, ◌==◌, nat_le, nat_lt, slice_index}
use Rattle.std.specs.List.{flat_map}
use Rattle.values.specs.Digits.{le_number, le_bytes}
use Rattle.protocol.specs.Vote.{Vote, Proposal}
use Rattle.protocol.specs.Member.{Event, got_vote, got_proposal, got_block, timeout, unreadable, Answer, refused, says}

-- WRITTEN

-- kind, period, step, value, from: 64 bytes
unfoldable pub vote_bytes : Vote → List ℕ
vote_bytes v =
    le_bytes 8 v.kind ++ le_bytes 8 v.period ++ le_bytes 8 v.step
    ++ le_bytes 32 v.value ++ le_bytes 8 v.from

-- period, rank, value: 48 bytes
unfoldable pub proposal_bytes : Proposal → List ℕ
proposal_bytes o = le_bytes 8 o.period ++ le_bytes 8 o.rank ++ le_bytes 32 o.value

-- one byte, then the fields
abbrev pub event_bytes : Event → List ℕ
event_bytes (got_vote v) = 0 ∷ vote_bytes v
event_bytes (got_proposal o) = 1 ∷ proposal_bytes o
event_bytes (got_block x) = 2 ∷ le_bytes 32 x
event_bytes timeout = 3 ∷ []
event_bytes (unreadable n) = []

-- how many votes, then the votes
abbrev pub said_bytes : List Vote → List ℕ
said_bytes vs = le_bytes 8 (length vs) ++ flat_map vote_bytes vs

-- byte 0, or byte 1 and the value agreed on
abbrev pub agreed_bytes : List ℕ → List ℕ
agreed_bytes [] = 0 ∷ []
agreed_bytes (x ∷ xs) = 1 ∷ le_bytes 32 x

-- byte 0, the refusal and its place; or byte 1, what is said and what is agreed on
abbrev pub answer_bytes : Answer → List ℕ
answer_bytes (refused r n) = 0 ∷ (le_bytes 8 r ++ le_bytes 8 n)
answer_bytes (says vs xs) = 1 ∷ (said_bytes vs ++ agreed_bytes xs)

-- What writing these bytes into lent ones does: it gives their number, and leaves what comes after them; if there is no
-- room, it gives the number needed, and leaves everything.
abbrev pub Written : List ℕ → List ℕ → List ℕ → Result ℕ ℕ → Type 0
Written bs before after (Ok n) = (n ≡ length bs) × (n ≤ length before) × (after ≡ bs ++ drop n before)
Written bs before after (Err n) = (n ≡ length bs) × (length before < n) × (after ≡ before)

-- READ

-- k bytes from place i on
abbrev pub part : ℕ → ℕ → List ℕ → List ℕ
part i k bs = take k (drop i bs)

-- the vote that 64 bytes hold
unfoldable pub vote_in : List ℕ → Vote
vote_in bs =
    record {
      kind = le_number (part 0 8 bs);
      period = le_number (part 8 8 bs);
      step = le_number (part 16 8 bs);
      value = le_number (part 24 32 bs);
      from = le_number (part 56 8 bs);
    }

-- the proposal that 48 bytes hold
unfoldable pub proposal_in : List ℕ → Proposal
proposal_in bs =
    record { period = le_number (part 0 8 bs); rank = le_number (part 8 8 bs); value = le_number (part 16 32 bs) }

-- a thing of n bytes in all, if there are just so many; else the place: where too few end, or where too many go on
abbrev pub sized : {A : Type 0} → (ℕ → A) → ℕ → List ℕ → A → A
sized place n bs a = cond (nat_lt (length bs) n) (place (length bs)) (cond (nat_lt n (length bs)) (place n) a)

-- the event that these bytes are, if its number is t, or the place at which they cease to be one
abbrev pub event_by : ℕ → List ℕ → Event
event_by t bs =
    cond (t == 0) (sized unreadable 65 bs (got_vote (vote_in (part 1 64 bs))))
    (cond (t == 1) (sized unreadable 49 bs (got_proposal (proposal_in (part 1 48 bs))))
    (cond (t == 2) (sized unreadable 33 bs (got_block (le_number (part 1 32 bs))))
    (cond (t == 3) (sized unreadable 1 bs timeout)
    (unreadable 0))))

-- the event that these bytes are: the first is its number
unfoldable pub event_in : List ℕ → Event
event_in bs = cond (length bs == 0) (unreadable 0) (event_by (slice_index bs 0) bs)

-- there is a byte at place n; else where they end
abbrev pub reaching : {A : Type 0} → (ℕ → A) → ℕ → List ℕ → A → A
reaching place n bs a = cond (nat_le (length bs) n) (place (length bs)) a

-- k votes, one after the other, from place i on
unfoldable pub votes_in : ℕ → ℕ → List ℕ → List Vote
votes_in i zero bs = []
votes_in i (suc k) bs = vote_in (part i 64 bs) ∷ votes_in (i + 64) k bs

-- The answer that bytes are, or the place at which they cease to be one. A number or a byte that cannot stand where it
-- does is at the place where it begins: an unknown refusal, and more than two votes, at place 1.

-- a refusal: its number is at 1, and the place at 9
abbrev pub refused_by : ℕ → List ℕ → Result Answer ℕ
refused_by r bs = cond (nat_le 1 r && nat_le r 6) (sized Err 17 bs (Ok (refused r (le_number (part 9 8 bs))))) (Err 1)

-- these votes are said; what is agreed on is at place i, where byte t is
abbrev pub agreed_by : ℕ → ℕ → List Vote → List ℕ → Result Answer ℕ
agreed_by t i vs bs =
    cond (t == 0) (sized Err (i + 1) bs (Ok (says vs [])))
    (cond (t == 1) (sized Err (i + 33) bs (Ok (says vs (le_number (part (i + 1) 32 bs) ∷ []))))
    (Err i))

-- n votes are said: they are at 9
abbrev pub says_by : ℕ → List ℕ → Result Answer ℕ
says_by n bs =
    cond (nat_le n 2)
    (reaching Err (9 + 64 * n) bs (agreed_by (slice_index bs (9 + 64 * n)) (9 + 64 * n) (votes_in 9 n bs) bs))
    (Err 1)

-- what the first byte t says comes after it: a refusal, or votes
abbrev pub answer_by : ℕ → List ℕ → Result Answer ℕ
answer_by t bs =
    cond (t == 0) (reaching Err 8 bs (refused_by (le_number (part 1 8 bs)) bs))
    (cond (t == 1) (reaching Err 8 bs (says_by (le_number (part 1 8 bs)) bs))
    (Err 0))

-- the answer that these bytes are
unfoldable pub answer_in : List ℕ → Result Answer ℕ
answer_in bs = cond (length bs == 0) (Err 0) (answer_by (slice_index bs 0) bs)
