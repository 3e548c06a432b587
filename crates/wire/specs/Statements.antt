-- What is promised of the bytes of events and answers. Assumes nothing: these are definitions and statements.
use Rattle.std.specs.Prelude.{◌≡◌, ℕ, suc, ◌<◌, ◌≤◌, Bool, true, false, ◌&&◌, List, [], ◌∷◌, ◌++◌, length, take, Ok}
use Rattle.std.specs.Prelude.{◌≢◌, nat_le, nat_lt}
use Rattle.values.specs.Digits.{under}
use Rattle.protocol.specs.Vote.{Vote, value_bound, word_bound}
use Rattle.protocol.specs.Member.{Event, got_vote, unreadable, is_event, Answer, refused, says}
use Rattle.protocol.specs.Programs.{readable}
use Rattle.wire.specs.Bytes.{event_bytes, event_in, answer_bytes, answer_in}

-- EVENTS

-- What is written is read back: every event whose numbers fit.
abbrev pub EventsReadBack : Type 0
EventsReadBack = (e : Event) → is_event e ≡ true → readable e ≡ true → event_in (event_bytes e) ≡ e

-- There is one spelling: bytes that read to an event are those that writing it gives.
abbrev pub EventsOneSpelling : Type 0
EventsOneSpelling =
    (bs : List ℕ) → under 256 bs ≡ true → is_event (event_in bs) ≡ true → event_bytes (event_in bs) ≡ bs

-- some event's bytes begin with these
abbrev pub Begins : List ℕ → Type 0
Begins bs = (e : Event) × ((rest : List ℕ) × ((is_event e ≡ true) × (readable e ≡ true) × (event_bytes e ≡ bs ++ rest)))

-- The bytes cease to be an event at place n: those before it begin one; with the one at n they begin none, or there is
-- none at n; and they are no event's bytes.
pub record Ceases (bs : List ℕ) (n : ℕ) : Type 0 where
  pub within : n ≤ length bs
  pub before : Begins (take n bs)
  pub there : n < length bs → Begins (take (suc n) bs) → ⊥
  pub none : (e : Event) → is_event e ≡ true → readable e ≡ true → event_bytes e ≢ bs

-- The place of a refusal is the first at which no event can go on.
abbrev pub EventsPlace : Type 0
EventsPlace = (bs : List ℕ) (n : ℕ) → under 256 bs ≡ true → event_in bs ≡ unreadable n → Ceases bs n

-- ANSWERS

-- each vote's numbers fit
unfoldable pub votes_fit : List Vote → Bool
votes_fit [] = true
votes_fit (v ∷ vs) = readable (got_vote v) && votes_fit vs

-- none or one, below 2 ^ 256
unfoldable pub agreed_fits : List ℕ → Bool
agreed_fits [] = true
agreed_fits (x ∷ []) = nat_lt x value_bound
agreed_fits (x ∷ y ∷ xs) = false

-- answers that bytes can carry: a known refusal; or at most two votes, and none or one value
unfoldable pub sayable : Answer → Bool
sayable (refused r n) = (nat_le 1 r && nat_le r 6) && nat_lt n word_bound
sayable (says vs xs) = nat_le (length vs) 2 && (votes_fit vs && agreed_fits xs)

-- What is written is read back: every answer that bytes can carry.
abbrev pub AnswersReadBack : Type 0
AnswersReadBack = (a : Answer) → sayable a ≡ true → answer_in (answer_bytes a) ≡ Ok a

-- There is one spelling, and what is read is such an answer.
abbrev pub AnswersOneSpelling : Type 0
AnswersOneSpelling =
    (bs : List ℕ) (a : Answer) → under 256 bs ≡ true → answer_in bs ≡ Ok a → (answer_bytes a ≡ bs) × (sayable a ≡ true)
