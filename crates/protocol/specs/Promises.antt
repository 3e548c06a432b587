-- What is promised. Each is a statement, a type whose proof is owed on the contract of a function. Assumes nothing.
-- docs/CONTRACTS.md says where each stands. A statement with the parameter `can` is owed for `thin` and for `all`.
use Rattle.std.specs.Prelude.{◌≡◌, ℕ, ◌*◌, ◌<◌, ◌≤◌, Bool, true, false, cond, not, ◌&&◌, ◌||◌, List, [], ◌∷◌, length}
use Rattle.std.specs.Prelude.{◌==◌, nat_le}
use Rattle.protocol.specs.Vote.{next, next_none, Vote, Limits, quorum, has_quorum, is_vote_in}
use Rattle.protocol.specs.Member.{is_in, is_some, Member, Event, timeout, Answer}
use Rattle.protocol.specs.Member.{chosen, does, refusal, not_refused, answer, after}
use Rattle.protocol.specs.Network.{Network, Reachable, how_many, FewFaulty, Bundle, Certificate}
use Rattle.protocol.specs.Programs.{member_after, memory_size, readable, all_readable}
use Rattle.protocol.specs.Programs.{all_words, Contract, Runs, Program, memory_of}
pub use Rattle.protocol.specs.Stages.{thin, all, GoodLimits}

-- always, in any network that can be: fewer than a third are faulty, and do as they like
abbrev pub Ever : (ℕ → Bool) → (Limits → (ℕ → Bool) → Network → Type 0) → Type 0
Ever can P =
    (l : Limits) (faulty : ℕ → Bool) (w : Network) → GoodLimits can l → FewFaulty l faulty →
    Reachable l faulty w → P l faulty w

-- AGREEMENT

-- No two certificates are for different values, in whatever periods.
abbrev pub OneCertified : (ℕ → Bool) → Type 0
OneCertified can =
    Ever can (λ l faulty w. (p q a b : ℕ) (vs us : List Vote) → Certificate l faulty w p a vs →
    Certificate l faulty w q b us → a ≡ b)

-- No two honest members agree on different values.
abbrev pub OneAgreed : (ℕ → Bool) → Type 0
OneAgreed can =
    Ever can (λ l faulty w. (i j a b : ℕ) → i < l.members → j < l.members → faulty i ≡ false → faulty j ≡ false →
    (w.member i).agreed ≡ a ∷ [] → (w.member j).agreed ≡ b ∷ [] → a ≡ b)

-- THE EIGHT STATEMENTS

-- two votes of one member in one slot that differ; next and next_none of one step count as one slot
abbrev pub clash : Vote → Vote → Bool
clash v w =
    ((v.from == w.from && v.period == w.period)
    && (v.step == w.step
    && cond (nat_le next v.kind) next v.kind == cond (nat_le next w.kind) next w.kind))
    && not (v.kind == w.kind && v.value == w.value)

-- it clashes with one of these
unfoldable pub clash_any : Vote → List Vote → Bool
clash_any v [] = false
clash_any v (w ∷ ws) = clash v w || clash_any v ws

-- no two of these clash
unfoldable pub no_clash : List Vote → Bool
no_clash [] = true
no_clash (v ∷ vs) = not (clash_any v vs) && no_clash vs

-- 1. An honest member says one thing where it says anything: of each kind, period and step one vote; and it does not go
-- on at one step both with a value and with none.
abbrev pub SaysOneThing : (ℕ → Bool) → Type 0
SaysOneThing can = Ever can (λ l faulty w. no_clash w.said ≡ true)

-- 2. What is agreed has its block, and a certificate.
abbrev pub AgreedHasBoth : (ℕ → Bool) → Type 0
AgreedHasBoth can =
    Ever can (λ l faulty w. (i a : ℕ) → i < l.members → faulty i ≡ false → (w.member i).agreed ≡ a ∷ [] →
    (is_in a (w.member i).blocks ≡ true) × ((p : ℕ) × ((vs : List Vote) × Certificate l faulty w p a vs)))

-- 3. Two honest members in one period have no two chosen values.
abbrev pub OneChosen : (ℕ → Bool) → Type 0
OneChosen can =
    Ever can (λ l faulty w. (i j a b : ℕ) → i < l.members → j < l.members → faulty i ≡ false → faulty j ≡ false →
    (w.member i).period ≡ (w.member j).period → chosen l (w.member i) ≡ a ∷ [] →
    chosen l (w.member j) ≡ b ∷ [] → a ≡ b)

-- 4. Periods only go on.
abbrev pub PeriodsGoOn : Type 0
PeriodsGoOn = (l : Limits) (m : Member) (e : Event) → m.period ≤ (after l m e).period

-- 5. Nobody is stuck: while a member has not agreed and has steps and periods left, time can be up for its next step,
-- and from step 1 on it then says something.
abbrev pub NeverStuck : Type 0
NeverStuck =
    (l : Limits) (m : Member) → GoodLimits all l → m.agreed ≡ [] → m.step ≤ l.steps → m.period ≤ l.periods →
    (refusal l m timeout ≡ not_refused) × (1 ≤ m.step → is_some (does l m timeout).out ≡ true)

-- 6. Of fewer than a third faulty, two quorums have an honest member in common.
abbrev pub QuorumsMeet : Type 0
QuorumsMeet =
    (n : ℕ) (faulty q r : ℕ → Bool) → 1 ≤ n → 3 * how_many n faulty < n →
    quorum n ≤ how_many n q → quorum n ≤ how_many n r →
    (i : ℕ) × ((i < n) × (faulty i ≡ false) × (q i ≡ true) × (r i ≡ true))

-- 7. What was agreed stays.
abbrev pub AgreedStays : Type 0
AgreedStays = (l : Limits) (m : Member) (e : Event) (a : ℕ) → m.agreed ≡ a ∷ [] → (after l m e).agreed ≡ a ∷ []

-- 8. What is turned away changes nothing.
abbrev pub TurnedAway : Type 0
TurnedAway = (l : Limits) (m : Member) (e : Event) → 0 < refusal l m e → after l m e ≡ m

-- BEYOND THE EIGHT

-- What a member heard a quorum of can be shown to anybody: there is a bundle of it.
abbrev pub HeardHasBundle : (ℕ → Bool) → Type 0
HeardHasBundle can =
    Ever can (λ l faulty w. (i k p s x : ℕ) → i < l.members → faulty i ≡ false →
    has_quorum l k p s x (w.member i).votes ≡ true → (vs : List Vote) × Bundle l faulty w k p s x vs)

-- There is one way to go on from a step of a period: never with a value and with none, nor with two values. So members
-- that go on from one step of a period begin the next alike.
pub record OneWay (l : Limits) (faulty : ℕ → Bool) (w : Network) : Type 0 where
  pub value_or_none : (p s a b : ℕ) (vs us : List Vote) →
      Bundle l faulty w next p s a vs → Bundle l faulty w next_none p s b us → ⊥
  pub one_value : (p s a b : ℕ) (vs us : List Vote) →
      Bundle l faulty w next p s a vs → Bundle l faulty w next p s b us → a ≡ b

abbrev pub OneWayOn : (ℕ → Bool) → Type 0
OneWayOn can = Ever can OneWay

-- After a certificate of a value in a period, every honest member in a later period began it with that value,
-- and is not free.
abbrev pub LockedAfter : (ℕ → Bool) → Type 0
LockedAfter can =
    Ever can (λ l faulty w. (p a i : ℕ) (vs : List Vote) → Certificate l faulty w p a vs →
    i < l.members → faulty i ≡ false → p < (w.member i).period →
    ((w.member i).start ≡ a ∷ []) × ((w.member i).free ≡ false))

-- No vote is said twice by an honest member.
unfoldable pub no_repeat : List Vote → Bool
no_repeat [] = true
no_repeat (v ∷ vs) = not (is_vote_in v vs) && no_repeat vs

abbrev pub SaidOnce : (ℕ → Bool) → Type 0
SaidOnce can = Ever can (λ l faulty w. no_repeat w.said ≡ true)

-- A MEMBER THAT RUNS

-- of every run of the contracts of its two functions: after any events, ...
abbrev pub InRuns : (ℕ → Bool) → Contract → (Limits → ℕ → List Event → List ℕ → Type 0) → Type 0
InRuns can c P =
    (l : Limits) (i : ℕ) (es : List Event) (mem : List ℕ) → GoodLimits can l → i < l.members →
    Runs c l i es mem → P l i es mem

-- ... and one call more
abbrev pub InCalls :
    (ℕ → Bool) → Contract → (Limits → ℕ → List Event → List ℕ → Event → List ℕ → Answer → Type 0) → Type 0
InCalls can c P =
    InRuns can c (λ l i es mem. (e : Event) (mem' : List ℕ) (a : Answer) → readable e ≡ true → c.Called mem e mem' a →
    P l i es mem e mem' a)

-- THE MAIN PROMISE OF ONE MEMBER: after any events, the answer is what the definitions say.
abbrev pub RunsRight : (ℕ → Bool) → Contract → Type 0
RunsRight can c = InCalls can c (λ l i es mem e mem' a. a ≡ answer l (member_after l i es) e)

-- What is refused leaves the memory exactly as it was.
abbrev pub RunsRefusalKeeps : (ℕ → Bool) → Contract → Type 0
RunsRefusalKeeps can c = InCalls can c (λ l i es mem e mem' a. 0 < refusal l (member_after l i es) e → mem' ≡ mem)

-- The memory that the limits ask for is enough for any events.
abbrev pub RunsEnoughMemory : (ℕ → Bool) → Contract → Type 0
RunsEnoughMemory can c = InRuns can c (λ l i es mem. (length mem ≤ memory_size l) × (all_words mem ≡ true))

-- and, as a consequence, of every program that meets the contracts

-- After any events, each answer is what the definitions say.
abbrev pub Right : (ℕ → Bool) → Program → Type 0
Right can f =
    (l : Limits) (i : ℕ) (es : List Event) (e : Event) → GoodLimits can l → i < l.members →
    all_readable (e ∷ es) ≡ true → f.answers (memory_of f l i es) e ≡ answer l (member_after l i es) e

-- What is refused leaves the memory exactly as it was.
abbrev pub RefusalKeeps : (ℕ → Bool) → Program → Type 0
RefusalKeeps can f =
    (l : Limits) (i : ℕ) (es : List Event) (e : Event) → GoodLimits can l → i < l.members →
    all_readable (e ∷ es) ≡ true →
    0 < refusal l (member_after l i es) e → f.call (memory_of f l i es) e ≡ memory_of f l i es

-- The memory that the limits ask for is enough for any events.
abbrev pub EnoughMemory : (ℕ → Bool) → Program → Type 0
EnoughMemory can f =
    (l : Limits) (i : ℕ) (es : List Event) → GoodLimits can l → i < l.members → all_readable es ≡ true →
    (length (memory_of f l i es) ≤ memory_size l) × (all_words (memory_of f l i es) ≡ true)
