-- Opening a member within its limits succeeds.
use Rattle.std.proofs.Common.{◌≡◌, ℕ, ◌+◌, ◌*◌, ◌<◌, ◌≤◌, Bool, true, false, cond, List, length, Some, None, Ok, Err}
use Rattle.std.proofs.Common.{Result}
use Rattle.std.proofs.Common.{Option, not, get_or, [], ◌∷◌, ◌++◌, length-append, sym, refl, ap, ◌∙◌, subst, inl, inr}
use Rattle.std.proofs.Common.{suc-mul, add-one, arith}
use Rattle.std.specs.List.{between, filter, range_with_len, enumerate_from}
use Rattle.std.specs.Result.{IsOk}
use Rattle.std.proofs.lemmas.Bool.{and_from, le-leb, cases_order}
use Rattle.std.proofs.lemmas.List.FromFn.{length-enumerate_from, get_or-enumerate_from}
use Rattle.protocol.specs.Vote as protocol
use Rattle.protocol.specs.Programs.{memory_size}
use Rattle.protocol.specs.Promises.{all}
use Rattle.limits.specs.Limits.{limits_of, within, first_bad}
use Rattle.limits.specs.declared.bounds.Limits.{Limits}
use Rattle.limits.specs.declared.bounds.Limit.{Limit}
use Rattle.member.specs.Calls.{OfNumbers, Opened, ByOpen}
use Rattle.member.specs.declared.calls.OpenError.{OpenError}
use Rattle.member.specs.declared.calls.OpenError.TheVariants.{OutOfRange, NotMember, TooShort}
use Rattle.network.specs.Parts.{OnlyPart}
use Rattle.network.specs.Seats.{seat, start_of, memory_of, room_for}
use Rattle.network.proofs.Apart.{seat-honest, seat_faulty, seat_behind, memory_apart, how_many_pass, start_is, room_left}
use Rattle.network.proofs.Apart.{Picked, picked_at}
use Rattle.network.proofs.Delivering.{at_span, only-there}

pub numbers_of : (k : Limits) → OfNumbers k.members k.periods k.steps k.blocks (limits_of all k)
numbers_of k = record { members = refl; periods = refl; steps = refl; blocks = refl; takes = λ _ _. refl }

is_within : (most n : ℕ) → 1 ≤ n → n ≤ most → within most n ≡ true
is_within most n some few = and_from _ _ (le-leb 1 n some) (le-leb n most few)

-- four tests that are met
none_bad : (a b c d : Bool) (w x y z : Option Limit) → a ≡ true → b ≡ true → c ≡ true → d ≡ true →
    cond a (cond b (cond c (cond d None w) x) y) z ≡ None
none_bad a b c d w x y z p q r s = rw (p, q, r, s)

in_range : (k : Limits) → first_bad k.members k.periods k.steps k.blocks ≡ None
in_range k =
    none_bad _ _ _ _ _ _ _ _ (is_within 64 k.members k.some_member k.few_members)
    (is_within 32 k.periods k.some_period k.few_periods)
    (is_within 8 k.steps k.some_step k.few_steps)
    (is_within 256 k.blocks k.some_block k.few_blocks)

pub no_error : (k : Limits) (me : ℕ) (mem new : List ℕ) (e : OpenError) → me < k.members →
    memory_size (limits_of all k) ≤ length mem →
    ByOpen k.members k.periods k.steps k.blocks me mem new (Err e) → ⊥
no_error k me mem new (OutOfRange limit) low long h =
    let same : Some limit ≡ None = sym h.0 ∙ in_range k in
    let z : ◌≡◌ {A = ℕ} 0 1 = cc in omega arith
no_error k me mem new NotMember low long h = omega (arith, h.1.0)
no_error k me mem new (TooShort n) low long h = omega
    (arith, h.1.1.0, h.1.1.1.0 (limits_of all k) (numbers_of k))

pub opens : (k : Limits) (me : ℕ) (mem new : List ℕ) (r : Result (Unit {0}) OpenError) → me < k.members →
    memory_size (limits_of all k) ≤ length mem → ByOpen k.members k.periods k.steps k.blocks me mem new r → IsOk r
opens k me mem new (Ok x) low long h = refl
opens k me mem new (Err e) low long h = absurd (no_error k me mem new e low long h)

-- ONE MEMBER AFTER THE OTHER

-- where the next one's memory begins
pub start_more : (l : protocol.Limits) (faulty : ℕ → Bool) (n : ℕ) → faulty n ≡ false →
    start_of l faulty n + memory_size l ≡ start_of l faulty (n + 1)
start_more l faulty n good =
    sym (ap (λ (i : ℕ). start_of l faulty i) (add-one n) ∙ ap (λ (s : ℕ). s * memory_size l) (seat-honest faulty n good)
    ∙ suc-mul (seat faulty n) (memory_size l))

pub start_same : (l : protocol.Limits) (faulty : ℕ → Bool) (n : ℕ) → faulty n ≡ true →
    start_of l faulty n ≡ start_of l faulty (n + 1)
start_same l faulty n bad =
    sym (ap (λ (i : ℕ). start_of l faulty i) (add-one n) ∙ ap (λ (s : ℕ). s * memory_size l) (seat_faulty faulty n bad))

-- what a loop over the honest members below n yields at turn k: that seat, and who sits there
abbrev pub SitsAt : (ℕ → Bool) → ℕ → ℕ → ℕ × ℕ → Type 0
SitsAt faulty n k x =
    (x.0 ≡ k) × ((x.1 < n) × ((faulty x.1 ≡ false) × (seat faulty x.1 ≡ k)))

honest_not : (b : Bool) → not b ≡ true → b ≡ false
honest_not true h = sym h
honest_not false h = refl

pub sits_at : (faulty : ℕ → Bool) (n k : ℕ) (x : ℕ × ℕ) →
    (k < length (enumerate_from 0 (filter (λ i. not (faulty i)) (range_with_len 0 n))))
    × (x ≡ get_or (enumerate_from 0 (filter (λ i. not (faulty i)) (range_with_len 0 n))) k x) →
    SitsAt faulty n k x
sits_at faulty n k x h =
    let all : List ℕ = filter (λ i. not (faulty i)) (range_with_len 0 n) in
    let lt : k < length all = omega (arith, h.0, length-enumerate_from 0 all) in
    let is : x ≡ (0 + k, get_or all k x.1) = h.1 ∙ get_or-enumerate_from 0 all k x lt in
    let p = picked_at (λ i. not (faulty i)) n k x.1 lt in
    let me : x.1 ≡ get_or all k x.1 = ap (λ (y : ℕ × ℕ). y.1) is in
    let q : Picked (λ i. not (faulty i)) n k x.1 = subst (Picked (λ i. not (faulty i)) n k) (sym me) p in
    (omega (arith, ap (λ (y : ℕ × ℕ). y.0) is), (q.0, (honest_not (faulty x.1) q.1.0, q.1.1)))

start_at : (l : protocol.Limits) (faulty : ℕ → Bool) (k size : ℕ) (x : ℕ × ℕ) → SitsAt faulty l.members k x →
    size ≡ memory_size l → x.0 * size ≡ start_of l faulty x.1
start_at l faulty k size x at is-size = start_is l faulty x.1 x.0 size (at.0 ∙ sym at.1.1.1) is-size

pub room_at : (l : protocol.Limits) (faulty : ℕ → Bool) (k size n was : ℕ) (x : ℕ × ℕ) →
    SitsAt faulty l.members k x → size ≡ memory_size l → room_for l faulty ≤ was → n ≡ was →
    x.0 * size + size ≤ n
room_at l faulty k size n was x at is-size room same =
    room_left l faulty x.1 n was _ size (start_at l faulty k size x at is-size) is-size at.1.1.0 at.1.0 room same

-- those of the first k seats are new
abbrev pub NewSeats : protocol.Limits → (ℕ → Bool) → ℕ → List ℕ → Type 0
NewSeats l faulty k mem =
    (i : ℕ) → seat faulty i < k → faulty i ≡ false → Opened l i (memory_of l faulty i mem)

-- the next one is opened
pub new_seat : (l : protocol.Limits) (faulty : ℕ → Bool) (xs : List (ℕ × ℕ)) (x : ℕ × ℕ) (mem new : List ℕ)
    (end size : ℕ) → SitsAt faulty l.members (length xs) x → NewSeats l faulty (length xs) mem →
    size ≡ memory_size l → end ≡ x.0 * size + memory_size l → Opened l x.1 (between (x.0 * size) end new) →
    OnlyPart (x.0 * size) end mem new → NewSeats l faulty (length (xs ++ x ∷ [])) new
new_seat l faulty xs x mem new end size at before is-size is-end opened only i low gi =
    let n : ℕ = x.1 in
    let good = at.1.1.0 in
    let is-start = start_at l faulty (length xs) size x at is-size in
    elim (cases_order i n) [
      | inl e ↦ subst (λ (j : ℕ). Opened l j (memory_of l faulty j new)) (sym e)
          (subst (Opened l n) (at_span l faulty n _ end is-start is-end new) opened)
      | inr (inl lt) ↦ subst (Opened l i) (sym (memory_apart l faulty n i mem new good gi (λ e. omega arith)
          (only-there l faulty n _ end is-start is-end mem new only)))
          (before i (omega (arith, seat_behind faulty i n gi lt, at.1.1.1)) gi)
      | inr (inr gt) ↦
          absurd (omega (arith, seat_behind faulty n i good gt, at.1.1.1, low, length-append xs (x ∷ [])))
    ]

-- all seats
pub new_all : (l : protocol.Limits) (faulty : ℕ → Bool) (k : ℕ) (mem : List ℕ) → NewSeats l faulty k mem →
    k ≡ length (enumerate_from 0 (filter (λ i. not (faulty i)) (range_with_len 0 l.members))) →
    (i : ℕ) → i < l.members → faulty i ≡ false → Opened l i (memory_of l faulty i mem)
new_all l faulty k mem new is i low good =
    let all : List ℕ = filter (λ i. not (faulty i)) (range_with_len 0 l.members) in
    new i (omega (
      arith,
      seat_behind faulty i l.members good low,
      is,
      length-enumerate_from 0 all,
      how_many_pass (λ i. not (faulty i)) l.members,
    )) good
