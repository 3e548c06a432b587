-- What a call on one honest member's memory tells of it.
use Rattle.std.proofs.Common.{◌≡◌, ℕ, ◌<◌, Bool, false, List, IfSome, Some, None, Option, MatchOption, Ok}
use Rattle.std.proofs.Common.{Err, Result, refl, true, sym, ap, ◌∙◌, subst, ◌≤◌, ◌-◌, arith, ◌+◌, IsSomeAnd}
use Rattle.std.proofs.iter.runs.Sources.{range_runs}
use Rattle.std.proofs.lemmas.Iterator.Adapters.{option_map_id}
use Rattle.std.specs.Option.{option_map}
use Rattle.std.specs.Result.{IsOk}
use denote.Param.Members.{Mut, Called}
use Rattle.std.specs.Iterator.Runs.{SomeRun, CallKeepsClosure, AllItemsGive, IsFirstToGive}
use Rattle.std.proofs.iter.Yields.{nat_range_steps}
use Rattle.std.specs.declared.ops.Range.{Range}
use mathlib.Core.Bool.{Bool-set}
use mathlib.Core.Logic.{∥∥₁_elim}
use mathlib.Core.List.{is_set}
use native.Mathlib.Nat.{ℕ_set}
use Rattle.protocol.specs.Vote.{Vote, Limits}
use Rattle.protocol.specs.Member as protocol
use Rattle.wire.specs.declared.answers.Answer.{Answer}
use Rattle.member.specs.Calls.{IsNotOpen, Looks, BySaid, ByCall}
use Rattle.member.specs.declared.calls.NotOpen.{NotOpen}
use Rattle.member.specs.Header.{Header}
use Rattle.moves.specs.declared.state.Member.{Member}
use Rattle.network.specs.Calls.{ByLook}
use Rattle.network.specs.Running.{Held, Running}
use Rattle.network.specs.Seats.{memory_of}

-- memory that holds a member is open
pub is_open : (l : Limits) (i : ℕ) (mem : List ℕ) (m : protocol.Member) → Held l i mem m → IsNotOpen mem → ⊥
is_open l i mem m h none = none h.kept.carries.member h.kept.carries.header

-- OUT OF A NETWORK THAT RUNS: what has one proof

pub no_run : {A : Type 0} → ∥ A ∥₁ → (A → ⊥) → ⊥
no_run run f = ∥∥₁_elim run (λ x. absurd x) f

pub number_of_run : {A : Type 0} {x y : ℕ} → ∥ A ∥₁ → (A → x ≡ y) → x ≡ y
number_of_run {x = x} {y = y} run f = ∥∥₁_elim run (ℕ_set x y) f

pub flag_of_run : {A : Type 0} {x y : Bool} → ∥ A ∥₁ → (A → x ≡ y) → x ≡ y
flag_of_run {x = x} {y = y} run f = ∥∥₁_elim run (Bool-set x y) f

pub list_of_run : {A : Type 0} {x y : List ℕ} → ∥ A ∥₁ → (A → x ≡ y) → x ≡ y
list_of_run {x = x} {y = y} run f = ∥∥₁_elim run (is_set ℕ_set x y) f

-- where honest member i of a network that runs stands
module _ (l : Limits) (faulty : ℕ → Bool) (mem : List ℕ) (run : ∥ Running l faulty mem ∥₁) (i : ℕ)
    (low : i < l.members)
    (good : faulty i ≡ false) where
  pub open_there : IsNotOpen (memory_of l faulty i mem) → ⊥
  open_there none = no_run run
      (λ r. is_open l i (memory_of l faulty i mem) (r.state.member i) (r.held i low good) none)

  pub by_look : (r : Option Member) → MatchOption r (IsNotOpen (memory_of l faulty i mem))
      (Looks (memory_of l faulty i mem)) →
      IfSome r (λ x. Header (memory_of l faulty i mem) x) → ByLook l faulty mem i r
  by_look None none _ = absurd (open_there none)
  by_look (Some x) looks header = (low, (good, (header, looks)))

  pub by_said : (v : Vote) (r : Result Bool NotOpen) → BySaid (memory_of l faulty i mem) v r → IsOk r
  by_said v (Ok said) h = refl
  by_said v (Err error) none = absurd (open_there none)

  pub by_call : (e : protocol.Event) (new : List ℕ) (r : Result Answer NotOpen) →
      ByCall (memory_of l faulty i mem) e new r → IsOk r
  by_call e new (Ok answer) h = refl
  by_call e new (Err error) none = absurd (open_there none.0)

-- A CHAIN OVER NUMBERS

at_number : (P : ℕ → Type 0) (o : Option ℕ) (n : ℕ) → option_map (λ x. x) o ≡ Some n → IfSome o P → P n
at_number P o n is h = subst (λ (q : Option ℕ). IfSome q P) (sym (option_map_id o) ∙ is) h

number_there : (P : ℕ → Type 0) (o : Option ℕ) → IsSomeAnd o P → (n : ℕ) × P n
number_there P (Some n) h = (n, h)
number_there P None h = absurd h

-- `find_map`: what it gives was given at a number; if it gives none, none was given at any
module _ {F B : Type 0} (g : Mut F (ℕ × Unit {0}) (Option B)) (f : F) (Yes : ℕ → B → Type 0) (No : ℕ → Type 0)
    (keeps : CallKeepsClosure g f) (yes : (k : ℕ) (y : B) → Called g f (k, tt) (Some y) f → Yes k y)
    (no : (k : ℕ) → Called g f (k, tt) None f → No k) where
  pub first_mapped : (s : Range ℕ) (r : Option B) →
      SomeRun nat_range_steps s (λ p. MatchOption r ((p.whole ≡ true) × AllItemsGive p g f None)
      (λ y. (i : ℕ) × (i < p.len) × (p.len ≡ i + 1) × IsFirstToGive p g f (Some y) None i)) →
      MatchOption r ((k : ℕ) → s.start ≤ k → k < s.end → No k) (λ y. (k : ℕ) × Yes k y)
  first_mapped s None (p, from, h) = λ k a b.
      let up = range_runs p p.seen in
      let begins : p.from.start ≡ s.start = ap (λ (x : Range ℕ). x.start) from in
      let ends : p.from.end ≡ s.end = ap (λ (x : Range ℕ). x.end) from in
      no k (at_number (λ x. Called g f (x, tt) None f) (p.at (k - s.start)) k
      (up.3 (k - s.start) (omega (arith, up.1 h.0, begins, ends)) ∙ ap Some (omega (arith, begins)))
      (h.1 keeps (k - s.start)))
  first_mapped s (Some y) (p, from, (i, low, long, first)) =
      let there = number_there (λ x. Called g f (x, tt) (Some y) f) (p.at i) (first keeps).0 in
      (there.0, yes there.0 y there.1)
