-- The range of a vote: its test, and what the test says.
use Rattle.std.proofs.Common.{◌≡◌, ℕ, suc, ◌<◌, ◌≤◌, Bool, true, false, cond, ◌&&◌, eqb, ltb, leb, refl, arith}
use Rattle.std.proofs.lemmas.Bool.{and_parts, and_from, eqb-true, eq-eqb, leb-true, le-leb, ltb-true, lt-ltb, ltb-false}
use Rattle.std.proofs.lemmas.Bool.Decides.{nat_tests}
use Rattle.protocol.specs.Vote.{next, next_none, Vote, Limits, value_bound}
use Rattle.protocol.specs.Member.{vote_in_range}

-- the range of a vote, as facts
pub record Ranged (l : Limits) (v : Vote) : Type 0 where
  pub kinds : v.kind ≤ next_none
  pub from_1 : 1 ≤ v.period
  pub periods : v.period ≤ l.periods
  pub member : v.from < l.members
  pub value : v.value < value_bound
  pub first_step : v.kind < next → v.step ≡ 0
  pub later_step : next ≤ v.kind → 2 ≤ v.step
  pub steps : next ≤ v.kind → v.step ≤ suc l.steps
  pub no_value : v.kind ≡ next_none → v.value ≡ 0

steps_of : (k s n : ℕ) → cond (ltb k next) (eqb s 0) (leb 2 s && leb s n) ≡ true →
    (k < next → s ≡ 0) × (next ≤ k → 2 ≤ s) × (next ≤ k → s ≤ n)
steps_of k s n h = (λ a. grind (arith, nat_tests), λ a. grind (arith, nat_tests), λ a. grind (arith, nat_tests))

none_of : (k x : ℕ) → cond (eqb k next_none) (eqb x 0) true ≡ true → k ≡ next_none → x ≡ 0
none_of k x h e = grind (arith, nat_tests)

pub ranged : (l : Limits) (v : Vote) → vote_in_range l v ≡ true → Ranged l v
unfolding vote_in_range
ranged l v h =
    let a : _ = and_parts _ _ h in
    let b : _ = and_parts _ _ a.0 in
    let c : _ = and_parts _ _ b.0 in
    let d : _ = and_parts _ _ c.1 in
    let e : _ = and_parts _ _ b.1 in
    let f : _ = and_parts _ _ a.1 in
    let s : _ = steps_of v.kind v.step (suc l.steps) f.0 in
    record {
      kinds = leb-true _ _ c.0;
      from_1 = leb-true _ _ d.0;
      periods = leb-true _ _ d.1;
      member = ltb-true _ _ e.0;
      value = ltb-true _ _ e.1;
      first_step = s.0;
      later_step = s.1;
      steps = s.2;
      no_value = none_of v.kind v.value f.1;
    }

pub steps_test : (k s n : ℕ) → (k < next → s ≡ 0) → (next ≤ k → 2 ≤ s) → (next ≤ k → s ≤ n) →
    cond (ltb k next) (eqb s 0) (leb 2 s && leb s n) ≡ true
steps_test k s n a b c = go (ltb k next) (ltb-true k next) (λ h. ltb-false k next h)
  where
    go : (t : Bool) → (t ≡ true → k < next) → (t ≡ false → next ≤ k) → cond t (eqb s 0) (leb 2 s && leb s n) ≡ true
    go true yes' no' = eq-eqb s 0 (a (yes' refl))
    go false yes' no' = and_from _ _ (le-leb 2 s (b (no' refl))) (le-leb s n (c (no' refl)))

none_test : (k x : ℕ) → (k ≡ next_none → x ≡ 0) → cond (eqb k next_none) (eqb x 0) true ≡ true
none_test k x h = go (eqb k next_none) (eqb-true k next_none)
  where
    go : (t : Bool) → (t ≡ true → k ≡ next_none) → cond t (eqb x 0) true ≡ true
    go true is = eq-eqb x 0 (h (is refl))
    go false is = refl

pub range_test : (l : Limits) (v : Vote) → Ranged l v → vote_in_range l v ≡ true
unfolding vote_in_range
range_test l v r =
    and_from _ _
    (and_from _ _
    (and_from _ _ (le-leb _ _ r.kinds) (and_from _ _ (le-leb _ _ r.from_1) (le-leb _ _ r.periods)))
    (and_from _ _ (lt-ltb _ _ r.member) (lt-ltb _ _ r.value)))
    (and_from _ _ (steps_test v.kind v.step (suc l.steps) r.first_step r.later_step r.steps)
    (none_test v.kind v.value r.no_value))
