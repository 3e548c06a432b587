-- What a member says when time is up.
use Rattle.std.proofs.Common.{◌≡◌, ℕ, suc, ◌≤◌, true, false, List, [], ◌∷◌, Some, None, Option, sym, refl, ap, ◌∙◌}
use Rattle.std.proofs.Common.{arith}
use Rattle.std.specs.Option.{unwrap_or}
use Rattle.std.proofs.lemmas.Bool.{cond-true, cond-false}
use Rattle.protocol.specs.Vote.{soft, next, next_none}
use Rattle.protocol.specs.Member.{Member, own, silent, at_step, with_vote, soft_value, say_soft, next_vote}
use Rattle.protocol.specs.Member.{first_or_zero}
use Rattle.protocol.proofs.Ranges.{Ranged}
use Rattle.values.specs.declared.value.Value.{Value}
use Rattle.values.specs.Values.{value_of}
use Rattle.values.proofs.Limbs.{value_below}
use Rattle.wire.specs.declared.votes.Kind.{Kind}
use Rattle.wire.specs.declared.votes.Kind.TheVariants.{Soft, Cert, Next, NextNone}
use Rattle.wire.specs.Meaning.{kind_number}
use Rattle.cells.specs.Cells.{listed}
use Rattle.moves.specs.Moves.{own_vote, GoesOn}
use Rattle.moves.specs.Stands.{lim}
use Rattle.moves.specs.declared.state.Member as code

module _ (m : Member) (s : ℕ) (o : Option Value) where
  pub next-chosen : (v : Value) → o ≡ Some v → next_vote m s (listed o) ≡ own m next s (value_of v)
  unfolding next_vote
  next-chosen v e = ap (λ (p : Option Value). next_vote m s (listed p)) e

  pub next-free : (x : ℕ) → o ≡ None → m.free ≡ true → x ≡ 0 → next_vote m s (listed o) ≡ own m next_none s x
  unfolding next_vote
  next-free x e free zero =
      ap (λ (p : Option Value). next_vote m s (listed p)) e
      ∙ cond-true m.free (own m next_none s 0) (own m next s (first_or_zero m.start)) free
      ∙ ap (own m next_none s) (sym zero)

  pub next_start : (xs : List ℕ) → o ≡ None → m.free ≡ false → m.start ≡ xs →
      next_vote m s (listed o) ≡ own m next s (first_or_zero xs)
  unfolding next_vote
  next_start xs e free start =
      ap (λ (p : Option Value). next_vote m s (listed p)) e
      ∙ cond-false m.free (own m next_none s 0) (own m next s (first_or_zero m.start)) free
      ∙ ap (λ (ys : List ℕ). own m next s (first_or_zero ys)) start

-- its starting value, or zero
pub first_or : (o : Option Value) (z : Value) → value_of z ≡ 0 → first_or_zero (listed o) ≡ value_of (unwrap_or o z)
unfolding first_or_zero
first_or None z zero = sym zero
first_or (Some v) z zero = refl

-- the soft vote: none, or one
pub soft-none : (m : Member) → soft_value m ≡ [] → say_soft (soft_value m) (silent (at_step 1 m)) ≡ silent (at_step 1 m)
unfolding say_soft
soft-none m e = ap (λ (xs : List ℕ). say_soft xs (silent (at_step 1 m))) e

pub soft_one : (m : Member) (x : ℕ) → soft_value m ≡ x ∷ [] →
    say_soft (soft_value m) (silent (at_step 1 m)) ≡ record
    { member = with_vote (own m soft 0 x) (at_step 1 m); out = own m soft 0 x ∷ [] }
unfolding say_soft
soft_one m x e = ap (λ (xs : List ℕ). say_soft xs (silent (at_step 1 m))) e

-- a vote of one's own to go on is in range
pub next-in_range : (x : code.Member) (k : Kind) (v : Value) (s : ℕ) → GoesOn k v → 2 ≤ s → s ≤ suc x.limits.steps →
    x.period ≤ x.limits.periods → Ranged (lim x) (own_vote x (kind_number k) s (value_of v))
next-in_range x Soft v s goes low high few = absurd goes
next-in_range x Cert v s goes low high few = absurd goes
next-in_range x Next v s goes low high few = record {
  kinds = omega arith;
  from_1 = x.some_period;
  periods = few;
  member = x.member;
  value = value_below v.limbs v.four v.fit;
  first_step = λ h. absurd (omega arith);
  later_step = λ h. low;
  steps = λ h. high;
  no_value = λ h. absurd (omega arith);
}
next-in_range x NextNone v s goes low high few = record {
  kinds = omega arith;
  from_1 = x.some_period;
  periods = few;
  member = x.member;
  value = value_below v.limbs v.four v.fit;
  first_step = λ h. absurd (omega arith);
  later_step = λ h. low;
  steps = λ h. high;
  no_value = λ h. goes;
}
