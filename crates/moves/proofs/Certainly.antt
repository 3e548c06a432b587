-- Being certain, and votes of one's own.
use Rattle.std.proofs.Common.{◌≡◌, ℕ, ◌<◌, ◌≤◌, Bool, true, false, cond, not, ◌&&◌, eqb, List, [], ◌∷◌, refl, ap}
use Rattle.std.proofs.Common.{◌∙◌, arith}
use Rattle.std.proofs.lemmas.Bool.{and_from, eq-eqb, not_from_false, cond-true}
use Rattle.protocol.specs.Vote.{cert, next, Limits}
use Rattle.protocol.specs.Member.{Member, Outcome, own, silent, with_vote, now_certain, chosen, say_cert}
use Rattle.protocol.specs.Member.{certainly}
use Rattle.protocol.proofs.Ranges.{Ranged}
use Rattle.values.specs.declared.value.Value.{Value}
use Rattle.values.specs.Values.{value_of}
use Rattle.values.proofs.Limbs.{value_below}
use Rattle.moves.specs.Moves.{own_vote}
use Rattle.moves.specs.Stands.{lim}
use Rattle.moves.specs.declared.state.Member as code

module _ (l : Limits) (m : Member) where
  pub certain-none : chosen l m ≡ [] → certainly l (silent m) ≡ silent m
  unfolding say_cert
  certain-none h =
      both (eqb m.step 1 && not m.certain) (ap (λ (xs : List ℕ). say_cert xs (silent m)) h)
    where
      both : (b : Bool) {d : Outcome} → d ≡ silent m → cond b d (silent m) ≡ silent m
      both true e = e
      both false e = refl

  pub certain-says : (x : ℕ) → m.step ≡ 1 → m.certain ≡ false → chosen l m ≡ x ∷ [] →
      certainly l (silent m) ≡ record { member = with_vote (own m cert 0 x) (now_certain m); out = own m cert 0 x ∷ [] }
  unfolding say_cert
  certain-says x s c h =
      cond-true (eqb m.step 1 && not m.certain) (say_cert (chosen l m) (silent m)) (silent m)
      (and_from _ _ (eq-eqb m.step 1 s) (not_from_false _ c))
      ∙ ap (λ (xs : List ℕ). say_cert xs (silent m)) h

-- a vote of one's own that is for a value is in range: soft or cert, and to go on
pub first_in_range : (x : code.Member) (k : ℕ) (v : Value) → k < next → x.period ≤ x.limits.periods →
    Ranged (lim x) (own_vote x k 0 (value_of v))
first_in_range x k v first few = record {
  kinds = omega arith;
  from_1 = x.some_period;
  periods = few;
  member = x.member;
  value = value_below v.limbs v.four v.fit;
  first_step = λ h. refl;
  later_step = λ h. absurd (omega arith);
  steps = λ h. absurd (omega arith);
  no_value = λ h. absurd (omega arith);
}
