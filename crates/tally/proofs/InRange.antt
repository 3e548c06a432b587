-- Whether a vote is in range, by its kind. Assumes nothing.
use Rattle.std.proofs.Common.{◌≡◌, ℕ, ◌+◌, ◌<◌, ◌≤◌, Bool, true, false, eqb, Decides, sym, ap, ◌∙◌, ⊎_elim, arith}
use Rattle.std.proofs.lemmas.Bool.{eqb-true, eqb-false, cases_Bool}
use Rattle.protocol.specs.Vote.{next, next_none, value_bound, Vote, Limits}
use Rattle.protocol.specs.Member.{vote_in_range}
use Rattle.protocol.proofs.Ranges.{ranged}
use Rattle.values.proofs.Limbs.{value_below}
use Rattle.wire.specs.declared.votes.Vote as wire
use Rattle.wire.specs.Meaning.{vote_of}
use Rattle.tally.specs.Layout.{slot_in_range}
use Rattle.tally.proofs.Index.{alone_good, onward-good, vote-good}

pub not_in_range : (l : Limits) (v : Vote) → (vote_in_range l v ≡ true → ⊥) → false ≡ vote_in_range l v
not_in_range l v h = ⊎_elim (λ e. absurd (h e)) (λ e. sym e) (cases_Bool (vote_in_range l v))

-- any vote of the protocol
module _ (l : Limits) (v : Vote) (low : 1 ≤ v.period) (high : v.period ≤ l.periods) (from : v.from < l.members)
    (small : v.value < value_bound) where
  -- soft and cert votes
  pub any_first_range : v.kind < next → eqb v.step 0 ≡ vote_in_range l v
  any_first_range k =
      ⊎_elim (λ e. e ∙ sym (vote-good l v (at_zero (eqb-true v.step 0 e)) from small (λ h. absurd (omega arith))))
      (λ e. e ∙ not_in_range l v (λ good. eqb-false v.step 0 e ((ranged l v good).first_step k)))
      (cases_Bool (eqb v.step 0))
    where
      at_zero : v.step ≡ 0 → slot_in_range l v.kind v.period v.step ≡ true
      at_zero z = ap (slot_in_range l v.kind v.period) z ∙ alone_good l v.kind v.period k low high

  -- votes to go on
  pub any_later_range : (t : Bool) → Decides t ((2 ≤ v.step) × (v.step ≤ l.steps + 1)) → next ≤ v.kind →
      v.kind ≤ next_none → (v.kind ≡ next_none → v.value ≡ 0) → t ≡ vote_in_range l v
  any_later_range t d k few none =
      ⊎_elim (λ e. e ∙ sym (vote-good l v (onward-good l _ _ _ k few low high (d.0 e).0 (omega (arith, (d.0 e).1)))
      from small none))
      (λ e. e ∙ not_in_range l v (λ good. past e (d.1 (
        (ranged l v good).later_step k,
        omega (arith, (ranged l v good).steps k),
      ))))
      (cases_Bool t)
    where
      past : t ≡ false → t ≡ true → ⊥
      past e f = let z : ◌≡◌ {A = ℕ} 0 1 = cc in omega arith

-- a vote of the code, whose value is small by its type
module _ (l : Limits) (w : wire.Vote) (low : 1 ≤ w.period) (high : w.period ≤ l.periods)
    (from : w.from < l.members) where
  abbrev v : Vote
  v = vote_of w

  small : v.value < value_bound
  small = value_below w.value.limbs w.value.four w.value.fit

  -- soft and cert votes
  pub first_range : v.kind < next → eqb v.step 0 ≡ vote_in_range l v
  first_range k = any_first_range l v low high from small k

  -- votes to go on
  pub later_range : (t : Bool) → Decides t ((2 ≤ v.step) × (v.step ≤ l.steps + 1)) → next ≤ v.kind →
      v.kind ≤ next_none → (v.kind ≡ next_none → v.value ≡ 0) → t ≡ vote_in_range l v
  later_range t d k few none = any_later_range l v low high from small t d k few none
