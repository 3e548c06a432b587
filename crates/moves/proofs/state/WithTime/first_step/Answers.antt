use Rattle.std.proofs.Common.{◌≡◌, ℕ, suc, List, [], ◌∷◌, sym, ap, ◌∙◌, subst, arith}
use Rattle.protocol.specs.Vote.{soft, Vote}
use Rattle.protocol.specs.Member.{Outcome, own, silent, at_step, with_vote, soft_value, say_soft}
use Rattle.protocol.proofs.Ranges.{range_test}
use Rattle.values.specs.Values.{value_of}
use Rattle.moves.specs.Moves.{OfMember}
use Rattle.moves.specs.Stands.{lim, Stands}
use Rattle.moves.specs.declared.state.Member as code
use Rattle.moves.proofs.Certainly.{first_in_range}
use Rattle.moves.proofs.Saying.{soft-none, soft_one}
use Rattle.moves.proofs.state.WithTime.first_step.Goals as goal

-- the step after the first
second : (y : code.Member) (mem : List ℕ) (m : OfMember) → m.step ≡ 0 → Stands y mem (at_step (suc m.step) m) →
    Stands y mem (at_step 1 m)
second y mem m first h = subst (λ (s : ℕ). Stands y mem (at_step (suc s) m)) first h

pub returns-in_default-clause-is : goal.returns-in_default-clause-is
returns-in_default-clause-is c = λ m h free.
    let y : code.Member = c.next_step-member.result in
    let mem : List ℕ = c.args.memory.now in
    let none : say_soft (soft_value m) (silent (at_step 1 m)) ≡ silent (at_step 1 m) =
    soft-none m (sym (c.in_default.ensures.is m h)) in
    record {
      stands = subst (λ (d : Outcome). Stands y mem d.member) (sym none)
          (second y mem m (sym h.step ∙ c.requires.first) (c.next_step-member.ensures.is mem m h));
      out = sym (ap (λ (d : Outcome). d.out) none);
    }

pub say-vote-requires-clause-vote : goal.say-vote-requires-clause-vote
say-vote-requires-clause-vote c =
    let y : code.Member = c.next_step-member.result in
    range_test (lim y) _ (first_in_range y soft c.in-Some.value (omega arith)
    (omega (arith, y.few_periods, c.next_step-member.ensures.step)))

pub returns-clause-is : goal.returns-clause-is
returns-clause-is c = λ m h free.
    let y : code.Member = c.next_step-member.result in
    let mem : List ℕ = c.args.memory.now in
    let new : List ℕ = c.say-vote.new.memory in
    let v : ℕ = value_of c.in-Some.value in
    let there : Stands y mem (at_step 1 m) =
    second y mem m (sym h.step ∙ c.requires.first) (c.next_step-member.ensures.is mem m h) in
    let said : say_soft (soft_value m) (silent (at_step 1 m))
    ≡ record { member = with_vote (own m soft 0 v) (at_step 1 m); out = own m soft 0 v ∷ [] } =
    soft_one m v (sym (c.in-Some.ensures.is m h)) in
    record {
      stands = subst (λ (d : Outcome). Stands y new d.member) (sym said)
          (c.say-vote.ensures.is (at_step 1 m) there (free v));
      out = ap (λ (w : Vote). w ∷ []) (c.say-vote.ensures.said (at_step 1 m) there)
          ∙ sym (ap (λ (d : Outcome). d.out) said);
    }
