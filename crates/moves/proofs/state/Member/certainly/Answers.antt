use Rattle.std.proofs.Common.{◌≡◌, ℕ, false, List, [], ◌∷◌, sym, ap, ◌∙◌, subst, arith}
use Rattle.protocol.specs.Vote.{cert, Vote}
use Rattle.protocol.specs.Member.{Outcome, own, silent, with_vote, now_certain, certainly}
use Rattle.protocol.proofs.Ranges.{range_test}
use Rattle.values.specs.Values.{value_of}
use Rattle.moves.specs.Stands.{lim, Stands}
use Rattle.moves.specs.declared.state.Member as code
use Rattle.moves.proofs.Certainly.{certain-none, certain-says, first_in_range}
use Rattle.moves.proofs.state.Member.certainly.Goals as goal

pub returns-in_default-clause-is : goal.returns-in_default-clause-is
returns-in_default-clause-is c = λ m h fresh.
    let x : code.Member = c.args.self in
    let none : certainly (lim x) (silent m) ≡ silent m = certain-none (lim x) m (sym (c.in_default.ensures.is m h)) in (
      subst (λ (d : Outcome). Stands x c.args.memory.now d.member) (sym none) h,
      sym (ap (λ (d : Outcome). d.out) none),
    )

pub say-vote-requires-clause-vote : goal.say-vote-requires-clause-vote
say-vote-requires-clause-vote c =
    let x : code.Member = c.args.self in
    range_test (lim x) _ (first_in_range x cert c.in-Some.value (omega arith) (omega (arith, x.few_periods)))

pub returns-clause-is : goal.returns-clause-is
returns-clause-is c = λ m h fresh.
    let x : code.Member = c.args.self in
    let new : List ℕ = c.say-vote.new.memory in
    let y : ℕ = value_of c.in-Some.value in
    let v : Vote = own m cert 0 y in
    let step : m.step ≡ 1 = sym h.step ∙ c.if-self-ne1.false in
    let not_yet : m.certain ≡ false = sym h.certain ∙ c.if-self.false in
    let said : certainly (lim x) (silent m) ≡ record { member = with_vote v (now_certain m); out = v ∷ [] } =
    certain-says (lim x) m y step not_yet (sym (c.in-Some.ensures.is m h)) in (
      subst (λ (d : Outcome). Stands c.now_certain.result new d.member) (sym said)
          (c.now_certain.ensures.is new (with_vote v m) (c.say-vote.ensures.is m h (fresh y step not_yet))),
      ap (λ (w : Vote). w ∷ []) (c.say-vote.ensures.said m h) ∙ sym (ap (λ (d : Outcome). d.out) said),
    )
