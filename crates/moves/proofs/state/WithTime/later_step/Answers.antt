use Rattle.std.proofs.Common.{◌≡◌, ℕ, suc, false, List, sym, ◌∙◌, subst, ap₂, arith}
use Rattle.protocol.specs.Vote.{Vote, slot_taken}
use Rattle.protocol.specs.Member.{own, at_step, with_vote, chosen, next_vote}
use Rattle.protocol.proofs.Ranges.{range_test}
use Rattle.values.specs.Values.{value_of}
use Rattle.wire.specs.Meaning.{kind_number}
use Rattle.moves.specs.Stands.{lim, Stands}
use Rattle.moves.specs.declared.state.Member as code
use Rattle.moves.proofs.Saying.{next-in_range}
use Rattle.moves.proofs.state.WithTime.later_step.Goals as goal

pub say-vote-requires-clause-vote : goal.say-vote-requires-clause-vote
say-vote-requires-clause-vote c =
    let y : code.Member = c.next_step-member.result in
    range_test (lim y) _ (next-in_range y c.goes_on-kind.result.0 c.goes_on-kind.result.1 y.step
    c.goes_on-kind.ensures.kind (omega arith) (omega (arith, y.few_steps))
    (omega (arith, y.few_periods, c.next_step-member.ensures.step)))

pub returns-clause-is : goal.returns-clause-is
returns-clause-is c = λ m h free.
    let x : code.Member = c.args.self.member in
    let y : code.Member = c.next_step-member.result in
    let mem : List ℕ = c.args.memory.now in
    let new : List ℕ = c.say-vote.new.memory in
    let k : ℕ = kind_number c.goes_on-kind.result.0 in
    let v : ℕ = value_of c.goes_on-kind.result.1 in
    let there : Stands y mem (at_step (suc m.step) m) = c.next_step-member.ensures.is mem m h in
    let vote : own m k y.step v ≡ next_vote m (suc m.step) (chosen (lim x) m) =
    sym (c.goes_on-kind.ensures.is mem m y.step h) ∙ ap₂ (next_vote m) there.step (c.chosen.ensures.is m h) in
    let slot : slot_taken (own m k y.step v) m.votes ≡ false =
    subst (λ (w : Vote). slot_taken w m.votes ≡ false) (sym vote) free in
    record {
      stands = subst (λ (w : Vote). Stands y new (with_vote w (at_step (suc m.step) m))) vote
          (c.say-vote.ensures.is (at_step (suc m.step) m) there slot);
      vote = c.say-vote.ensures.said (at_step (suc m.step) m) there ∙ vote;
    }
