use Rattle.std.proofs.Common.{◌≡◌, true, sym, refl, ◌∙◌, subst}
use Rattle.protocol.specs.Member.{Event, in_range}
use Rattle.wire.specs.declared.events.Event as code
use Rattle.wire.specs.Meaning.{event_of}
use Rattle.wire.proofs.Meaning.{real_event}
use Rattle.moves.specs.Stands.{lim}
use Rattle.moves.specs.declared.state.Member.{Member}
use Rattle.member.proofs.Answering.{out_of_range_is, agreed_before-is}
use Rattle.member.proofs.Deciding.{refuse, no_place}
use Rattle.member.proofs.answers.answer_to.Goals as goal

pub returns-in_default : goal.returns-in_default
returns-in_default c =
    let x : Member = c.args.member in
    let e : Event = event_of c.args.event in
    record {
      is = λ m header stands lone.
          refuse x c.args.memory.now m e 1 _
          (out_of_range_is (lim x) m e (real_event c.args.event) refl c.in_default.ensures.is)
          (no_place c.args.event _) header stands;
    }

pub returns-in_default-undecided : goal.returns-in_default-undecided
returns-in_default-undecided c =
    let x : Member = c.args.member in
    let e : Event = event_of c.args.event in
    record {
      is = λ m header stands lone.
          refuse x c.args.memory.now m e 2 _
          (agreed_before-is (lim x) m e (real_event c.args.event) refl c.in-Some.ensures.is.1
          (c.in_default-undecided.ensures.is c.args.memory.now m stands))
          (no_place c.args.event _) header stands;
    }

-- the event that passed the checks, at its case
was : (event good open' e : code.Event) → good ≡ event → open' ≡ good → open' ≡ e → event ≡ e
was event good open' e p q h = sym p ∙ sym q ∙ h

pub answer_vote-requires-clause-vote : goal.answer_vote-requires-clause-vote
unfolding in_range
answer_vote-requires-clause-vote c =
    subst (λ (e : code.Event). in_range (lim c.args.member) (event_of e) ≡ true)
    (was _ _ _ _ c.in-Some.ensures.is.0 c.in-Some-undecided.ensures.same c.in-Vote.is) c.in-Some.ensures.is.1
