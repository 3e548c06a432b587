use Rattle.std.proofs.Common.{◌≡◌, ℕ, Bool, true, false, not, List, [], is_some as option_is_some, Some, None, Option}
use Rattle.std.proofs.Common.{sym, ap}
use Rattle.std.proofs.Common.{subst, MatchOption}
use Rattle.std.specs.Bool.{then_some}
use Rattle.std.proofs.lemmas.Bool.{true≢false}
use Rattle.protocol.specs.Member.{is_some}
use Rattle.values.specs.declared.value.Value.{Value}
use Rattle.wire.specs.declared.events.Event.{Event}
use Rattle.cells.specs.Cells.{listed}
use Rattle.member.proofs.checks.undecided.Goals as goal

before_it_agreed : (o : Option Value) (xs : List ℕ) (none : Bool) (e : Event) → listed o ≡ xs →
    option_is_some o ≡ not none → MatchOption (then_some none e) (is_some xs ≡ true) (λ _. xs ≡ [])
unfolding is_some
before_it_agreed None xs true e h k = sym h
before_it_agreed None xs false e h k = absurd (true≢false (sym k))
before_it_agreed (Some v) xs true e h k = absurd (true≢false k)
before_it_agreed (Some v) xs false e h k = ap is_some (sym h)

pub returns-clause-is : goal.returns-clause-is
returns-clause-is c = λ mem m h.
    subst (λ (o : Option Event). MatchOption o (is_some m.agreed ≡ true) (λ _. m.agreed ≡ [])) (sym c.then_some.ensures)
    (before_it_agreed c.args.member.agreed m.agreed _ c.args.event h.agreed c.is_none.ensures)
