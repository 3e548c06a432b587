use Rattle.std.proofs.Common.{◌≡◌, ℕ, true, List, get_or, IfOk, Result, rules, w8, Fits}
use Rattle.values.proofs.Places.{under_by_places}
use Rattle.protocol.specs.Member.{Answer}
use Rattle.wire.specs.Bytes.{answer_in}
use Rattle.wire.specs.Statements.{sayable}
use Rattle.wire.proofs.AnswersSpelled.{answer_fits}
use Rattle.wire.proofs.answers.read_answer.Goals as goal

-- what is read can be said, since each byte fits
fits_in : (bs : List ℕ) (r : Result Answer ℕ) → ((i : ℕ) → Fits w8 (get_or bs i 0)) → r ≡ answer_in bs →
    IfOk r (λ a. sayable a ≡ true)
fits_in bs r typed is = answer_fits bs r (under_by_places 256 bs (λ i. (typed i).fits)) is

pub returns-in_ok-reaches-in-Some-eq0-clause-fits : goal.returns-in_ok-reaches-in-Some-eq0-clause-fits
unfolding answer_in
returns-in_ok-reaches-in-Some-eq0-clause-fits c = fits_in c.args.bytes.now _ c.type_inv.bytes (search rules)

pub returns-in_ok-reaches-in-Some-eq1-clause-fits : goal.returns-in_ok-reaches-in-Some-eq1-clause-fits
unfolding answer_in
returns-in_ok-reaches-in-Some-eq1-clause-fits c = fits_in c.args.bytes.now _ c.type_inv.bytes (search rules)
