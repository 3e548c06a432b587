use Rattle.std.proofs.Common.{rules, tests, refl, ◌∙◌, ◌+◌, arith}
use Rattle.std.proofs.lemmas.Iterator.{YieldsList-from_range}
use Rattle.std.proofs.lemmas.Iterator.Search.{any_from_yields_List}
use Rattle.limits.specs.Limits.{limits_of}
use Rattle.protocol.specs.Promises.{all}
use Rattle.protocol.specs.Vote.{cert, has_quorum}
use Rattle.values.specs.Digits.{number_of}
use Rattle.tally.proofs.Certain.{any_period}
use Rattle.tally.proofs.decided.HeardVotes.certified.Goals as goal

pub returns : goal.returns
returns c =
    let l = limits_of all c.args.self.limits in
    let x = number_of c.args.value.limbs in
    record {
      is = λ vs h.
          any_from_yields_List (λ p. has_quorum l cert (p + 1) 0 x vs) _ _ c.any.result c.any.ensures.ran
          (YieldsList-from_range 0 l.periods l.periods refl (omega arith)) (λ p b q k. search (rules, tests))
          ∙ any_period l x vs l.periods;
    }
