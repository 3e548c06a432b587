use Rattle.std.proofs.Common.{ℕ, Bool, cond, not, rules, ◌∙◌, of_calls, tests, arith}
use Rattle.std.proofs.lemmas.Iterator.{YieldsList-from_range, YieldsList-from_map}
use Rattle.std.proofs.lemmas.Iterator.Consumers.{YieldsList-at, sum_by_from_yields_List, fits_by_from_yields_list}
use Rattle.network.specs.Members.{has}
use Rattle.network.proofs.Apart.{how_many_sum, how_many_few}
use Rattle.network.proofs.members.Members.others_below.Goals as goal

pub sum-requires : goal.sum-requires
sum-requires c =
    let p : ℕ → Bool = λ (i : ℕ). not (has c.args.self.bits i) in
    record {
      can = search of_calls;
      finite = search of_calls;
      fits = fits_by_from_yields_list _ _ c.map.result _
          (YieldsList-from_map _ (λ (i : ℕ). cond (p i) 1 0)
          (YieldsList-at c.map.ensures.source (YieldsList-from_range 0 c.args.end c.args.end (cc) (omega arith)))
          c.map.ensures.closure (λ x r q k. search (rules, tests)))
          (omega (arith, how_many_sum p c.args.end, how_many_few p c.args.end));
    }

pub returns-clause-is : goal.returns-clause-is
returns-clause-is c =
    sum_by_from_yields_List _ _ c.map.result _ c.sum.ensures.ran
    (YieldsList-from_map _ (λ (i : ℕ). cond (not (has c.args.self.bits i)) 1 0)
    (YieldsList-at c.map.ensures.source (YieldsList-from_range 0 c.args.end c.args.end (cc) (omega arith)))
    c.map.ensures.closure (λ x r q k. search (rules, tests)))
    ∙ how_many_sum _ c.args.end

pub returns-clause-few : goal.returns-clause-few
returns-clause-few c =
    omega (arith, returns-clause-is c, how_many_few (λ i. not (has c.args.self.bits i)) c.args.end)
