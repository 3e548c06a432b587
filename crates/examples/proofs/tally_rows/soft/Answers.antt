use Rattle.std.proofs.Common.{◌≡◌, arith}
use Rattle.limits.specs.Limits.{limits_of}
use Rattle.protocol.specs.Promises.{all}
use Rattle.values.proofs.Limbs.{value_below}
use Rattle.tally.proofs.Index.{alone_good, vote-good}
use Rattle.examples.proofs.tally_rows.soft.Goals as goal

pub invariant_of-result : goal.invariant_of-result
invariant_of-result c =
    let l = limits_of all c.args.limits in
    let x = c.value.result in
    let kind : c.into.result ≡ 0 = c.into.ensures in
    record {
      in_range = vote-good l _ (rw kind (alone_good l 0 1 (omega arith) (omega arith) c.args.limits.some_period))
          c.requires.from (value_below x.limbs x.four x.fit) (λ e. omega (arith, e, kind));
    }
