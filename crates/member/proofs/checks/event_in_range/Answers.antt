use Rattle.std.proofs.Common.{◌≡◌, true, ◌⊎◌, inl, inr, sym, ap, ◌∙◌}
use Rattle.protocol.specs.Vote.{value_bound}
use Rattle.protocol.specs.Member.{in_range}
use Rattle.protocol.specs.Promises.{all}
use Rattle.limits.specs.Limits.{limits_of}
use Rattle.wire.specs.declared.events.Event as code
use Rattle.wire.specs.declared.events.Event.TheVariants.{Block, Timeout}
use Rattle.wire.specs.Meaning.{event_of}
use Rattle.values.specs.declared.value.Value.{Value}
use Rattle.values.specs.Values.{value_of}
use Rattle.values.proofs.Limbs.{value_below}
use Rattle.std.proofs.lemmas.Bool.{lt-ltb}
use Rattle.member.proofs.Ranges.{some_vote}
use Rattle.member.proofs.checks.event_in_range.Goals as goal

pub returns-in-Vote : goal.returns-in-Vote
unfolding in_range
returns-in-Vote c = record {
  is = c.is_some.ensures ∙ some_vote c.args.limits c.in-Vote.vote c.new.result c.new.ensures.is
      ∙ ap (λ (e : code.Event). in_range (limits_of all c.args.limits) (event_of e)) (sym c.in-Vote.is);
}

pub returns-in-Block : goal.returns-in-Block
unfolding in_range
returns-in-Block c = record { is = either c.in-Block.is }
  where
    either : ((x : Value) × (c.args.event ≡ Block x)) ⊎ (c.args.event ≡ Timeout) →
        true ≡ in_range (limits_of all c.args.limits) (event_of c.args.event)
    either (inl (x, e)) =
        sym (lt-ltb (value_of x) value_bound (value_below x.limbs x.four x.fit))
        ∙ ap (λ (e : code.Event). in_range (limits_of all c.args.limits) (event_of e)) (sym e)
    either (inr e) = ap (λ (e : code.Event). in_range (limits_of all c.args.limits) (event_of e)) (sym e)
