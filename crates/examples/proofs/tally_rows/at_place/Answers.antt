use Rattle.std.proofs.Common.{◌≡◌, ℕ, ◌-◌, true, ap, ◌∙◌, arith}
use Rattle.limits.specs.Limits.{limits_of}
use Rattle.protocol.specs.Promises.{all}
use Rattle.protocol.specs.Vote.{Limits}
use Rattle.values.proofs.Limbs.{value_below}
use Rattle.wire.specs.Meaning.{kind_number}
use Rattle.tally.specs.Layout.{slot_in_range}
use Rattle.tally.proofs.Index.{alone_good, onward-good, vote-good}
use Rattle.examples.proofs.tally_rows.at_place.Goals as goal
use Rattle.examples.proofs.tally_rows.at_place.Goals.{in-0, in-1, in-2-to-9, in_default}

slot_at : (l : Limits) (p k s k' s' : ℕ) → k ≡ k' → s ≡ s' → slot_in_range l k' p s' ≡ true →
    slot_in_range l k p s ≡ true
slot_at l p k s k' s' d e h = (λ i. slot_in_range l (d i) p (e i)) ∙ h

pub invariant_of-result : goal.invariant_of-result
invariant_of-result c =
    let l = limits_of all c.args.limits in
    let p = c.args.period in
    let x = c.zero.result in
    let k = c.into.result in
    let s = c.match-place.kind.1 in
    let some = c.requires.some in
    let few = c.requires.few in
    let kind = c.into.ensures in
    let slot : slot_in_range l k p s ≡ true =
    elim c.match-place.branch [
      | in-0 w ↦ slot_at l p k s 0 0
          (kind ∙ ap (λ t. kind_number t.0) w.kind-is) (ap (λ t. t.1) w.kind-is)
          (alone_good l 0 p (omega arith) some few)
      | in-1 w ↦ slot_at l p k s 1 0
          (kind ∙ ap (λ t. kind_number t.0) w.kind-is) (ap (λ t. t.1) w.kind-is)
          (alone_good l 1 p (omega arith) some few)
      | in-2-to-9 w ↦
          slot_at l p k s 2 c.args.place
          (kind ∙ ap (λ t. kind_number t.0) w.kind-is) (ap (λ t. t.1) w.kind-is)
          (onward-good l 2 p c.args.place (omega arith) (omega arith) some few
          (omega (arith, w.in-2-to-9)) (omega (arith, w.in-2-to-9, c.requires.steps)))
      | in_default w ↦
          slot_at l p k s 3 (c.args.place - 8)
          (kind ∙ ap (λ t. kind_number t.0) w.kind-is) (ap (λ t. t.1) w.kind-is)
          (onward-good l 3 p (c.args.place - 8) (omega arith) (omega arith) some few
          (omega (arith, w.in_default)) (omega (arith, w.in_default, c.requires.steps, c.requires.place)))
    ] in
    let below = value_below x.limbs x.four x.fit in
    record { in_range = vote-good l _ slot c.requires.from below (λ _. c.zero.ensures.is) }
