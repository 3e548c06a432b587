use Rattle.std.proofs.Common.{ℕ, ◌<◌, length, sym, ap, ◌∙◌, arith}
use Rattle.std.proofs.lemmas.Bool.{eqb-true, eqb-false}
use Rattle.std.proofs.lemmas.List.{take_all}
use Rattle.values.specs.Digits.{number_of}
use Rattle.values.specs.declared.value.Value.{Value}
use Rattle.tally.specs.Rows.{number_for}
use Rattle.tally.proofs.Majority.{leads_empty, leads_new, leads_more, leads_less, leads_at}
use Rattle.tally.proofs.rows.majority.Goals as goal
use Rattle.tally.proofs.rows.majority.Goals.{then-lead-eq0, else-lead-eq0+then-eq, else-lead-eq0+else-eq}

number : Value → ℕ
number v = number_of v.limbs

pub loop-entry-preserved-in_default : goal.loop-entry-preserved-in_default
loop-entry-preserved-in_default c =
    leads_empty c.args.row.now _ _ _ (omega arith) c.loop-entry.invariant c.in_default.ensures.is

pub loop-entry-preserved : goal.loop-entry-preserved
unfolding number
loop-entry-preserved c =
    let row = c.args.row.now in
    let h = c.loop-entry.invariant in
    let n = c.loop-entry.entry-index in
    let few : n < length row = omega arith in
    let a = number_of c.loop-entry.candidate.limbs in
    let y = number_of c.in-Some.vote.limbs in
    let heard = c.in-Some.ensures.is in
    elim c.if-lead-eq0.branch [
      | then-lead-eq0 w ↦
          leads_at row _ y _ 1 _ (leads_new row n a _ few h y heard w.if-lead-eq0.true) (ap number w.candidate-is)
          w.lead-is
      | else-lead-eq0+then-eq w ↦
          let same = eqb-true y a (sym w.eq.ensures ∙ w.if-eq.true) in
          leads_at row _ a _ _ _ (leads_more row n a _ few h y heard same) (ap number w.candidate-is) w.lead-is
      | else-lead-eq0+else-eq w ↦
          let other = eqb-false y a (sym w.eq.ensures ∙ w.if-eq.false) in
          leads_at row _ a _ _ _ (leads_less row n a _ few h y heard other (omega (arith, w.if-lead-eq0.false)))
          (ap number w.candidate-is) w.lead-is
    ]

pub returns : goal.returns
returns c =
    record {
      is = λ x other.
          let all = ap (number_for x) (take_all c.loop-entry.entry-index c.args.row.now (omega arith)) in
          omega (arith, all, c.loop-entry.invariant.others x other);
    }
