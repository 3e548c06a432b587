use Rattle.std.proofs.Common.{◌≡◌, ◌<◌, ◌≤◌, ◌⊎◌, Ok, rules, sym, ap, ◌∙◌, inl, inr, arith}
use Rattle.std.proofs.lemmas.Bool.{eqb-true, eqb-false}
use Rattle.protocol.specs.Vote.{next, next_none, Vote}
use Rattle.protocol.specs.Promises.{all}
use Rattle.protocol.proofs.Ranges.{ranged}
use Rattle.limits.specs.Limits.{limits_of}
use Rattle.wire.specs.Meaning.{kind_number, vote_of}
use Rattle.tally.proofs.KindOf.{is_kind, no_kind}
use Rattle.tally.proofs.InRange.{not_in_range, first_range, later_range}
use Rattle.tally.proofs.ranges.vote_in_range.Goals as goal

pub returns-in_default : goal.returns-in_default
returns-in_default c = record {
  is = not_in_range _ _ (λ r. no_kind _ _ c.args.vote.kind (ranged _ _ r).kinds
      (sym c.try_from.ensures ∙ c.in_default.is));
}

pub returns-then-not-contains : goal.returns-then-not-contains
returns-then-not-contains c =
    let v : Vote = vote_of c.args.vote in
    let l = c.args.limits in
    let out : ((v.period < 1) ⊎ (l.periods < v.period)) ⊎ (l.members ≤ v.from) = search rules in
    record {
      is = not_in_range _ v (λ good.
          let r = ranged _ v good in
          elim out [
            | inl (inl low) ↦ omega (arith, r.from_1)
            | inl (inr high) ↦ omega (arith, r.periods)
            | inr past ↦ omega (arith, r.member)
          ]);
    }

pub returns-in-Soft : goal.returns-in-Soft
returns-in-Soft c =
    let v : Vote = vote_of c.args.vote in
    let kind = is_kind _ v.kind c.in-Ok.kind (sym c.try_from.ensures ∙ c.in-Ok.is) in
    let first : v.kind < next =
    elim c.in-Soft.is [
      | inl e ↦ omega (arith, kind, ap kind_number e)
      | inr e ↦ omega (arith, kind, ap kind_number e)
    ] in
    record {
      is = first_range (limits_of all c.args.limits) c.args.vote (search rules) (search rules) (search rules) first;
    }

pub returns-in-Next : goal.returns-in-Next
returns-in-Next c =
    let v : Vote = vote_of c.args.vote in
    let kind : v.kind ≡ next = is_kind _ v.kind _ (sym c.try_from.ensures ∙ c.in-Ok.is ∙ ap Ok c.in-Next.is) in
    record {
      is = later_range (limits_of all c.args.limits) c.args.vote (search rules) (search rules) (search rules)
          c.is_later_step.result c.is_later_step.ensures.is
          (omega (arith, kind)) (omega (arith, kind)) (λ h. absurd (omega (arith, kind, h)));
    }

pub returns-then-is_zero : goal.returns-then-is_zero
returns-then-is_zero c =
    let v : Vote = vote_of c.args.vote in
    let kind : v.kind ≡ next_none = is_kind _ v.kind _ (sym c.try_from.ensures ∙ c.in-Ok.is ∙ ap Ok c.in-NextNone.is) in
    record {
      is = later_range (limits_of all c.args.limits) c.args.vote (search rules) (search rules) (search rules)
          c.is_later_step-then-is_zero.result c.is_later_step-then-is_zero.ensures.is
          (omega (arith, kind)) (omega (arith, kind)) (λ h. eqb-true v.value 0
          (sym c.is_zero.ensures.is ∙ c.if-is_zero.true));
    }

pub returns-else-is_zero : goal.returns-else-is_zero
returns-else-is_zero c =
    let v : Vote = vote_of c.args.vote in
    let kind : v.kind ≡ next_none = is_kind _ v.kind _ (sym c.try_from.ensures ∙ c.in-Ok.is ∙ ap Ok c.in-NextNone.is) in
    record {
      is = c.if-is_zero.false
          ∙ not_in_range _ v (λ r. eqb-false v.value 0 (sym c.is_zero.ensures.is ∙ c.if-is_zero.false)
          ((ranged _ v r).no_value kind));
    }
