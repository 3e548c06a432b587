use Rattle.std.proofs.Common.{◌≡◌, Ok, Err, Result, is_ok, sym, ap, ◌∙◌, subst, arith, MatchResult}
use Rattle.std.proofs.lemmas.Bool.{true≢false}
use Rattle.limits.specs.Limits.{Made}
use Rattle.limits.specs.declared.bounds.Limits.{Limits}
use Rattle.limits.specs.declared.bounds.Limit.{Limit}
use Rattle.member.specs.declared.calls.OpenError.{OpenError}
use Rattle.member.proofs.Fresh.{words_by_places, opening}
use Rattle.member.proofs.opening.open.Goals as goal

made_or : Limits → Result Limits OpenError → Limits
made_or other (Ok l) = l
made_or other (Err e) = other

-- the limits that were made, where their error only became another
same_ok : (r : Result Limits Limit) (q : Result Limits OpenError) (l : Limits) (P : Limit → Type 0) →
    MatchResult r (λ k. q ≡ Ok k) P → is_ok q ≡ is_ok r → q ≡ Ok l → r ≡ Ok l
unfolding made_or
same_ok (Ok k) q l P cases variant is = ap Ok (sym (ap (made_or k) cases) ∙ ap (made_or k) is)
same_ok (Err x) q l P cases variant is = absurd (true≢false (sym (ap is_ok is) ∙ variant))

pub returns : goal.returns
returns c =
    let made : Made c.args.members c.args.periods c.args.steps c.args.blocks (Ok c.in_ok-limits.limits) =
    subst (λ (r : Result Limits Limit). Made c.args.members c.args.periods c.args.steps c.args.blocks r)
    (same_ok c.new.result c.map_err.result c.in_ok-limits.limits _ c.map_err.ensures.cases c.map_err.ensures.variant
    c.in_ok-limits.was) c.new.ensures.is in
    record {
      is = (
        made.0,
        opening c.args.members c.args.periods c.args.steps c.args.blocks c.args.me c.in_ok-limits.limits
            c.args.memory.now c.write_new.new.memory made.1 (omega (arith, c.if-me-limits.false, made.1.0))
            c.write_new.ensures.is c.write_new.ensures.rest (omega arith)
            (words_by_places c.write_new.new.memory (λ i. (c.type_inv.memory i).fits)),
      );
    }
