use Rattle.std.proofs.Common.{Ok, sym, ap, ◌∙◌, subst}
use Rattle.protocol.specs.Vote.{Vote}
use Rattle.protocol.proofs.Ranges.{ranged}
use Rattle.wire.specs.Meaning.{vote_of}
use Rattle.wire.specs.declared.votes.Kind.TheVariants.{Next, NextNone}
use Rattle.moves.specs.Moves.{OfMember}
use Rattle.moves.specs.Stands.{lim, Stands}
use Rattle.tally.proofs.KindOf.{is_kind, no_kind}
use Rattle.moves.proofs.Onward.{onward-next, onward-none}
use Rattle.moves.proofs.state.Member.onward.Goals as goal

pub returns-in-Ok-Next-clause-is : goal.returns-in-Ok-Next-clause-is
returns-in-Ok-Next-clause-is c = λ m h.
    let v : Vote = vote_of c.args.vote in
    subst (λ (y : OfMember). Stands c.on_to.result c.args.memory.now y)
    (sym (onward-next (lim c.args.self) v m
    (is_kind _ v.kind Next (sym c.try_from.ensures ∙ c.in-Ok-Next.is ∙ ap Ok c.in-Ok-Next.field-0-is))))
    (c.on_to.ensures.is m h)

pub returns-in-Ok-NextNone-clause-is : goal.returns-in-Ok-NextNone-clause-is
returns-in-Ok-NextNone-clause-is c = λ m h.
    let v : Vote = vote_of c.args.vote in
    subst (λ (y : OfMember). Stands c.on_to-in-Ok-NextNone.result c.args.memory.now y)
    (sym (onward-none (lim c.args.self) v m
    (is_kind _ v.kind NextNone (sym c.try_from.ensures ∙ c.in-Ok-NextNone.is ∙ ap Ok c.in-Ok-NextNone.field-0-is))))
    (c.on_to-in-Ok-NextNone.ensures.is m h)

pub returns-in-Err-clause-is : goal.returns-in-Err-clause-is
returns-in-Err-clause-is c =
    absurd (no_kind _ _ c.args.vote.kind (ranged _ _ c.requires.vote).kinds (sym c.try_from.ensures ∙ c.in-Err.is))
