use Rattle.std.proofs.Common.{◌≡◌, not, sym, ap, ◌∙◌, subst}
use Rattle.protocol.specs.Vote.{cert, Vote}
use Rattle.wire.specs.Meaning.{vote_of}
use Rattle.moves.specs.Moves.{OfMember, agree_by}
use Rattle.moves.specs.Stands.{lim, Stands}
use Rattle.moves.specs.declared.state.Member.{Member}
use Rattle.moves.proofs.Agreeing.{has_agreed, by_agreed, by_another_kind, by_too_few, by_no_block}
use Rattle.moves.proofs.Agreeing.{by_agrees, cert-quorum}
use Rattle.moves.proofs.state.Member.agree_by.Goals as goal
use Rattle.moves.proofs.state.Member.agree_by.Goals.{else-is_none-via-else-is_none}
use Rattle.moves.proofs.state.Member.agree_by.Goals.{else-is_none-via-then-is_none+else-vote-from}
use Rattle.moves.proofs.state.Member.agree_by.Goals.{else-is_none-via-then-is_none+then-vote-from+else-is_quorum}
use Rattle.moves.proofs.state.Member.agree_by.Goals.{else-is_none-via-then-is_none+then-vote-from+then-is_quorum+else-is_here}

pub returns-then-is_here-clause-is : goal.returns-then-is_here-clause-is
returns-then-is_here-clause-is c = λ m h.
    let x : Member = c.args.self in
    let v : Vote = vote_of c.args.vote in
    let kind : v.kind ≡ cert = c.if-vote-from.true ∙ c.from.ensures in
    subst (λ (y : OfMember). Stands c.having_agreed.result c.args.memory.now y)
    (sym (by_agrees (lim x) v m
    (has_agreed x.agreed m.agreed h.agreed ∙ c.is_none.ensures ∙ ap not c.if-is_none.true) kind
    (sym (cert-quorum (lim x) v m.votes c.requires.vote kind)
    ∙ sym (c.is_quorum.ensures.is m.votes h.votes) ∙ c.if-is_quorum.true)
    (sym (c.is_here.ensures.is m h) ∙ c.if-is_here.true)))
    (c.having_agreed.ensures.is c.args.memory.now m h)

pub returns-clause-is : goal.returns-clause-is
returns-clause-is c = λ m h.
    let x : Member = c.args.self in
    let v : Vote = vote_of c.args.vote in
    let stays : agree_by (lim x) v m ≡ m = elim c.else-is_none.branch [
      | else-is_none-via-then-is_none+then-vote-from+then-is_quorum+else-is_here w ↦
          by_no_block (lim x) v m (sym (w.is_here.ensures.is m h) ∙ w.if-is_here.false)
      | else-is_none-via-then-is_none+then-vote-from+else-is_quorum w ↦
          by_too_few (lim x) v m
          (sym (cert-quorum (lim x) v m.votes c.requires.vote (w.if-vote-from.true ∙ w.from.ensures))
          ∙ sym (w.is_quorum.ensures.is m.votes h.votes) ∙ w.if-is_quorum.false)
      | else-is_none-via-then-is_none+else-vote-from w ↦
          by_another_kind (lim x) v m (λ e. w.if-vote-from.false (e ∙ sym w.from.ensures))
      | else-is_none-via-else-is_none w ↦
          by_agreed (lim x) v m
          (has_agreed x.agreed m.agreed h.agreed ∙ c.is_none.ensures ∙ ap not w.if-is_none.false)
    ] in
    subst (λ (y : OfMember). Stands x c.args.memory.now y) (sym stays) h
