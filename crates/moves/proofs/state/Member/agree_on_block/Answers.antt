use Rattle.std.proofs.Common.{◌≡◌, ℕ, not, sym, ap, ◌∙◌, subst}
use Rattle.values.specs.Values.{value_of}
use Rattle.moves.specs.Moves.{OfMember, agree_block}
use Rattle.moves.specs.Stands.{lim, Stands}
use Rattle.moves.specs.declared.state.Member.{Member}
use Rattle.moves.proofs.Agreeing.{has_agreed, block_agreed, block_nothing, block_agrees}
use Rattle.moves.proofs.state.Member.agree_on_block.Goals as goal
use Rattle.moves.proofs.state.Member.agree_on_block.Goals.{else-is_none-via-then-is_none+else-is_certified}
use Rattle.moves.proofs.state.Member.agree_on_block.Goals.{else-is_none-via-else-is_none}

pub returns-then-is_certified-clause-is : goal.returns-then-is_certified-clause-is
returns-then-is_certified-clause-is c = λ m h.
    subst (λ (y : OfMember). Stands c.having_agreed.result c.args.memory.now y)
    (sym (block_agrees (lim c.args.self) (value_of c.args.value) m
    (has_agreed c.args.self.agreed m.agreed h.agreed ∙ c.is_none.ensures ∙ ap not c.if-is_none.true)
    (sym (c.is_certified.ensures.is m h) ∙ c.if-is_certified.true)))
    (c.having_agreed.ensures.is c.args.memory.now m h)

pub returns-clause-is : goal.returns-clause-is
returns-clause-is c = λ m h.
    let x : Member = c.args.self in
    let v : ℕ = value_of c.args.value in
    let stays : agree_block (lim x) v m ≡ m = elim c.else-is_none.branch [
      | else-is_none-via-then-is_none+else-is_certified w ↦
          block_nothing (lim x) v m (sym (w.is_certified.ensures.is m h) ∙ w.if-is_certified.false)
      | else-is_none-via-else-is_none w ↦
          block_agreed (lim x) v m
          (has_agreed x.agreed m.agreed h.agreed ∙ c.is_none.ensures ∙ ap not w.if-is_none.false)
    ] in
    subst (λ (y : OfMember). Stands x c.args.memory.now y) (sym stays) h
