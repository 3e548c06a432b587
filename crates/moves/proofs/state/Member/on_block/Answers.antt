use Rattle.std.proofs.Common.{ℕ, List, refl, ap, ◌∙◌}
use Rattle.moves.specs.Events.{Did}
use Rattle.moves.specs.Moves.{Same}
use Rattle.moves.specs.Parts.{OnlyIn, of_votes, of_header, of_rest}
use Rattle.moves.specs.Stands.{lim}
use Rattle.moves.specs.declared.state.Member.{Member}
use Rattle.protocol.specs.Member.{add_block}
use Rattle.values.specs.Values.{value_of}
use Rattle.moves.proofs.Coming.{block_done}
use Rattle.moves.proofs.Standing.{same_twice, same_lim, same_only}
use Rattle.moves.proofs.state.Member.on_block.Goals as goal

pub returns-clause-is : goal.returns-clause-is
returns-clause-is c =
    let x : Member = c.args.self in
    let y₁ : Member = c.with_blocks-after.result in
    let y₂ : Member = c.certainly-cert.result.0 in
    let y₃ : Member = c.agree_by_own-own.result in
    let y₄ : Member = c.agree_on_block-agreed.result in
    let s₁ : Same x y₁ = c.with_blocks-after.ensures.same in
    let s₂ : Same x y₂ = same_twice x y₁ y₂ s₁ c.certainly-cert.ensures.same in
    let s₃ : Same x y₃ = same_twice x y₂ y₃ s₂ c.agree_by_own-own.ensures.same in
    let mid : List ℕ = c.put_block.new.memory in
    let new : List ℕ = c.certainly-cert.new.memory in
    let v : ℕ = value_of c.args.value in (
      c.in_ok-count.ensures.is.1.1,
      λ m h ready.
          let done : Did y₄ new _ _ =
          block_done x y₁ y₂ y₃ y₄ (same_lim x y₁ s₁) (same_lim x y₂ s₂) (same_lim x y₃ s₃) mid new
          c.certainly-cert.result.1 v
          c.certainly-cert.ensures.is c.agree_by_own-own.ensures.is c.agree_on_block-agreed.ensures.is m ready
          (c.with_blocks-after.ensures.is c.args.memory.now mid _ m h c.put_block.ensures.only
          (c.in_ok-count.ensures.is.0 ∙ ap (add_block v) h.blocks)) in
          record { stands = done.stands; out = c.said.ensures.is ∙ done.out },
    )

pub returns-clause-only : goal.returns-clause-only
returns-clause-only c =
    let x : Member = c.args.self in
    let new : List ℕ = c.certainly-cert.new.memory in
    let then : OnlyIn of_votes (lim x) c.put_block.new.memory new =
    same_only x c.with_blocks-after.result c.with_blocks-after.ensures.same of_votes _ new
    c.certainly-cert.ensures.only in
    record {
      header = then of_header refl ∙ c.put_block.ensures.only of_header refl;
      rest = then of_rest refl ∙ c.put_block.ensures.only of_rest refl;
    }
