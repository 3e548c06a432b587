use Rattle.std.proofs.Common.{ℕ, List, refl, ◌∙◌}
use Rattle.protocol.specs.Vote.{Vote}
use Rattle.wire.specs.Meaning.{vote_of}
use Rattle.moves.specs.Events.{Did}
use Rattle.moves.specs.Moves.{Same}
use Rattle.moves.specs.Parts.{OnlyIn, of_votes, of_header, of_rest}
use Rattle.moves.specs.Stands.{lim}
use Rattle.moves.specs.declared.state.Member.{Member}
use Rattle.moves.proofs.Coming.{vote_done}
use Rattle.moves.proofs.Standing.{heard, same_twice, same_lim, same_only}
use Rattle.moves.proofs.state.Member.on_vote.Goals as goal

pub returns-clause-is : goal.returns-clause-is
returns-clause-is c = λ m h ready free other.
    let x : Member = c.args.self in
    let y₁ : Member = c.onward-after.result in
    let y₂ : Member = c.certainly-cert.result.0 in
    let y₃ : Member = c.agree_by_own-own.result in
    let y₄ : Member = c.agree_by-agreed.result in
    let s₁ : Same x y₁ = c.onward-after.ensures.same in
    let s₂ : Same x y₂ = same_twice x y₁ y₂ s₁ c.certainly-cert.ensures.same in
    let s₃ : Same x y₃ = same_twice x y₂ y₃ s₂ c.agree_by_own-own.ensures.same in
    let mid : List ℕ = c.hear_vote.new.memory in
    let new : List ℕ = c.certainly-cert.new.memory in
    let v : Vote = vote_of c.args.vote in
    let done : Did y₄ new _ _ =
    vote_done x y₁ y₂ y₃ y₄ (same_lim x y₁ s₁) (same_lim x y₂ s₂) (same_lim x y₃ s₃) mid new
    c.certainly-cert.result.1 v
    c.onward-after.ensures.is c.certainly-cert.ensures.is c.agree_by_own-own.ensures.is
    c.agree_by-agreed.ensures.is m ready other
    (heard x c.args.memory.now mid m h v (c.hear_vote.ensures.is m.votes h.votes free) c.hear_vote.ensures.only) in
    record { stands = done.stands; out = c.said.ensures.is ∙ done.out }

pub returns-clause-only : goal.returns-clause-only
returns-clause-only c =
    let x : Member = c.args.self in
    let new : List ℕ = c.certainly-cert.new.memory in
    let then : OnlyIn of_votes (lim x) c.hear_vote.new.memory new =
    same_only x c.onward-after.result c.onward-after.ensures.same of_votes _ new c.certainly-cert.ensures.only in
    record {
      header = then of_header refl ∙ c.hear_vote.ensures.only of_header refl;
      rest = then of_rest refl ∙ c.hear_vote.ensures.only of_rest refl;
    }
