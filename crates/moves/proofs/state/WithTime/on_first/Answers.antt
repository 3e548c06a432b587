use Rattle.std.proofs.Common.{◌≡◌, ℕ, List, sym, refl, ◌∙◌}
use Rattle.moves.specs.Events.{Did}
use Rattle.moves.specs.Moves.{Same}
use Rattle.moves.specs.Parts.{OnlyIn, of_votes, of_header, of_rest}
use Rattle.moves.specs.Stands.{lim}
use Rattle.moves.specs.declared.state.Member.{Member}
use Rattle.moves.proofs.Coming.{first_done}
use Rattle.moves.proofs.Standing.{same_twice, same_lim, same_only}
use Rattle.moves.proofs.state.WithTime.on_first.Goals as goal

pub returns-clause-is : goal.returns-clause-is
returns-clause-is c = λ m h ready.
    let x : Member = c.args.self.member in
    let y₁ : Member = c.first_step-soft.result.0 in
    let y₂ : Member = c.certainly-cert.result.0 in
    let y₃ : Member = c.agree_by_own-own.result in
    let s₁ : Same x y₁ = c.first_step-soft.ensures.same in
    let s₂ : Same x y₂ = same_twice x y₁ y₂ s₁ c.certainly-cert.ensures.same in
    let mid : List ℕ = c.first_step-soft.new.memory in
    let new : List ℕ = c.certainly-cert.new.memory in
    let step : m.step ≡ 0 = sym h.step ∙ c.requires.first in
    let done : Did y₃ new _ _ =
    first_done x y₁ y₂ y₃ (same_lim x y₁ s₁) (same_lim x y₂ s₂) mid new c.first_step-soft.result.1
    c.certainly-cert.result.1
    c.certainly-cert.ensures.is c.agree_by_own-own.ensures.is m ready step
    (c.first_step-soft.ensures.is m h (λ v. ready.fresh.soft_slot v step)) in
    record { stands = done.stands; out = c.said.ensures.is ∙ done.out }

pub returns-clause-only : goal.returns-clause-only
returns-clause-only c =
    let x : Member = c.args.self.member in
    let new : List ℕ = c.certainly-cert.new.memory in
    let then : OnlyIn of_votes (lim x) c.first_step-soft.new.memory new =
    same_only x c.first_step-soft.result.0 c.first_step-soft.ensures.same of_votes _ new
    c.certainly-cert.ensures.only in
    record {
      header = then of_header refl ∙ c.first_step-soft.ensures.only of_header refl;
      rest = then of_rest refl ∙ c.first_step-soft.ensures.only of_rest refl;
    }
