use Rattle.std.proofs.Common.{◌-◌, refl, arith}
use Rattle.moves.specs.Parts.{of_header, of_rest}
use Rattle.moves.specs.Stands.{lim}
use Rattle.moves.specs.declared.state.Member.{Member}
use Rattle.protocol.specs.Member.{chosen}
use Rattle.moves.proofs.Coming.{later_done, next_slot}
use Rattle.moves.proofs.Standing.{same_lim}
use Rattle.moves.proofs.state.WithTime.on_later.Goals as goal

pub returns-clause-is : goal.returns-clause-is
returns-clause-is c = λ m h ready.
    let x : Member = c.args.self.member in
    let y₁ : Member = c.later_step.result.0 in
    let y₂ : Member = c.onward-member.result in
    later_done x y₁ y₂ (same_lim x y₁ c.later_step.ensures.same) c.later_step.new.memory c.later_step.result.1
    c.onward-member.ensures.is m (m.step - 1) ready (omega (arith, h.step, c.requires.some_step))
    (c.later_step.ensures.is m h (next_slot (lim x) m (chosen (lim x) m) ready))

pub returns-clause-only : goal.returns-clause-only
returns-clause-only c = record {
  header = c.later_step.ensures.only of_header refl;
  rest = c.later_step.ensures.only of_rest refl;
}
