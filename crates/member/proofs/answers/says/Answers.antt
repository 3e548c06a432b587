use Rattle.std.proofs.Common.{refl, sym, ◌∙◌, subst, arith}
use Rattle.limits.specs.declared.bounds.Limits.{Limits}
use Rattle.member.specs.Header.{Asks}
use Rattle.moves.specs.Stands.{lim}
use Rattle.moves.specs.declared.state.Member.{Member}
use Rattle.member.proofs.Answering.{only-header}
use Rattle.moves.proofs.Standing.{headed}
use Rattle.member.proofs.answers.says.Goals as goal

pub returns-clause-carries : goal.returns-clause-carries
returns-clause-carries c = λ z m header same stands.
    let x : Member = c.args.member in
    record {
      member = x;
      limits = refl;
      me = refl;
      header = c.store.ensures.is (subst (λ (l : Limits). Asks c.args.memory.now l) (sym same.limits) header.asks)
          (header.me ∙ sym same.me);
      stands = headed x c.args.memory.now c.store.new.memory m stands
          (only-header (lim x) c.args.memory.now c.store.new.memory c.store.ensures.only (omega arith));
    }

pub returns-clause-only : goal.returns-clause-only
returns-clause-only c =
    only-header (lim c.args.member) c.args.memory.now c.store.new.memory c.store.ensures.only (omega arith)
