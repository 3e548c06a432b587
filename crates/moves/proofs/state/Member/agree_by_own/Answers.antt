use Rattle.std.proofs.Common.{sym, subst}
use Rattle.moves.specs.Moves.{OfMember}
use Rattle.moves.specs.Stands.{lim, Stands}
use Rattle.moves.proofs.Agreeing.{each_none, each_one}
use Rattle.moves.proofs.state.Member.agree_by_own.Goals as goal

pub returns-in-Some-clause-is : goal.returns-in-Some-clause-is
returns-in-Some-clause-is c = λ m h.
    subst (λ (y : OfMember). Stands c.agree_by.result c.args.memory.now y)
    (sym (each_one (lim c.args.self) m c.args.said c.in-Some.vote c.in-Some.is)) (c.agree_by.ensures.is m h)

pub returns-in-None-clause-is : goal.returns-in-None-clause-is
returns-in-None-clause-is c = λ m h.
    subst (λ (y : OfMember). Stands c.args.self c.args.memory.now y)
    (sym (each_none (lim c.args.self) m c.args.said c.in-None.is)) h
