use Rattle.std.proofs.Common.{is_none, sym, ◌∙◌, subst, arith}
use Rattle.protocol.specs.Vote.{Vote}
use Rattle.protocol.proofs.Ranges.{Ranged, ranged}
use Rattle.wire.specs.Meaning.{vote_of}
use Rattle.cells.specs.Cells.{listed}
use Rattle.moves.specs.Moves.{OfMember}
use Rattle.moves.specs.Stands.{lim, Stands}
use Rattle.moves.proofs.Onward.{on_to_goes}
use Rattle.moves.proofs.state.Member.on_to.Goals as goal

pub overflow_add-vote : goal.overflow_add-vote
overflow_add-vote c =
    let r : Ranged (lim c.args.self) (vote_of c.args.vote) = ranged _ _ c.requires.vote in
    omega (arith, r.periods)

pub in_period-requires-clause-few_periods : goal.in_period-requires-clause-few_periods
in_period-requires-clause-few_periods c =
    let r : Ranged (lim c.args.self) (vote_of c.args.vote) = ranged _ _ c.requires.vote in
    omega (arith, r.periods)

pub returns-clause-is : goal.returns-clause-is
returns-clause-is c = λ m h.
    let x = c.args.self in
    let v : Vote = vote_of c.args.vote in
    subst (λ (y : OfMember). Stands c.in_period.result c.args.memory.now y)
    (sym (on_to_goes (lim x) v (listed c.args.start) (is_none c.args.start) m
    (omega (arith, c.if-vote-self.false, h.period))
    (sym (c.is_quorum.ensures.is m.votes h.votes) ∙ c.if-not-is_quorum.false)))
    (c.in_period.ensures.is c.args.memory.now m h)
