use Rattle.std.proofs.Common.{ℕ, false, List, ◌≡◌, sym, subst}
use Rattle.protocol.specs.Vote.{Vote, slot_taken}
use Rattle.protocol.specs.Member.{with_vote}
use Rattle.wire.specs.Meaning.{vote_of}
use Rattle.moves.specs.Stands.{Stands}
use Rattle.moves.specs.declared.state.Member.{Member}
use Rattle.moves.proofs.Standing.{heard}
use Rattle.moves.proofs.state.Member.say.Goals as goal

pub returns-clause-is : goal.returns-clause-is
returns-clause-is c = λ m h free.
    let x : Member = c.args.self in
    let mem : List ℕ = c.args.memory.now in
    let new : List ℕ = c.hear_vote.new.memory in
    let mine = c.own-vote.ensures.is mem m h in
    subst (λ (w : Vote). Stands x new (with_vote w m)) mine
    (heard x mem new m h (vote_of c.own-vote.result)
    (c.hear_vote.ensures.is m.votes h.votes
    (subst (λ (w : Vote). slot_taken w m.votes ≡ false) (sym mine) free))
    c.hear_vote.ensures.only)
