use Rattle.std.proofs.Common.{◌≡◌, ℕ, false, List, sym, refl, ap, ◌∙◌, subst, arith}
use Rattle.moves.specs.Events.{Did}
use Rattle.moves.specs.Stands.{lim}
use Rattle.moves.specs.declared.state.Member.{Member}
use Rattle.protocol.specs.Vote.{Vote, slot_taken}
use Rattle.protocol.specs.Member.{got_vote, place, does}
use Rattle.wire.specs.declared.votes.Vote as code-vote
use Rattle.wire.specs.Meaning.{vote_of, said_of}
use Rattle.member.proofs.Deciding.{vote-refused, vote_taken, refuse, done}
use Rattle.member.proofs.answers.answer_vote.Goals as goal

pub returns-in_default : goal.returns-in_default
unfolding place
returns-in_default c =
    let x : Member = c.args.member in
    let v : Vote = vote_of c.args.vote in
    record {
      is = λ m header stands ready.
          refuse x c.args.memory.now m (got_vote v) 3 _
          (vote-refused (lim x) m (λ k. refl) ready.open_minded v c.requires.vote (c.in_default.ensures.is m stands))
          refl header stands;
    }

pub returns : goal.returns
returns c =
    let x : Member = c.args.member in
    let y : Member = c.on_vote-said.result.0 in
    let v : Vote = vote_of c.args.vote in
    let mid : List ℕ = c.on_vote-said.new.memory in
    let same : c.in-Some.vote ≡ c.args.vote = c.in-Some.ensures.same in
    record {
      is = λ m header stands ready.
          let free = c.in-Some.ensures.is m stands in
          done x y c.args.memory.now mid c.says.new.memory m (got_vote v) c.says.result _
          (vote_taken (lim x) m (λ k. refl) ready.open_minded v c.requires.vote free.0 free.1)
          c.on_vote-said.ensures.same header c.on_vote-said.ensures.only (omega arith)
          (subst (λ (w : code-vote.Vote). Did y mid (said_of c.on_vote-said.result.1)
          (does (lim x) m (got_vote (vote_of w)))) same
          (c.on_vote-said.ensures.is m stands ready
          (subst (λ (w : code-vote.Vote). slot_taken (vote_of w) m.votes ≡ false) (sym same) free.0)
          (λ h. free.1 (ap (λ (w : code-vote.Vote). w.from) (sym same) ∙ h))))
          c.says.ensures.is c.says.ensures.carries c.says.ensures.only;
    }
