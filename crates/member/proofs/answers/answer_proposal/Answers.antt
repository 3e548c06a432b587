use Rattle.std.proofs.Common.{refl, arith}
use Rattle.moves.specs.Stands.{lim}
use Rattle.moves.specs.declared.state.Member.{Member}
use Rattle.protocol.specs.Member.{got_proposal}
use Rattle.wire.specs.Meaning.{proposal_of}
use Rattle.member.proofs.Deciding.{proposal_taken, done}
use Rattle.cells.proofs.InRange.{proposal_periods}
use Rattle.member.proofs.answers.answer_proposal.Goals as goal

pub on_proposal-said-requires-clause-some : goal.on_proposal-said-requires-clause-some
on_proposal-said-requires-clause-some c =
    (proposal_periods (lim c.args.member) (proposal_of c.args.proposal) c.requires.proposal).0

pub on_proposal-said-requires-clause-few : goal.on_proposal-said-requires-clause-few
on_proposal-said-requires-clause-few c =
    (proposal_periods (lim c.args.member) (proposal_of c.args.proposal) c.requires.proposal).1

pub returns : goal.returns
returns c =
    let x : Member = c.args.member in
    let y : Member = c.on_proposal-said.result.0 in
    record {
      is = λ m header stands ready.
          done x y c.args.memory.now c.on_proposal-said.new.memory c.says.new.memory m
          (got_proposal (proposal_of c.args.proposal))
          c.says.result _
          (proposal_taken (lim x) m (λ k. refl) ready.open_minded (proposal_of c.args.proposal) c.requires.proposal)
          c.on_proposal-said.ensures.same header c.on_proposal-said.ensures.only (omega arith)
          (c.on_proposal-said.ensures.is m stands ready) c.says.ensures.is c.says.ensures.carries c.says.ensures.only;
    }
