use Rattle.std.proofs.Common.{List, ℕ, sym, subst, arith}
use Rattle.protocol.specs.Vote.{Limits}
use Rattle.protocol.specs.Member.{keep_best}
use Rattle.cells.specs.Proposals.{Proposes, proposal_limits, valid_proposal}
use Rattle.moves.specs.Parts.{of_proposals}
use Rattle.moves.proofs.Regions.{Written, written-proposals}
use Rattle.moves.proofs.parts.keep_proposal.Goals as goal

pub returns : goal.returns
returns c =
    let l : Limits = proposal_limits c.args.proposal in
    let put : Written of_proposals l c.args.memory.now c.keep.new.proposals c.proposals_range.result.start _ =
    written-proposals l c.args.memory.now c.keep.new.proposals c.proposals_range.result.start
    c.proposals_range.result.end (omega arith) (omega arith) c.proposals_range.ensures.start
    c.proposals_range.ensures.end in
    record {
      is = λ os h. subst (λ (xs : List ℕ). Proposes l xs (keep_best (valid_proposal c.args.proposal) os)) (sym put.here)
          (c.keep.ensures.is os (subst (λ (xs : List ℕ). Proposes l xs os) (sym put.was) h));
      only = put.only;
    }
