use Rattle.std.proofs.Common.{refl}
use Rattle.moves.specs.Parts.{of_header, of_rest}
use Rattle.protocol.specs.Member.{keep_best, does}
use Rattle.wire.specs.Meaning.{proposal_of}
use Rattle.moves.proofs.Standing.{kept_best}
use Rattle.moves.proofs.state.Member.on_proposal.Goals as goal

pub returns-clause-is : goal.returns-clause-is
unfolding does
returns-clause-is c = λ m h ready. record {
  stands = kept_best c.args.self c.args.memory.now c.keep_proposal.new.memory m h
      (keep_best (proposal_of c.args.proposal) m.proposals)
      (c.keep_proposal.ensures.is m.proposals h.proposals) c.keep_proposal.ensures.only;
  out = refl;
}

pub returns-clause-only : goal.returns-clause-only
returns-clause-only c = record {
  header = c.keep_proposal.ensures.only of_header refl;
  rest = c.keep_proposal.ensures.only of_rest refl;
}
