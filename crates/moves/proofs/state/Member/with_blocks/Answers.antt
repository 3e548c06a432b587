use Rattle.std.proofs.Common.{refl}
use Rattle.moves.specs.Parts.{of_votes, of_proposals}
use Rattle.moves.proofs.Standing.{votes_stay, proposals_stay}
use Rattle.moves.proofs.state.Member.with_blocks.Goals as goal

pub returns-clause-is : goal.returns-clause-is
returns-clause-is c = λ mem new xs m h only here. record {
  me = h.me;
  period = h.period;
  step = h.step;
  start = h.start;
  free = h.free;
  certain = h.certain;
  agreed = h.agreed;
  votes = votes_stay c.args.self mem new m h (only of_votes refl);
  proposals = proposals_stay c.args.self mem new m h (only of_proposals refl);
  blocks = here;
}
