use Rattle.std.proofs.Common.{List, ◌∷◌, ℕ, sym, subst, arith}
use Rattle.protocol.specs.Vote.{Limits}
use Rattle.tally.specs.Valid.{valid_vote, vote_limits}
use Rattle.tally.specs.Votes.{Holds}
use Rattle.moves.specs.Parts.{of_votes}
use Rattle.moves.proofs.Regions.{Written, written-votes}
use Rattle.moves.proofs.parts.hear_vote.Goals as goal

pub returns : goal.returns
returns c =
    let l : Limits = vote_limits c.args.vote in
    let put : Written of_votes l c.args.memory.now c.hear.new.votes c.votes_range.result.start _ =
    written-votes l c.args.memory.now c.hear.new.votes c.votes_range.result.start c.votes_range.result.end (omega arith)
    (omega arith) c.votes_range.ensures.start c.votes_range.ensures.end in
    record {
      is = λ vs h free. subst (λ (xs : List ℕ). Holds l xs (valid_vote c.args.vote ∷ vs)) (sym put.here)
          (c.hear.ensures.is vs (subst (λ (xs : List ℕ). Holds l xs vs) (sym put.was) h) free);
      only = put.only;
    }
