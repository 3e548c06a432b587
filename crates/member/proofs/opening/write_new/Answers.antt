use Rattle.std.proofs.Common.{ℕ, List, refl, ◌∙◌, arith}
use Rattle.protocol.specs.Vote.{Limits}
use Rattle.protocol.specs.Promises.{all}
use Rattle.limits.specs.Limits.{limits_of}
use Rattle.moves.specs.Parts.{of_rest}
use Rattle.member.proofs.Answering.{only-header}
use Rattle.member.proofs.Fresh.{no_votes, no_proposals, no_blocks}
use Rattle.member.proofs.opening.write_new.Goals as goal

pub returns : goal.returns
returns c =
    let l : Limits = limits_of all c.args.limits in
    let mem : List ℕ = c.args.memory.now in
    let mid : List ℕ = c.blank.new.memory in
    let new : List ℕ = c.mark.new.memory in
    record {
      is = record {
        member = _;
        limits = refl;
        me = refl;
        header = c.mark.ensures.is;
        stands = record {
          me = refl;
          period = refl;
          step = refl;
          start = refl;
          free = refl;
          certain = refl;
          agreed = refl;
          votes = no_votes l mem mid new c.blank.ensures.is c.mark.ensures.only;
          proposals = no_proposals l mem mid new c.blank.ensures.is c.mark.ensures.only;
          blocks = no_blocks l mem mid new c.blank.ensures.is c.mark.ensures.only;
        };
      };
      rest = only-header l mid new c.mark.ensures.only (omega arith) of_rest refl ∙ c.blank.ensures.is.rest;
    }
