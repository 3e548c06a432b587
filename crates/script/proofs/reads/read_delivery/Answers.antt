use Rattle.script.proofs.Reading.{one_word_none}
use Rattle.script.proofs.reads.read_delivery.Goals as goal

pub returns-in_err-to : goal.returns-in_err-to
returns-in_err-to c =
    record {
      is = rw c.from_residual.ensures
          (λ i e small is fits q. one_word_none i e is c.in_err-to.ensures.is q);
    }
