use Rattle.script.proofs.ReadBack.{deliveries_read_back}
use Rattle.script.proofs.stands.deliveries_read_back_stands.Goals as goal

pub returns : goal.returns
returns c = record { stands = deliveries_read_back }
