use Rattle.script.proofs.ReadBack.{deliveries_one_spelling}
use Rattle.script.proofs.stands.deliveries_one_spelling_stands.Goals as goal

pub returns : goal.returns
returns c = record { stands = deliveries_one_spelling }
