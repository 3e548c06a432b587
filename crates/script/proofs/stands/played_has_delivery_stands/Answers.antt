use Rattle.script.proofs.ReadBack.{played-has_delivery}
use Rattle.script.proofs.stands.played_has_delivery_stands.Goals as goal

pub returns : goal.returns
returns c = record { stands = played-has_delivery }
