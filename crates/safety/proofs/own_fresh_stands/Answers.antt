use Rattle.safety.proofs.Lone.{own_fresh}
use Rattle.safety.proofs.own_fresh_stands.Goals as goal

pub returns : goal.returns
returns c = record { stands = own_fresh }
