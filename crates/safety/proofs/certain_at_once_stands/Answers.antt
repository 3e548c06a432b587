use Rattle.safety.proofs.Lone.{certain_at_once}
use Rattle.safety.proofs.certain_at_once_stands.Goals as goal

pub returns : goal.returns
returns c = record { stands = certain_at_once }
