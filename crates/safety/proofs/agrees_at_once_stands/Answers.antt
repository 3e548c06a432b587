use Rattle.safety.proofs.Lone.{agrees_at_once}
use Rattle.safety.proofs.agrees_at_once_stands.Goals as goal

pub returns : goal.returns
returns c = record { stands = agrees_at_once }
