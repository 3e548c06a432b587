use Rattle.safety.proofs.Lone.{heard_once}
use Rattle.safety.proofs.heard_once_stands.Goals as goal

pub returns : goal.returns
returns c = record { stands = heard_once }
