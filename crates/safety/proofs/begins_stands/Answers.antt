use Rattle.safety.proofs.Lone.{begins}
use Rattle.safety.proofs.begins_stands.Goals as goal

pub returns : goal.returns
returns c = record { stands = begins }
