use Rattle.safety.proofs.Lone.{certain-is-said}
use Rattle.safety.proofs.certain_is_said_stands.Goals as goal

pub returns : goal.returns
returns c = record { stands = certain-is-said }
