use Rattle.safety.proofs.Lone.{heard_in_range}
use Rattle.safety.proofs.heard_in_range_stands.Goals as goal

pub returns : goal.returns
returns c = record { stands = heard_in_range }
