use Rattle.safety.proofs.Lone.{one_value_heard}
use Rattle.safety.proofs.one_value_heard_stands.Goals as goal

pub returns : goal.returns
returns c = record { stands = one_value_heard }
