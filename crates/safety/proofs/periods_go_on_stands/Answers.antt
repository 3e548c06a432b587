use Rattle.safety.proofs.Single.{periods_go_on}
use Rattle.safety.proofs.periods_go_on_stands.Goals as goal

pub returns : goal.returns
returns c = record { stands = periods_go_on }
