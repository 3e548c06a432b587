use Rattle.safety.proofs.Single.{agreed-stays}
use Rattle.safety.proofs.agreed_stays_stands.Goals as goal

pub returns : goal.returns
returns c = record { stands = agreed-stays }
