use Rattle.safety.proofs.Single.{never_stuck}
use Rattle.safety.proofs.never_stuck_stands.Goals as goal

pub returns : goal.returns
returns c = record { stands = never_stuck }
