use Rattle.safety.proofs.Lone.{in_its_place}
use Rattle.safety.proofs.in_its_place_stands.Goals as goal

pub returns : goal.returns
returns c = record { stands = in_its_place }
