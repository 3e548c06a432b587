use Rattle.safety.proofs.Single.{turned_away}
use Rattle.safety.proofs.turned_away_stands.Goals as goal

pub returns : goal.returns
returns c = record { stands = turned_away }
