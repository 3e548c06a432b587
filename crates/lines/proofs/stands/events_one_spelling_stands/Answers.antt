use Rattle.lines.proofs.ReadBack.{events_one_spelling}
use Rattle.lines.proofs.stands.events_one_spelling_stands.Goals as goal

pub returns : goal.returns
returns c = record { stands = events_one_spelling }
