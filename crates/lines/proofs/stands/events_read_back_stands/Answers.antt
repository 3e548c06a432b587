use Rattle.lines.proofs.ReadBack.{events_read_back}
use Rattle.lines.proofs.stands.events_read_back_stands.Goals as goal

pub returns : goal.returns
returns c = record { stands = events_read_back }
