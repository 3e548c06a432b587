use Rattle.safety.proofs.Meeting.{quorums_meet}
use Rattle.safety.proofs.quorums_meet_stands.Goals as goal

pub returns : goal.returns
returns c = record { stands = quorums_meet }
