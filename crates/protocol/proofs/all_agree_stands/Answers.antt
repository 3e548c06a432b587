use Rattle.protocol.proofs.Tables.{spoken_of_four, all_agree-stands}
use Rattle.protocol.proofs.all_agree_stands.Goals as goal

pub returns : goal.returns
returns c = record { stands = all_agree-stands; spoken = spoken_of_four }
