use Rattle.protocol.proofs.Tables.{spoken_of_four, two_ways_stands}
use Rattle.protocol.proofs.two_ways_stands.Goals as goal

pub returns : goal.returns
returns c = record { stands = two_ways_stands; spoken = spoken_of_four }
