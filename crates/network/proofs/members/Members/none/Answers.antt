use Rattle.network.proofs.Bits.{has-none}
use Rattle.network.proofs.members.Members.none.Goals as goal

pub returns : goal.returns
returns c = record { is = has-none }
