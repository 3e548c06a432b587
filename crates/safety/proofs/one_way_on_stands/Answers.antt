use Rattle.protocol.specs.Promises.{thin, all}
use Rattle.safety.proofs.Stands.{one_way_on}
use Rattle.safety.proofs.one_way_on_stands.Goals as goal

pub returns : goal.returns
returns c = record { thin = one_way_on thin; all = one_way_on all }
