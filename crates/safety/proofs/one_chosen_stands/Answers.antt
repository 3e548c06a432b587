use Rattle.protocol.specs.Promises.{thin, all}
use Rattle.safety.proofs.Stands.{one_chosen}
use Rattle.safety.proofs.one_chosen_stands.Goals as goal

pub returns : goal.returns
returns c = record { thin = one_chosen thin; all = one_chosen all }
