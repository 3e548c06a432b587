use Rattle.protocol.specs.Promises.{thin, all}
use Rattle.safety.proofs.Stands.{one_certified}
use Rattle.safety.proofs.one_certified_stands.Goals as goal

pub returns : goal.returns
returns c = record { thin = one_certified thin; all = one_certified all }
