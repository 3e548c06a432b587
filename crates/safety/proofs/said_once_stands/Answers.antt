use Rattle.protocol.specs.Promises.{thin, all}
use Rattle.safety.proofs.Stands.{said_once}
use Rattle.safety.proofs.said_once_stands.Goals as goal

pub returns : goal.returns
returns c = record { thin = said_once thin; all = said_once all }
