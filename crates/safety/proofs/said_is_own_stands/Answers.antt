use Rattle.protocol.specs.Promises.{thin, all}
use Rattle.safety.proofs.Stands.{said-is-own}
use Rattle.safety.proofs.said_is_own_stands.Goals as goal

pub returns : goal.returns
returns c = record { thin = said-is-own thin; all = said-is-own all }
