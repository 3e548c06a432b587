use Rattle.protocol.specs.Promises.{thin, all}
use Rattle.safety.proofs.Stands.{locked_after}
use Rattle.safety.proofs.locked_after_stands.Goals as goal

pub returns : goal.returns
returns c = record { thin = locked_after thin; all = locked_after all }
