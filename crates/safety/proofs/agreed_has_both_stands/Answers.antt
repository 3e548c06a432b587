use Rattle.protocol.specs.Promises.{thin, all}
use Rattle.safety.proofs.Stands.{agreed-has_both}
use Rattle.safety.proofs.agreed_has_both_stands.Goals as goal

pub returns : goal.returns
returns c = record { thin = agreed-has_both thin; all = agreed-has_both all }
