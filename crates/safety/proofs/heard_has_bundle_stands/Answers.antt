use Rattle.protocol.specs.Promises.{thin, all}
use Rattle.safety.proofs.Stands.{heard_has_bundle}
use Rattle.safety.proofs.heard_has_bundle_stands.Goals as goal

pub returns : goal.returns
returns c = record { thin = heard_has_bundle thin; all = heard_has_bundle all }
