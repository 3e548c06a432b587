use Rattle.protocol.specs.Promises.{thin, all}
use Rattle.safety.proofs.Stands.{one_agreed}
use Rattle.safety.proofs.one_agreed_stands.Goals as goal

pub returns : goal.returns
returns c = record { thin = one_agreed thin; all = one_agreed all }
