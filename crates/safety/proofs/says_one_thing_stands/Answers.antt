use Rattle.protocol.specs.Promises.{thin, all}
use Rattle.safety.proofs.Stands.{says_one_thing}
use Rattle.safety.proofs.says_one_thing_stands.Goals as goal

pub returns : goal.returns
returns c = record { thin = says_one_thing thin; all = says_one_thing all }
