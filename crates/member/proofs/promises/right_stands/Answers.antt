use Rattle.protocol.specs.Promises.{thin, all}
use Rattle.member.proofs.Running.{right_stands}
use Rattle.member.proofs.promises.right_stands.Goals as goal

pub returns : goal.returns
returns c = record { thin = right_stands thin; all = right_stands all }
