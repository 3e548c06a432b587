use Rattle.protocol.specs.Promises.{thin, all}
use Rattle.member.proofs.Running.{enough_memory_stands}
use Rattle.member.proofs.promises.enough_memory_stands.Goals as goal

pub returns : goal.returns
returns c = record { thin = enough_memory_stands thin; all = enough_memory_stands all }
