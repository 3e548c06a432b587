use Rattle.protocol.specs.Promises.{thin, all}
use Rattle.member.proofs.Running.{refusal_keeps_stands}
use Rattle.member.proofs.promises.refusal_keeps_stands.Goals as goal

pub returns : goal.returns
returns c = record { thin = refusal_keeps_stands thin; all = refusal_keeps_stands all }
