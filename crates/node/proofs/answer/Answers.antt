use Rattle.std.proofs.Common.{refl, replicate}
use Rattle.wire.specs.Meaning.{event_of}
use Rattle.node.proofs.Fits.{written}
use Rattle.node.proofs.answer.Goals as goal

pub unwrap-length-requires : goal.unwrap-length-requires
unwrap-length-requires c =
    written (event_of c.in-Some.event) (replicate 65 0) c.write_event.new.out c.write_event.result refl
    c.write_event.ensures.is
