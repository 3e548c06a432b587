use Rattle.std.proofs.Common.{arith, refl, sym, ap}
use Rattle.std.proofs.Output.{has_written_of_eq, has_written_append}
use Rattle.wire.specs.Meaning.{event_of}
use Rattle.wire.proofs.Meaning.{real_event}
use Rattle.script.specs.Shown.{outcome_text}
use Rattle.script.proofs.Printing.{played_is}
use Rattle.script.proofs.shown.PlayedLineDisplay.fmt.Goals as goal

pub returns-in-Ok-clause-writes : goal.returns-in-Ok-clause-writes
returns-in-Ok-clause-writes g c plain ok =
    let took = g.W.Write.write_str_gives in
    let played = c.args.self.now in
    let head = c.in_ok-write.ensures.writes plain refl in
    let is = played_is played.to (event_of played.event) played.outcome _ (omega arith) (real_event played.event)
    (ap outcome_text (sym c.in-Ok.is)) in
    has_written_of_eq took _ _ _ _ is
    (has_written_append took _ _ _ _ _ head (c.write-in-Ok.ensures.writes head.plain ok))

pub returns-in-Err-clause-writes : goal.returns-in-Err-clause-writes
returns-in-Err-clause-writes g c plain ok =
    let took = g.W.Write.write_str_gives in
    let played = c.args.self.now in
    let head = c.in_ok-write.ensures.writes plain refl in
    let is = played_is played.to (event_of played.event) played.outcome _ (omega arith) (real_event played.event)
    (ap outcome_text (sym c.in-Err.is)) in
    has_written_of_eq took _ _ _ _ is
    (has_written_append took _ _ _ _ _ head (c.write-in-Err.ensures.writes head.plain ok))
