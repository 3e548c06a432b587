use Rattle.std.proofs.Common.{◌<◌, length, ap, arith}
use Rattle.script.specs.Files.{file_lines}
use Rattle.replay.proofs.plays.play_lines.Goals as goal

pub loop-line-smaller : goal.loop-line-smaller
loop-line-smaller c =
    let fewer : length (file_lines c.pass.new.self.rest.now) < length (file_lines c.loop-line.script.rest.now) =
    omega (arith, ap (λ xs. length (file_lines xs)) c.pass.ensures, ap length c.in-Some.ensures.is) in
    fewer
