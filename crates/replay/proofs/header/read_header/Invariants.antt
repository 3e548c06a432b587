use Rattle.std.proofs.Common.{length}
use Rattle.script.specs.Files.{file_lines}
use Rattle.replay.proofs.header.read_header.Given as goal

-- each turn takes a line
abbrev pub decreases-loop-line : goal.decreases-loop-line
decreases-loop-line l = length (file_lines l.script.rest.now)
