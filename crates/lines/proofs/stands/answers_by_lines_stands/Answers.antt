use Rattle.lines.proofs.ReadBack.{answers_by_lines}
use Rattle.lines.proofs.stands.answers_by_lines_stands.Goals as goal

pub returns : goal.returns
returns c = record { stands = answers_by_lines }
