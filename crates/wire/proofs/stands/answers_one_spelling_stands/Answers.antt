use Rattle.wire.proofs.AnswersSpelled.{answers_one_spelling}
use Rattle.wire.proofs.stands.answers_one_spelling_stands.Goals as goal

pub returns : goal.returns
returns c = record { stands = answers_one_spelling }
