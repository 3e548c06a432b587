use Rattle.std.proofs.Common.{ℕ, List, map, sym, ap, ◌∙◌}
use Rattle.wire.specs.Meaning.{refusal_number, said_of, agreed_of, answer_of}
use Rattle.wire.specs.declared.answers.Answer.{Answer}
use Rattle.lines.specs.Between.{between}
use Rattle.lines.specs.Answers.{vote_text, agreed_text, refused_text, answer_parts}
use Rattle.lines.proofs.Printing.{same_written, both_written, one_between, followed_then}
use Rattle.lines.proofs.answers.put_answer.Goals as goal

abbrev answer_text : List ℕ → Answer → List ℕ
answer_text sep answer = between sep (answer_parts (answer_of answer))

pub returns-in-Refused : goal.returns-in-Refused
returns-in-Refused g c =
    let sep = c.args.sep.now in
    let is = one_between sep (refused_text (refusal_number c.in-Refused.refusal) c.in-Refused.place)
    ∙ ap (answer_text sep) (sym c.in-Refused.is) in
    record { is = same_written c.put_refused.result is c.put_refused.ensures.is }

pub returns-in_ok-put_said-in-Says : goal.returns-in_ok-put_said-in-Says
returns-in_ok-put_said-in-Says g c =
    let sep = c.args.sep.now in
    let votes = map vote_text (said_of c.in-Says.said) in
    let is = followed_then sep votes (agreed_text (agreed_of c.in-Says.agreed))
    ∙ ap (answer_text sep) (sym c.in-Says.is) in
    record { is = both_written c.put_agreed.result is c.in_ok-put_said-in-Says.ensures.is c.put_agreed.ensures.is }
