use Rattle.std.proofs.Common.{sym, ap, ◌∙◌}
use Rattle.values.specs.Values.{value_of}
use Rattle.wire.specs.Meaning.{agreed_of}
use Rattle.lines.specs.Answers.{agreed_text}
use Rattle.lines.proofs.Printing.{same_written, agreed_shown, none_shown}
use Rattle.lines.proofs.answers.put_agreed.Goals as goal

pub returns-in-None : goal.returns-in-None
returns-in-None g c =
    let is = none_shown ∙ ap (λ a. agreed_text (agreed_of a)) (sym c.in-None.is) in
    record { is = same_written c.write.result is c.write.ensures.writes }

pub returns-in-Some : goal.returns-in-Some
returns-in-Some g c =
    let is = agreed_shown (value_of c.in-Some.value) ∙ ap (λ a. agreed_text (agreed_of a)) (sym c.in-Some.is) in
    record { is = same_written c.write-in-Some.result is c.write-in-Some.ensures.writes }
