use Rattle.std.proofs.lemmas.Bool.{false≢true}
use Rattle.lines.proofs.Reading.{no_event}
use Rattle.lines.proofs.events.read_line.Goals as goal

pub returns-in_err-value : goal.returns-in_err-value
returns-in_err-value c =
    let none = no_event _ c.in-Some.fields.now _ c.in-Some.ensures.is
    (λ e. absurd (false≢true (c.if-is_word.ensures.is.1 e)))
    (λ e. absurd (false≢true (c.if-is_word-2.ensures.is.1 e)))
    (λ _. c.in_err-value.ensures.is) in
    record { is = rw c.from_residual.ensures none }

pub returns : goal.returns
returns c =
    record {
      is = no_event _ c.in-Some.fields.now _ c.in-Some.ensures.is
          (λ e. absurd (false≢true (c.if-is_word.ensures.is.1 e)))
          (λ e. absurd (false≢true (c.if-is_word-2.ensures.is.1 e)))
          (λ e. absurd (false≢true (c.if-is_word-3.ensures.is.1 e)));
    }
