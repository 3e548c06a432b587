use Rattle.std.proofs.Common.{ℕ, List, Ok, map, sym, ap, ◌∙◌}
use Rattle.std.proofs.Output.{writes_in_calls_nil}
use Rattle.wire.specs.Meaning.{vote_of, said_of}
use Rattle.wire.specs.declared.answers.Said.{Said}
use Rattle.lines.specs.Between.{followed}
use Rattle.lines.specs.Answers.{vote_text}
use Rattle.lines.proofs.Printing.{same_written, both_written, none-followed, one_followed, two_followed}
use Rattle.lines.proofs.answers.put_said.Goals as goal

abbrev said_text : List ℕ → Said → List ℕ
said_text sep said = followed sep (map vote_text (said_of said))

pub returns-in-Nothing : goal.returns-in-Nothing
returns-in-Nothing g c =
    let took = g.W.Write.write_str_gives in
    let sep = c.args.sep.now in
    let is = none-followed sep ∙ ap (said_text sep) (sym c.in-Nothing.is) in
    record { is = same_written (Ok tt) is (λ plain _. record { wrote = writes_in_calls_nil took _; plain = plain }) }

pub returns-in-One : goal.returns-in-One
returns-in-One g c =
    let sep = c.args.sep.now in
    let is = one_followed sep (vote_text (vote_of c.in-One.vote)) ∙ ap (said_text sep) (sym c.in-One.is) in
    record { is = same_written c.put_followed.result is c.put_followed.ensures.is }

pub returns-in_ok-put_followed-in-Two : goal.returns-in_ok-put_followed-in-Two
returns-in_ok-put_followed-in-Two g c =
    let sep = c.args.sep.now in
    let is = two_followed sep (vote_text (vote_of c.in-Two.first)) (vote_text (vote_of c.in-Two.second))
    ∙ ap (said_text sep) (sym c.in-Two.is) in
    let first = c.in_ok-put_followed-in-Two.ensures.is in
    record { is = both_written c.put_followed-in-Two-2.result is first c.put_followed-in-Two-2.ensures.is }
