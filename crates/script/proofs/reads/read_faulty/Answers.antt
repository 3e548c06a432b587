use Rattle.std.proofs.Common.{refl, subst, sym, ◌∙◌}
use Rattle.std.proofs.lemmas.Bool.{false≢true}
use Rattle.script.specs.Reads.{ReadsFaulty}
use Rattle.script.proofs.Reading.{Cut, cut_or_whole, first_is, faulty_read}
use Rattle.script.proofs.reads.read_faulty.Goals as goal

pub returns-then-not-is_word : goal.returns-then-not-is_word
returns-then-not-is_word c =
    let line = c.args.line.now in
    let cut : Cut line (c.unwrap_or.result.0.now, c.unwrap_or.result.1.now) =
    rw c.unwrap_or.ensures (cut_or_whole line c.cut.result _ refl refl c.cut.ensures.is) in
    record {
      is =
          λ e. false≢true (sym c.if-not-is_word.true ∙ c.is_word.ensures.is.1 (sym (first_is line _ cut) ∙ e));
    }

pub returns : goal.returns
returns c =
    let line = c.args.line.now in
    let cut : Cut line (c.unwrap_or.result.0.now, c.unwrap_or.result.1.now) =
    rw c.unwrap_or.ensures (cut_or_whole line c.cut.result _ refl refl c.cut.ensures.is) in
    record {
      is = subst (ReadsFaulty line) (sym c.ok_or.ensures.value)
          (faulty_read line _ c.number.result cut (c.is_word.ensures.is.0 c.if-not-is_word.false) c.number.ensures.is);
    }
