use Rattle.cells.specs.Cells.{listed}
use Rattle.tally.proofs.Entries.{listed_then}
use Rattle.std.proofs.Common.{rules, ℕ, ◌≡◌, ◌*◌, ◌<◌, ◌≤◌, ◌⊎◌, ◌&&◌, sym, ap, ◌∙◌, ⊎_elim, arith}
use Rattle.limits.specs.Limits.{limits_of}
use Rattle.protocol.specs.Promises.{all}
use Rattle.protocol.specs.Vote.{soft, count, has_quorum}
use Rattle.protocol.specs.Member.{is_in}
use Rattle.std.proofs.lemmas.Bool.{and_left}
use Rattle.values.specs.Digits.{number_of}
use Rattle.cells.specs.Blocks.{blocks_in}
use Rattle.tally.proofs.Index.{alone_good}
use Rattle.tally.proofs.Counting.{count-row}
use Rattle.tally.proofs.OneChosen.{chosen-out, chosen_majority}
use Rattle.tally.proofs.decided.HeardVotes.chosen.Goals as goal
use Rattle.tally.proofs.decided.HeardVotes.chosen.Goals.{then-quorum_for, else-quorum_for}

pub returns-then-not-contains : goal.returns-then-not-contains
returns-then-not-contains c =
    let periods = c.args.self.limits.periods in
    let out : (c.args.period < 1) ⊎ (periods < c.args.period) = search rules in
    record {
      is = λ vs h. sym (chosen-out _ _ vs vs _ h.in_range
          (λ some few. ⊎_elim (λ low. omega arith) (λ high. omega arith) out));
    }

pub invariant_of-slot : goal.invariant_of-slot
invariant_of-slot c =
    record {
      in_range =
          alone_good (limits_of all c.args.self.limits) 0 c.args.period (omega arith) (search rules) (search rules);
    }

pub returns : goal.returns
returns c =
    let limits = c.args.self.limits in
    let l = limits_of all limits in
    let x = number_of c.majority-value.result.limbs in
    let bs = blocks_in c.args.blocks.now c.args.count in
    let good = alone_good l 0 c.args.period (omega arith) (search rules) (search rules) in
    record {
      is = λ vs h.
          let half : (y : ℕ) → (y ≡ x → ⊥) → 2 * count soft c.args.period 0 y vs ≤ limits.members =
          λ y other.
          omega (
            arith,
            count-row l c.args.self.votes.now vs h soft c.args.period 0 y c.row.result.now good c.row.ensures.long
                c.row.ensures.entries,
            c.majority-value.ensures.is y other,
            c.row.ensures.long,
          ) in
          let both : (has_quorum l soft c.args.period 0 x vs && is_in x bs) ≡ c.if-quorum_for.then_some =
          elim c.if-quorum_for.branch [
            | then-quorum_for w ↦
                ap (λ t. t && is_in x bs) (sym (w.if-quorum_for.ensures.is vs h)) ∙ sym w.has_block.ensures.is
                ∙ sym w.then_some-is
            | else-quorum_for w ↦
                and_left _ _ (sym (w.if-quorum_for.ensures.is vs h)) ∙ sym w.if-quorum_for.false ∙ sym w.then_some-is
          ] in
          ap listed c.then_some.ensures ∙ listed_then _ c.majority-value.result
          ∙ chosen_majority l vs bs c.args.period x _ limits.some_member half both;
    }
