use Rattle.std.proofs.Common.{◌≡◌, ◌+◌, ◌≤◌, take, sym, ap, ◌∙◌, arith}
use Rattle.std.proofs.lemmas.Bool.{le-leb, lt-leb}
use Rattle.std.proofs.lemmas.List.{take_all}
use Rattle.std.proofs.lemmas.List.Sums.{count_by_more_yes, sum_by-take-le}
use Rattle.values.specs.Digits.{number_of}
use Rattle.protocol.specs.Vote.{quorum}
use Rattle.tally.specs.Rows.{is_for, number_for}
use Rattle.tally.proofs.rows.quorum_in.Goals as goal
use Rattle.tally.proofs.rows.quorum_in.Goals.{else-votes-test, then-votes-test+then-is_for+then-count-quorum}

pub returns : goal.returns
returns c =
    let row = c.args.row.now in
    let x = number_of c.args.value.limbs in
    let q = c.quorum-quorum.ensures.is in
    elim c.votes-test.branch [
      | else-votes-test w ↦
          let all : number_for x (take c.votes.entry-index row) ≡ number_for x row =
          ap (number_for x) (take_all c.votes.entry-index row (omega (arith, w.votes-test.false))) in
          record {
            is = lt-leb _ _ (omega (arith, w.count-is))
                ∙ sym (lt-leb (quorum c.args.limits.members) _ (omega (arith, q, all)));
          }
      | then-votes-test+then-is_for+then-count-quorum w ↦
          let more = count_by_more_yes (is_for x) row c.votes.entry-index _ (omega (arith, w.votes-test.true))
          (sym w.if-is_for.ensures.is) in
          let grows : number_for x (take (c.votes.entry-index + 1) row) ≤ number_for x row =
          sum_by-take-le _ row (c.votes.entry-index + 1) in
          record {
            is = le-leb _ _ (omega (arith, w.count-is, w.if-count-quorum.true))
                ∙ sym (le-leb (quorum c.args.limits.members) _
                (omega (arith, q, more, grows, w.count-is, w.if-count-quorum.true)));
          }
    ]
