use Rattle.values.specs.Digits.{number_of}
use Rattle.tally.proofs.Majority.{Leads}
use Rattle.tally.proofs.rows.majority.Given as goal

abbrev pub invariant-loop-entry : goal.invariant-loop-entry
invariant-loop-entry l = Leads l.row l.entry-index (number_of l.candidate.limbs) l.lead
