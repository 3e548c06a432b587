use Rattle.std.proofs.Common.{◌≡◌, ◌<◌, take}
use Rattle.values.specs.Digits.{number_of}
use Rattle.tally.specs.Rows.{number_for}
use Rattle.tally.proofs.rows.quorum_in.Given as goal

abbrev pub invariant-votes : goal.invariant-votes
invariant-votes l = (l.count ≡ number_for (number_of l.value.limbs) (take l.entry-index l.row)) × (l.count < l.quorum)
