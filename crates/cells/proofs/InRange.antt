-- Whether a proposal is in range. Assumes nothing.
use Rattle.std.proofs.Common.{◌≡◌, ◌<◌, ◌≤◌, true, false, ◌&&◌, ltb, leb}
use Rattle.std.proofs.lemmas.Bool.{and_parts, and_from, and_left, and_right, le-leb, lt-leb, leb-true, lt-ltb}
use Rattle.protocol.specs.Vote.{value_bound, word_bound, Proposal, Limits}
use Rattle.protocol.specs.Member.{in_range, got_proposal}

-- it is by its period
module _ (l : Limits) (o : Proposal) where
  pub proposal_low : o.period < 1 → in_range l (got_proposal o) ≡ false
  unfolding in_range
  proposal_low h = and_left _ _ (and_left _ _ (lt-leb 1 o.period h))

  pub proposal_high : l.periods < o.period → in_range l (got_proposal o) ≡ false
  unfolding in_range
  proposal_high h = and_left _ _ (and_right _ _ (lt-leb o.period l.periods h))

  pub proposal_good : 1 ≤ o.period → o.period ≤ l.periods → o.value < value_bound → o.rank < word_bound →
      in_range l (got_proposal o) ≡ true
  unfolding in_range
  proposal_good some few small rank =
      and_from _ _ (and_from _ _ (le-leb 1 o.period some) (le-leb o.period l.periods few))
      (and_from _ _ (lt-ltb o.value value_bound small) (lt-ltb o.rank word_bound rank))

  pub proposal_periods : in_range l (got_proposal o) ≡ true → (1 ≤ o.period) × (o.period ≤ l.periods)
  unfolding in_range
  proposal_periods h =
      let all : ((leb 1 o.period && leb o.period l.periods) ≡ true)
      × ((ltb o.value value_bound && ltb o.rank word_bound) ≡ true) = and_parts _ _ h in
      let both : (leb 1 o.period ≡ true) × (leb o.period l.periods ≡ true) = and_parts _ _ all.0 in
      (leb-true _ _ both.0, leb-true _ _ both.1)
