-- Playing the worked tables: what is computed, and that possible rows reach a network that can be.
use Rattle.std.proofs.Common.{◌≡◌, ℕ, Bool, true, List, [], ◌∷◌, refl, lit<, lit≤}
use Rattle.std.proofs.lemmas.Bool.{and_parts, ltb-true, not-true}
use Rattle.protocol.specs.Vote.{Limits, slot_taken, is_vote_in, count, has_quorum}
use Rattle.protocol.specs.Member.{is_some, is_in, event_number, chosen_in, certified_in, keep_best, proposed, say_soft}
use Rattle.protocol.specs.Member.{first_or_zero, next_vote, onward_all, say_cert, agree_on, does, vote_in_range}
use Rattle.protocol.specs.Member.{in_range, is_event, last_refusal, place}
use Rattle.protocol.specs.Network.{Network, new_network, deliver, votes_of, can_happen, Reachable, begun, happens}
use Rattle.protocol.specs.Network.{how_many, FewFaulty}
use Rattle.protocol.specs.Promises.{thin, GoodLimits}
use Rattle.protocol.specs.Worked.{Row, played, possible, network_after, four, third_faulty, Worked, SpokenOf, two_ways}
use Rattle.protocol.specs.Worked.{all_agree}

-- every definition that playing a table goes through
pub computing : ℕ
unfolding slot_taken is_vote_in count has_quorum is_some is_in event_number chosen_in certified_in keep_best proposed say_soft first_or_zero next_vote onward_all say_cert agree_on does vote_in_range in_range is_event last_refusal place votes_of can_happen played possible
computing = 0

pub reached : (l : Limits) (faulty : ℕ → Bool) (w : Network) (rows : List Row) →
    Reachable l faulty w → possible l faulty w rows ≡ true → Reachable l faulty (network_after l w rows)
unfolding possible network_after
reached l faulty w [] r h = r
reached l faulty w (row ∷ rows) r h =
    let here : _ = and_parts _ _ h in
    let who : _ = and_parts _ _ here.0 in
    let honest : _ = and_parts _ _ who.0 in
    reached l faulty (deliver l w row.to row.event) rows
    (happens row.to row.event r (ltb-true _ _ honest.0) (not-true _ honest.1) who.1)
    here.1

-- a network of four of whom one is faulty is one of which the promises speak
four-good : GoodLimits thin four
four-good = record {
  some_member = lit≤ tt;
  few_members = lit≤ tt;
  some_period = lit≤ tt;
  few_periods = lit≤ tt;
  some_step = lit≤ tt;
  few_steps = lit≤ tt;
  some_block = lit≤ tt;
  few_blocks = lit≤ tt;
  stage = λ _. refl;
}

few_of_four : FewFaulty four third_faulty
unfolding how_many
few_of_four = lit< tt

pub spoken_of_four : SpokenOf four third_faulty
spoken_of_four = record { good = four-good; few = few_of_four }

pub two_ways_stands : Worked four third_faulty two_ways
unfolding computing
two_ways_stands = record {
  as_computed = refl;
  reachable = reached four third_faulty new_network two_ways begun refl;
}

pub all_agree-stands : Worked four third_faulty all_agree
unfolding computing
all_agree-stands = record {
  as_computed = refl;
  reachable = reached four third_faulty new_network all_agree begun refl;
}
