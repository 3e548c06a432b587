-- All members together, some of whom do as they like, and everything that can happen to the honest ones; certificates.
-- Assumes nothing: these are definitions.
use Rattle.std.specs.Prelude.{◌≡◌, ℕ, zero, suc, ◌+◌, ◌*◌, ◌<◌, Bool, true, false, cond, not, ◌&&◌, ◌||◌, List, [], ◌∷◌}
use Rattle.std.specs.Prelude.{◌++◌, ◌==◌, nat_lt}
use Rattle.protocol.specs.Vote.{cert, Vote, Limits, slot_taken, is_vote_in, is_for, has_quorum}
use Rattle.protocol.specs.Member.{Member, new_member, Event, got_vote, got_proposal, got_block}
use Rattle.protocol.specs.Member.{timeout, unreadable, Answer, refused, says, answer, after}

-- Each member by its number, and all votes that honest ones ever said, the last first. What stands under a faulty
-- member's number means nothing.
pub record Network : Type 0 where
  pub member : ℕ → Member
  pub said : List Vote

-- all members new, nothing said
abbrev pub new_network : Network
new_network = record { member = new_member; said = [] }

-- the votes that an answer says
unfoldable pub votes_of : Answer → List Vote
votes_of (refused r n) = []
votes_of (says vs x) = vs

-- an event comes to member i
abbrev pub deliver : Limits → Network → ℕ → Event → Network
deliver l w i e =
    record {
      member = λ j. cond (i == j) (after l (w.member i) e) (w.member j);
      said = votes_of (answer l (w.member i) e) ++ w.said;
    }

-- A vote can come if an honest member said it, or it is in a faulty one's name: nobody speaks in an honest one's name.
abbrev pub can_come : (ℕ → Bool) → Network → Vote → Bool
can_come faulty w v = faulty v.from || is_vote_in v w.said

-- of the other events, anything can happen
unfoldable pub can_happen : (ℕ → Bool) → Network → Event → Bool
can_happen faulty w (got_vote v) = can_come faulty w v
can_happen faulty w (got_proposal o) = true
can_happen faulty w (got_block x) = true
can_happen faulty w timeout = true
can_happen faulty w (unreadable n) = true

-- Everything that can happen to the honest members, in any order: late, twice, or never.
pub data Reachable (l : Limits) (faulty : ℕ → Bool) : Network → Type 0 where
  begun : Reachable l faulty new_network
  happens : {w : Network} (i : ℕ) (e : Event) → Reachable l faulty w → i < l.members → faulty i ≡ false →
      can_happen faulty w e ≡ true → Reachable l faulty (deliver l w i e)

-- how many numbers below n pass a test
unfoldable pub how_many : ℕ → (ℕ → Bool) → ℕ
how_many zero f = 0
how_many (suc n) f = cond (f n) 1 0 + how_many n f

-- fewer than a third are faulty
abbrev pub FewFaulty : Limits → (ℕ → Bool) → Type 0
FewFaulty l faulty = 3 * how_many l.members faulty < l.members

-- BUNDLES AND CERTIFICATES

-- all are of this kind, period and step and for this value
unfoldable pub all_for : ℕ → ℕ → ℕ → ℕ → List Vote → Bool
all_for k p s x [] = true
all_for k p s x (w ∷ ws) = is_for k p s x w && all_for k p s x ws

-- no two are of one member in one slot
unfoldable pub all_different : List Vote → Bool
all_different [] = true
all_different (w ∷ ws) = not (slot_taken w ws) && all_different ws

-- each is of a member, and can come
unfoldable pub all_can_come : Limits → (ℕ → Bool) → Network → List Vote → Bool
all_can_come l faulty w [] = true
all_can_come l faulty w (v ∷ vs) = (nat_lt v.from l.members && can_come faulty w v) && all_can_come l faulty w vs

-- A bundle: votes of one kind, period and step for one value, each of another member, that each can come,
-- and that are a quorum.
pub record Bundle (l : Limits) (faulty : ℕ → Bool) (w : Network) (k p s x : ℕ) (vs : List Vote) : Type 0 where
  pub alike : all_for k p s x vs ≡ true
  pub different : all_different vs ≡ true
  pub possible : all_can_come l faulty w vs ≡ true
  pub enough : has_quorum l k p s x vs ≡ true

-- A certificate of a value in a period: a bundle of votes to be certain of it.
abbrev pub Certificate : Limits → (ℕ → Bool) → Network → ℕ → ℕ → List Vote → Type 0
Certificate l faulty w p x vs = Bundle l faulty w cert p 0 x vs
