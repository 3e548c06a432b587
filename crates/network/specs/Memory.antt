-- What is read off the memory of a running network: what honest members agreed on and said, and which votes can come.
-- Assumes nothing: these are definitions.
use Rattle.std.specs.Prelude.{◌≡◌, ℕ, ◌<◌, Bool, true, false, ◌&&◌, ◌||◌, List, [], ◌∷◌, nat_lt}
use Rattle.protocol.specs.Vote.{cert, Vote, Limits, has_quorum}
use Rattle.protocol.specs.Member.{Event, got_vote, got_proposal, got_block, timeout, unreadable, vote_in_range}
use Rattle.protocol.specs.Network.{all_for, all_different}
use Rattle.tally.specs.Votes.{heard_at, entry_of, is_only}
use Rattle.member.specs.Header.{option_at}
use Rattle.moves.specs.Parts.{part, of_votes}
use Rattle.network.specs.Seats.{memory_of}

-- what the member in this memory agreed on, none or one
abbrev pub agreed_in : List ℕ → List ℕ
agreed_in mem = option_at mem 16

-- the member in this memory heard this very vote
abbrev pub heard_in : Limits → List ℕ → Vote → Bool
heard_in l mem v = vote_in_range l v && is_only v.value (heard_at (part of_votes l mem) (entry_of l v))

-- A vote can come if it is in a faulty member's name, or an honest one said it: then it stands among what that member
-- itself heard.
abbrev pub may_come : Limits → (ℕ → Bool) → List ℕ → Vote → Bool
may_come l faulty mem v = faulty v.from || heard_in l (memory_of l faulty v.from mem) v

-- of the other events, anything can happen
abbrev pub may_happen : Limits → (ℕ → Bool) → List ℕ → Event → Bool
may_happen l faulty mem (got_vote v) = may_come l faulty mem v
may_happen l faulty mem (got_proposal o) = true
may_happen l faulty mem (got_block x) = true
may_happen l faulty mem timeout = true
may_happen l faulty mem (unreadable n) = true

-- each is of a member, and can come
unfoldable pub all_may_come : Limits → (ℕ → Bool) → List ℕ → List Vote → Bool
all_may_come l faulty mem [] = true
all_may_come l faulty mem (v ∷ vs) =
    (nat_lt v.from l.members && may_come l faulty mem v) && all_may_come l faulty mem vs

-- A certificate that can be put together from what honest members said and what faulty ones may say: votes to be
-- certain of one value in one period, each of another member, that each can come, and that are a quorum.
pub record Certifies (l : Limits) (faulty : ℕ → Bool) (mem : List ℕ) (p x : ℕ) (vs : List Vote) : Type 0 where
  pub alike : all_for cert p 0 x vs ≡ true
  pub different : all_different vs ≡ true
  pub possible : all_may_come l faulty mem vs ≡ true
  pub enough : has_quorum l cert p 0 x vs ≡ true

-- AGREEMENT, of the memory of a network that runs: no two honest members agreed on different values, no two
-- certificates are for different values, and whoever agreed did so on what any certificate is for.
pub record Agreement (l : Limits) (faulty : ℕ → Bool) (mem : List ℕ) : Type 0 where
  pub one_agreed : (i j a b : ℕ) → i < l.members → j < l.members → faulty i ≡ false → faulty j ≡ false →
      agreed_in (memory_of l faulty i mem) ≡ a ∷ [] → agreed_in (memory_of l faulty j mem) ≡ b ∷ [] → a ≡ b
  pub one_certified : (p q a b : ℕ) (vs us : List Vote) →
      Certifies l faulty mem p a vs → Certifies l faulty mem q b us → a ≡ b
  pub agreed_certified : (i p a b : ℕ) (vs : List Vote) → i < l.members → faulty i ≡ false →
      agreed_in (memory_of l faulty i mem) ≡ a ∷ [] → Certifies l faulty mem p b vs → a ≡ b
