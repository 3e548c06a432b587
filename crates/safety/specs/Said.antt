-- What honest members said can be read off what they heard. Assumes nothing: this is a statement.
use Rattle.std.specs.Prelude.{◌≡◌, ℕ, ◌<◌, Bool, false}
use Rattle.protocol.specs.Vote.{Vote, is_vote_in}
use Rattle.protocol.specs.Promises.{Ever}

-- A vote of an honest member was said just where it stands among the votes that this member itself heard. So a network
-- that runs needs no list of what was said.
abbrev pub SaidIsOwn : (ℕ → Bool) → Type 0
SaidIsOwn can =
    Ever can (λ l faulty w. (i : ℕ) (v : Vote) → i < l.members → faulty i ≡ false → v.from ≡ i →
    is_vote_in v w.said ≡ is_vote_in v (w.member i).votes)
