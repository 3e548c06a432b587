-- Where votes lie in lent memory, which is numbers of eight bytes. Assumes nothing: these are definitions.
use Rattle.std.specs.Prelude.{ℕ, suc, ◌+◌, ◌-◌, ◌*◌, Bool, cond, ◌&&◌, ◌==◌, nat_le, nat_lt}
use Rattle.protocol.specs.Vote.{next, next_none, Limits}

-- how many slots a period has: soft, cert, and two for each time to go on
abbrev pub slots : Limits → ℕ
slots l = 2 * l.steps + 2

-- which of them is that of this kind and step
abbrev pub slot_place : Limits → ℕ → ℕ → ℕ
slot_place l k s = cond (nat_lt k next) k (cond (k == next) s (s + l.steps))

-- the first entry of a slot; the entries of all members lie side by side
abbrev pub row_of : Limits → ℕ → ℕ → ℕ → ℕ
row_of l k p s = ((p - 1) * slots l + slot_place l k s) * l.members

-- kind, period and step are in range
unfoldable pub slot_in_range : Limits → ℕ → ℕ → ℕ → Bool
slot_in_range l k p s =
    (nat_le k next_none && (nat_le 1 p && nat_le p l.periods))
    && cond (nat_lt k next) (s == 0) (nat_le 2 s && nat_le s (suc l.steps))

-- how many numbers the votes take
abbrev pub votes_size : Limits → ℕ
votes_size l = 8 * (l.members * (l.periods * slots l))
