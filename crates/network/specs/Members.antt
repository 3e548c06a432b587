-- Sets of members as the bits of one number. Assumes nothing: this is a definition.
use Rattle.std.specs.Prelude.{ℕ, ◌/◌, ◌%◌, ◌^◌, Bool, ◌==◌}

-- member i is in the set: bit i of the number is 1
unfoldable pub has : ℕ → ℕ → Bool
has bits i = (bits / 2 ^ i) % 2 == 1
