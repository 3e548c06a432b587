-- What a change of one part of a list leaves alone. Assumes nothing: this is a definition.
use Rattle.std.specs.Prelude.{◌≡◌, ℕ, List, take, drop}

-- what lies before `start`, and from `end` on, is as it was
pub record OnlyPart (start end : ℕ) (before after : List ℕ) : Type 0 where
  pub front : take start after ≡ take start before
  pub rest : drop end after ≡ drop end before
