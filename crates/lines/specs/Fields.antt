-- The fields of a line, read one after the other. Assumes nothing: these are definitions.
use Rattle.std.specs.Prelude.{◌≡◌, ℕ, ◌<◌, List, [], ◌∷◌, Some, None, Option, ◌≢◌}
use Rattle.std.specs.Borrow.{Bor}
use Rattle.text.specs.Words.{words}
use Rattle.text.specs.Decimals.{spelled}

-- The first word spells this number, and these are the bytes of the others; or it spells none below the bound, or is
-- the only one.
abbrev pub Field : {A : Type 0} → ℕ → (A → ℕ) → List ℕ → Option (A × Bor (List ℕ)) → Type 0
Field bound of text (Some x) = words text ≡ spelled (of x.0) ∷ words x.1.now
Field bound of text None = (n : ℕ) (w : List ℕ) (ws : List (List ℕ)) → n < bound → words text ≢ spelled n ∷ (w ∷ ws)

-- The only word spells this number; or it spells none below the bound, or is not the only one.
abbrev pub Last : {A : Type 0} → ℕ → (A → ℕ) → List ℕ → Option A → Type 0
Last bound of text (Some x) = words text ≡ spelled (of x) ∷ []
Last bound of text None = (n : ℕ) → n < bound → words text ≢ spelled n ∷ []
