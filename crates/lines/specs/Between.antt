-- Texts with a separator between them: words with spaces, lines with line feeds. Assumes nothing.
use Rattle.std.specs.Prelude.{ℕ, List, [], ◌∷◌, ◌++◌}

-- texts with a separator between each and the next
unfoldable pub between : List ℕ → List (List ℕ) → List ℕ
between sep [] = []
between sep (w ∷ []) = w
between sep (w ∷ (v ∷ vs)) = w ++ (sep ++ between sep (v ∷ vs))

-- words with single spaces between them
abbrev pub spaced : List (List ℕ) → List ℕ
spaced ws = between (32 ∷ []) ws

-- texts with a separator after each
unfoldable pub followed : List ℕ → List (List ℕ) → List ℕ
followed sep [] = []
followed sep (w ∷ ws) = w ++ (sep ++ followed sep ws)
