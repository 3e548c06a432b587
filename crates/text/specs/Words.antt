-- The pieces of a text between single separators: lines between line feeds, words between spaces. Assumes nothing.
use Rattle.std.specs.Prelude.{ℕ, Bool, true, cond, not, ◌&&◌, List, [], ◌∷◌, ◌==◌}

-- one more byte in front of the first piece
abbrev pub onto_first : ℕ → List (List ℕ) → List (List ℕ)
onto_first c [] = (c ∷ []) ∷ []
onto_first c (w ∷ ws) = (c ∷ w) ∷ ws

-- cut at each separator: never none, and empty ones where separators meet
abbrev pub pieces : ℕ → List ℕ → List (List ℕ)
pieces sep [] = [] ∷ []
pieces sep (c ∷ cs) = cond (c == sep) ([] ∷ pieces sep cs) (onto_first c (pieces sep cs))

-- cut at each space
abbrev pub words : List ℕ → List (List ℕ)
words line = pieces 32 line

-- no separator stands in it
abbrev pub free_of : ℕ → List ℕ → Bool
free_of sep [] = true
free_of sep (c ∷ cs) = not (c == sep) && free_of sep cs
