-- The lines of a file. Assumes nothing: these are definitions.
use Rattle.std.specs.Prelude.{◌≡◌, ℕ, List, [], ◌∷◌, Some, None, Option}
use Rattle.std.specs.Borrow.{Bor}
use Rattle.text.specs.Words.{pieces}

-- what stands after the last line feed is a line, unless nothing does
abbrev pub last_line : List ℕ → List (List ℕ)
last_line [] = []
last_line (c ∷ cs) = (c ∷ cs) ∷ []

-- the pieces between line feeds as lines
unfoldable pub lines_from : List (List ℕ) → List (List ℕ)
lines_from [] = []
lines_from (w ∷ []) = last_line w
lines_from (w ∷ (v ∷ vs)) = w ∷ lines_from (v ∷ vs)

abbrev pub file_lines : List ℕ → List (List ℕ)
file_lines text = lines_from (pieces 10 text)

-- this is the first line, and the others are those of the rest; or there is none
abbrev pub FirstLine : List ℕ → Option (Bor (List ℕ) × Bor (List ℕ)) → Type 0
FirstLine text (Some x) = file_lines text ≡ x.0.now ∷ file_lines x.1.now
FirstLine text None = file_lines text ≡ []
