-- The first line of a file, and those after it.
use Rattle.std.proofs.Common.{◌≡◌, ℕ, List, [], ◌∷◌, length, refl, ap, ◌∙◌, arith, Option, Some, None, MatchOption, sym}
use Rattle.std.specs.Borrow.{Bor}
use Rattle.std.specs.Option.{unwrap_or}
use Rattle.text.specs.Words.{pieces}
use Rattle.text.proofs.Cuts.{not_one_piece}
use Rattle.script.specs.Files.{lines_from, file_lines, FirstLine}

-- an empty text has none
pub no_line : (text : List ℕ) → length text ≡ 0 → file_lines text ≡ []
unfolding lines_from
no_line [] none = refl
no_line (c ∷ cs) none = absurd (omega (arith, none))

-- the first ends at the first line feed
pub line_at : (text line rest : List ℕ) → pieces 10 text ≡ line ∷ pieces 10 rest →
    file_lines text ≡ line ∷ file_lines rest
unfolding lines_from
line_at text line rest e = ap lines_from e ∙ onto (pieces 10 rest) refl
  where
    onto : (ws : List (List ℕ)) → pieces 10 rest ≡ ws → lines_from (line ∷ ws) ≡ line ∷ lines_from ws
    onto [] none =
        absurd (not_one_piece 10 [] [] rest ([] ∷ pieces 10 rest) refl (ap (λ (x : List (List ℕ)). [] ∷ x) none))
    onto (w ∷ ws) some = refl

-- a text without a line feed is one line, unless it is empty
pub last_line_is : (text : List ℕ) → (length text ≡ 0 → ⊥) → pieces 10 text ≡ text ∷ [] →
    file_lines text ≡ text ∷ file_lines []
unfolding lines_from
last_line_is [] some e = absurd (some refl)
last_line_is (c ∷ cs) some e = ap lines_from e

-- the first line, whether a line feed ends it or not
pub first_line_is : (text : List ℕ) (r : Option (Bor (List ℕ) × Bor (List ℕ))) (whole : Bor (List ℕ) × Bor (List ℕ)) →
    (length text ≡ 0 → ⊥) → whole.0.now ≡ text → whole.1.now ≡ [] →
    MatchOption r (pieces 10 text ≡ text ∷ []) (λ x. pieces 10 text ≡ x.0.now ∷ pieces 10 x.1.now) →
    FirstLine text (Some (unwrap_or r whole))
first_line_is text (Some x) whole some line rest is = line_at text x.0.now x.1.now is
first_line_is text None whole some line rest is =
    last_line_is text some is
    ∙ ap (λ (xs : List ℕ × List ℕ). xs.0 ∷ file_lines xs.1) (λ k. (sym line k, sym rest k))
