-- Which line says which limits, `network MEMBERS PERIODS STEPS BLOCKS`, and why another says none. Assumes nothing.
use Rattle.std.specs.Prelude.{◌≡◌, ℕ, ◌^◌, ◌<◌, List, [], ◌∷◌, ◌++◌, Some, None, Ok, Err, codes, decimal, Option}
use Rattle.std.specs.Prelude.{Result, ◌≢◌}
use Rattle.std.specs.Borrow.{Bor}
use Rattle.limits.specs.Limits.{most, name_of, first_bad}
use Rattle.limits.specs.declared.bounds.Limits.{Limits}
use Rattle.limits.specs.declared.bounds.Limit.{Limit}
use Rattle.limits.specs.declared.bounds.Limit.TheVariants.{Members, Periods, Steps, Blocks}
use Rattle.text.specs.Words.{words}
use Rattle.text.specs.declared.network.NetworkError.{NetworkError}
use Rattle.text.specs.declared.network.NetworkError.TheVariants.{NotNetwork, NotNumber, OutOfRange}

-- the words of such a line, with these after the first
abbrev pub network : List ℕ → List ℕ → List ℕ → List ℕ → List (List ℕ)
network m p s b = codes "network" ∷ (m ∷ (p ∷ (s ∷ (b ∷ []))))

-- the line has just these words after `network`; or it is no such line
abbrev pub Fields : List ℕ → Option (Bor (List ℕ) × Bor (List ℕ) × Bor (List ℕ) × Bor (List ℕ)) → Type 0
Fields line (Some x) = words line ≡ network x.0.now x.1.now x.2.now x.3.now
Fields line None = (m p s b : List ℕ) → words line ≢ network m p s b

-- a word that is a number, in decimal with no zeros before it
abbrev pub IsNumber : List ℕ → Type 0
IsNumber w = (n : ℕ) × ((n < 2 ^ 64) × (w ≡ decimal n))

-- the words before this one are numbers, and this one is none
abbrev pub FirstNoNumber : Limit → List ℕ → List ℕ → List ℕ → List ℕ → Type 0
FirstNoNumber Members m p s b = IsNumber m → ⊥
FirstNoNumber Periods m p s b = IsNumber m × (IsNumber p → ⊥)
FirstNoNumber Steps m p s b = IsNumber m × (IsNumber p × (IsNumber s → ⊥))
FirstNoNumber Blocks m p s b = IsNumber m × (IsNumber p × (IsNumber s × (IsNumber b → ⊥)))

-- the line says these limits, in decimal; or it is no such line; or which word of it is the first that is no number; or
-- its numbers are these, and which of them is the first out of range
abbrev pub Reads : List ℕ → Result Limits NetworkError → Type 0
Reads line (Ok l) =
    words line ≡ network (decimal l.members) (decimal l.periods) (decimal l.steps) (decimal l.blocks)
Reads line (Err NotNetwork) = (m p s b : List ℕ) → words line ≢ network m p s b
Reads line (Err (NotNumber limit)) =
    (m : List ℕ) × ((p : List ℕ) × ((s : List ℕ) × ((b : List ℕ) × ((words line ≡ network m p s b)
    × FirstNoNumber limit m p s b))))
Reads line (Err (OutOfRange limit)) =
    (m : ℕ) × ((p : ℕ) × ((s : ℕ) × ((b : ℕ) × ((words line ≡ network (decimal m) (decimal p) (decimal s) (decimal b))
    × (first_bad m p s b ≡ Some limit)))))

-- the reason in words
abbrev pub error_text : NetworkError → List ℕ
error_text NotNetwork = codes "it is not 'network MEMBERS PERIODS STEPS BLOCKS'"
error_text (NotNumber limit) = name_of limit ++ codes " is no number below 2^64 in decimal without zeros before it"
error_text (OutOfRange limit) = name_of limit ++ (codes " is not 1 to " ++ decimal (most limit))
