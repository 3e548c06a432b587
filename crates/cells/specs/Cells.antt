-- Values in lent memory, which is numbers of eight bytes. Assumes nothing: these are definitions.
use Rattle.std.specs.Prelude.{◌≡◌, ℕ, ◌+◌, ◌<◌, ◌≤◌, ◌⊎◌, List, [], ◌∷◌, Some, None, Option, slice_index}
use Rattle.values.specs.declared.value.Value.{Value}
use Rattle.values.specs.Digits.{number_of}

-- the value that the four numbers from place `at` on write
abbrev pub value_at : List ℕ → ℕ → ℕ
value_at part at = number_of (slice_index part at ∷ slice_index part (at + 1) ∷ slice_index part (at + 2) ∷
    slice_index part (at + 3) ∷ [])

-- an optional value of the code as none or one number
abbrev pub listed : Option Value → List ℕ
listed None = []
listed (Some v) = number_of v.limbs ∷ []

-- the places from `a` on and below `b` may have changed, the others have not
abbrev pub Only : ℕ → ℕ → List ℕ → List ℕ → Type 0
Only a b before after = (i : ℕ) → (i < a) ⊎ (b ≤ i) → slice_index after i ≡ slice_index before i
