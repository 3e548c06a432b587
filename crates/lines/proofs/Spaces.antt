-- Words with single spaces between them are the words of the line that they make, and a line is made of its words.
use Rattle.std.proofs.Common.{◌≡◌, ℕ, ◌<◌, Bool, true, false, cond, not, ◌&&◌, eqb, leb, List, [], ◌∷◌, ◌++◌, sym, refl}
use Rattle.std.proofs.Common.{ap, ◌∙◌, arith}
use Rattle.std.specs.Str.Parse.{AllDigits}
use Rattle.std.proofs.lemmas.Bool.{and_parts, and_from, not-true, not_from_false, ne_eqb, eq-eqb, eqb-true, leb-true}
use Rattle.std.proofs.lemmas.Bool.{le-leb}
use Rattle.std.proofs.lemmas.Str.Parse.{digit_from_value}
use Rattle.text.specs.Words.{free_of, onto_first, pieces, words}
use Rattle.text.proofs.Cuts.{one_piece, not_one_piece}
use Rattle.text.specs.Decimals.{spelled}
use Rattle.lines.specs.Between.{between, spaced}
use Rattle.text.proofs.Spelled.{digits-spelled}

-- bytes from '0' on, but no colon: digits and letters, which are no separator
abbrev pub plain : List ℕ → Bool
plain [] = true
plain (c ∷ cs) = (leb 48 c && not (eqb c 58)) && plain cs

-- no separator from before '0' is among them
free_plain : (sep : ℕ) → sep < 48 → (w : List ℕ) → plain w ≡ true → free_of sep w ≡ true
free_plain sep low [] h = refl
free_plain sep low (c ∷ cs) h =
    let parts : ((leb 48 c && not (eqb c 58)) ≡ true) × (plain cs ≡ true) = and_parts _ _ h in
    let apart : (c ≡ sep → ⊥) = λ e. omega (arith, leb-true 48 c (and_parts _ _ parts.0).0) in
    and_from _ _ (not_from_false _ (ne_eqb c sep apart)) (free_plain sep low cs parts.1)

pub no_space : (w : List ℕ) → plain w ≡ true → free_of 32 w ≡ true
no_space = free_plain 32 (omega arith)

pub no_feed : (w : List ℕ) → plain w ≡ true → free_of 10 w ≡ true
no_feed = free_plain 10 (omega arith)

pub no_colon : (w : List ℕ) → plain w ≡ true → free_of 58 w ≡ true
no_colon [] h = refl
no_colon (c ∷ cs) h =
    let parts = and_parts _ _ h in and_from _ _ (and_parts _ _ parts.0).1 (no_colon cs parts.1)

plain_digits : (ds : List ℕ) → AllDigits 10 ds → plain ds ≡ true
plain_digits [] h = refl
plain_digits (c ∷ ds) h =
    let digit = digit_from_value c h.0 in
    let apart : (c ≡ 58 → ⊥) = λ e. omega (arith, digit.1) in
    and_from _ _ (and_from _ _ (le-leb 48 c digit.0) (not_from_false _ (ne_eqb c 58 apart))) (plain_digits ds h.1)

pub plain_spelled : (n : ℕ) → plain (spelled n) ≡ true
plain_spelled n = plain_digits (spelled n) (digits-spelled n)

pub one_word : (n : ℕ) → words (spelled n) ≡ spelled n ∷ []
one_word n = one_piece 32 (spelled n) (no_space (spelled n) (plain_spelled n))

-- there is always a word
pub some_word : (line : List ℕ) → words line ≡ [] → ⊥
some_word line e = not_one_piece 32 [] [] line ([] ∷ words line) refl (ap (λ (x : List (List ℕ)). [] ∷ x) e)

-- a line is made of its words
pub spaced-words : (line : List ℕ) → spaced (words line) ≡ line
unfolding between
spaced-words [] = refl
spaced-words (c ∷ cs) = made (eqb c 32) refl (words cs) refl (spaced-words cs)
  where
    onto : (w : List ℕ) (ws : List (List ℕ)) → spaced ((c ∷ w) ∷ ws) ≡ c ∷ spaced (w ∷ ws)
    onto w [] = refl
    onto w (v ∷ vs) = refl

    made : (b : Bool) → eqb c 32 ≡ b → (ws : List (List ℕ)) → words cs ≡ ws →
        spaced (words cs) ≡ cs → spaced (cond b ([] ∷ ws) (onto_first c ws)) ≡ c ∷ cs
    made true is [] e rest = absurd (some_word cs e)
    made true is (w ∷ ws) e rest =
        (λ i. sym (eqb-true c 32 is) i ∷ spaced (sym e i)) ∙ ap (λ (x : List ℕ). c ∷ x) rest
    made false is [] e rest = absurd (some_word cs e)
    made false is (w ∷ ws) e rest =
        onto w ws ∙ ap (λ (x : List (List ℕ)). c ∷ spaced x) (sym e) ∙ ap (λ (x : List ℕ). c ∷ x) rest

-- a line of one word is that word
pub only_word : (line w : List ℕ) → words line ≡ w ∷ [] → line ≡ w
unfolding between
only_word line w e = sym (spaced-words line) ∙ ap spaced e

module _ (sep : ℕ) where
  -- each is free of separators
  abbrev pub AllFree : List (List ℕ) → Type 0
  AllFree [] = Unit {0}
  AllFree (w ∷ ws) = (free_of sep w ≡ true) × AllFree ws

  -- the first piece, up to the separator
  pub pieces_at_first : (w rest : List ℕ) → free_of sep w ≡ true →
      pieces sep (w ++ (sep ∷ rest)) ≡ w ∷ pieces sep rest
  pieces_at_first [] rest h = rw (eq-eqb sep sep refl) refl
  pieces_at_first (c ∷ w) rest h =
      let parts = and_parts _ _ h in
      rw (not-true (eqb c sep) parts.0, pieces_at_first w rest parts.1) refl

  -- texts with separators between them are the pieces
  pub pieces-between : (w : List ℕ) (ws : List (List ℕ)) → AllFree (w ∷ ws) →
      pieces sep (between (sep ∷ []) (w ∷ ws)) ≡ w ∷ ws
  unfolding between
  pieces-between w [] h = one_piece sep w h.0
  pieces-between w (v ∷ vs) h =
      pieces_at_first w (between (sep ∷ []) (v ∷ vs)) h.0
      ∙ ap (λ (x : List (List ℕ)). w ∷ x) (pieces-between v vs h.1)

  free-append : (xs ys : List ℕ) → free_of sep xs ≡ true → free_of sep ys ≡ true → free_of sep (xs ++ ys) ≡ true
  free-append [] ys p q = q
  free-append (x ∷ xs) ys p q = let parts = and_parts _ _ p in and_from _ _ parts.0 (free-append xs ys parts.1 q)

  -- so are they together, with another separator between them
  pub free-between : (by : List ℕ) (ws : List (List ℕ)) → free_of sep by ≡ true → AllFree ws →
      free_of sep (between by ws) ≡ true
  unfolding between
  free-between by [] b h = refl
  free-between by (w ∷ []) b h = h.0
  free-between by (w ∷ (v ∷ vs)) b h = free-append w _ h.0 (free-append by _ b (free-between by (v ∷ vs) b h.1))
