-- A text cut at its first separator.
use Rattle.std.proofs.Common.{◌≡◌, ℕ, zero, suc, ◌<◌, Bool, true, false, cond, not, eqb, List, [], ◌∷◌, length, get_or}
use Rattle.std.proofs.Common.{Option, Some, None, MatchOption, take, drop, sym, refl, le_of_suc-le-suc, arith}
use Rattle.std.specs.Borrow.{Bor}
use Rattle.std.specs.Option.{is_some}
use Rattle.std.proofs.lemmas.Bool.{false≢true, and_parts, and_from, eq-eqb, ne_eqb, not-true, not_from_false}
use Rattle.std.specs.List.{AllWithin}
use Rattle.text.specs.Words.{free_of, onto_first, pieces}

module _ (sep : ℕ) where
  -- a byte that is no separator goes in front of the first piece
  onto_piece : (c : ℕ) (cs w : List ℕ) (ws : List (List ℕ)) → not (eqb c sep) ≡ true → pieces sep cs ≡ w ∷ ws →
      pieces sep (c ∷ cs) ≡ (c ∷ w) ∷ ws
  onto_piece c cs w ws plain e = rw (not-true (eqb c sep) plain, e) refl

  -- one piece, where there is no separator
  pub one_piece : (cs : List ℕ) → free_of sep cs ≡ true → pieces sep cs ≡ cs ∷ []
  one_piece [] h = refl
  one_piece (c ∷ cs) h =
      let parts : (not (eqb c sep) ≡ true) × (free_of sep cs ≡ true) = and_parts _ _ h in
      onto_piece c cs cs [] parts.0 (one_piece cs parts.1)

  -- no separator stands before place i
  abbrev pub NoneBefore : List ℕ → ℕ → Type 0
  NoneBefore cs i = AllWithin (λ c. c ≡ sep → ⊥) cs 0 i

  later : (c : ℕ) (cs : List ℕ) (i : ℕ) → NoneBefore (c ∷ cs) (suc i) → NoneBefore cs i
  later c cs i h k d low small = h (suc k) d (omega arith) (omega arith)

  plain : (c : ℕ) (cs : List ℕ) (i : ℕ) → NoneBefore (c ∷ cs) (suc i) → not (eqb c sep) ≡ true
  plain c cs i h = not_from_false _ (ne_eqb c sep (h 0 0 (omega arith) (omega arith)))

  -- the first piece ends at the first separator
  pub pieces_at : (i : ℕ) (cs : List ℕ) → NoneBefore cs i → i < length cs → get_or cs i 0 ≡ sep →
      pieces sep cs ≡ take i cs ∷ pieces sep (drop (suc i) cs)
  pieces_at zero [] h within here = absurd (omega arith)
  pieces_at zero (c ∷ cs) h within here = rw (eq-eqb c sep here) refl
  pieces_at (suc i) [] h within here = absurd (omega arith)
  pieces_at (suc i) (c ∷ cs) h within here =
      onto_piece c cs (take i cs) (pieces sep (drop (suc i) cs)) (plain c cs i h)
      (pieces_at i cs (later c cs i h) (le_of_suc-le-suc within) here)

  pub none_free : (cs : List ℕ) → NoneBefore cs (length cs) → free_of sep cs ≡ true
  none_free [] h = refl
  none_free (c ∷ cs) h = and_from _ _ (plain c cs (length cs) h) (none_free cs (later c cs (length cs) h))

  -- one byte more that is no separator
  pub free_more : (i : ℕ) (cs : List ℕ) → free_of sep (take i cs) ≡ true → i < length cs → (get_or cs i 0 ≡ sep → ⊥) →
      free_of sep (take (suc i) cs) ≡ true
  free_more zero [] h within here = refl
  free_more zero (c ∷ cs) h within here = and_from _ _ (not_from_false _ (ne_eqb c sep here)) refl
  free_more (suc i) [] h within here = refl
  free_more (suc i) (c ∷ cs) h within here =
      let parts : (not (eqb c sep) ≡ true) × (free_of sep (take i cs) ≡ true) = and_parts _ _ h in
      and_from _ _ parts.0 (free_more i cs parts.1 (le_of_suc-le-suc within) here)

  -- there is always a piece, so what follows a separator makes at least two
  some_piece : (cs : List ℕ) → pieces sep cs ≡ [] → ◌≡◌ {A = ℕ} 0 1
  some_piece [] e = cc
  some_piece (c ∷ cs) e = some (eqb c sep) (pieces sep cs) e
    where
      onto : (ws : List (List ℕ)) → onto_first c ws ≡ [] → ◌≡◌ {A = ℕ} 0 1
      onto [] h = cc
      onto (w ∷ ws) h = cc

      some : (b : Bool) (ws : List (List ℕ)) → cond b ([] ∷ ws) (onto_first c ws) ≡ [] → ◌≡◌ {A = ℕ} 0 1
      some true ws h = cc
      some false ws h = onto ws h

  pub not_one_piece : (w x : List ℕ) (cs : List ℕ) (ws : List (List ℕ)) → ws ≡ w ∷ pieces sep cs → ws ≡ x ∷ [] → ⊥
  not_one_piece w x cs ws e f =
      let none : pieces sep cs ≡ [] = cc in
      omega (arith, some_piece cs none)

  -- a text with a first piece before a separator is not one piece
  pub not_cut : (cs : List ℕ) (r : Option (Bor (List ℕ) × Bor (List ℕ))) →
      MatchOption r (pieces sep cs ≡ cs ∷ []) (λ x. pieces sep cs ≡ x.0.now ∷ pieces sep x.1.now) →
      true ≡ is_some r → (w : List ℕ) → pieces sep cs ≡ w ∷ [] → ⊥
  not_cut cs (Some x) h is w e = not_one_piece x.0.now w x.1.now _ h e
  not_cut cs None h is w e = absurd (false≢true (sym is))

-- of a line of five words, four cuts leave the last
pub last_word : {name members periods steps m p s b first : List ℕ} {ws ws₁ ws₂ ws₃ ws₄ : List (List ℕ)} →
    ws ≡ name ∷ ws₁ → ws₁ ≡ members ∷ ws₂ → ws₂ ≡ periods ∷ ws₃ → ws₃ ≡ steps ∷ ws₄ →
    ws ≡ first ∷ (m ∷ (p ∷ (s ∷ (b ∷ [])))) → ws₄ ≡ b ∷ []
last_word e₁ e₂ e₃ e₄ e = cc
