-- What is chosen, and what is certified: it has its quorum and its block, and where there is such a value, one is
-- found.
use Rattle.std.proofs.Common.{◌≡◌, ℕ, ◌≤◌, Bool, true, false, cond, ◌&&◌, eqb, ◌⊎◌, List, [], ◌∷◌, sym, refl, ap, inl}
use Rattle.std.proofs.Common.{inr, arith}
use Rattle.std.proofs.lemmas.Bool.{and_parts, and_from, eq-eqb, both_ways}
use Rattle.protocol.specs.Vote.{soft, cert, Vote, Limits, has_quorum}
use Rattle.protocol.specs.Member.{is_in, chosen_in, certified_in}
use Rattle.safety.proofs.Votes.{In, vote, in_none, in_cases}
use Rattle.safety.proofs.Counting.{Fair, quorum_some, quorum_one}
use Rattle.safety.proofs.Keeps.{Heard}

pub nil_not_cons : (x : ℕ) (xs : List ℕ) → [] ≡ x ∷ xs → ⊥
nil_not_cons x xs e = let z : ◌≡◌ {A = ℕ} 0 1 = cc in omega arith

pub first_equal : (x y : ℕ) (xs ys : List ℕ) → x ∷ xs ≡ y ∷ ys → x ≡ y
first_equal x y xs ys e = cc

none_or_one : (b : Bool) (x : ℕ) (xs : List ℕ) → (xs ≡ []) ⊎ ((y : ℕ) × (xs ≡ y ∷ [])) →
    (cond b (x ∷ []) xs ≡ []) ⊎ ((y : ℕ) × (cond b (x ∷ []) xs ≡ y ∷ []))
none_or_one true x xs rest = inr (x, refl)
none_or_one false x xs rest = rest

module _ (l : Limits) (vs : List Vote) (bs : List ℕ) where
  -- a vote is for a chosen value, or for a certified one
  abbrev pub is-chosen : ℕ → Vote → Bool
  is-chosen p w =
      (eqb w.kind soft && eqb w.period p) && (has_quorum l soft p 0 w.value vs && is_in w.value bs)

  abbrev pub is-certified : Vote → Bool
  is-certified w = eqb w.kind cert && (has_quorum l cert w.period 0 w.value vs && is_in w.value bs)

  pub chosen-has_both : (p x : ℕ) (xs : List ℕ) (ws : List Vote) → chosen_in l p ws vs bs ≡ x ∷ xs →
      Heard l vs soft p 0 x × (is_in x bs ≡ true)
  unfolding chosen_in
  chosen-has_both p x xs [] e = absurd (nil_not_cons x xs e)
  chosen-has_both p x xs (w ∷ ws) e =
      go (is-chosen p w) refl e (chosen-has_both p x xs ws)
    where
      go : (b : Bool) → is-chosen p w ≡ b → cond b (w.value ∷ []) (chosen_in l p ws vs bs) ≡ x ∷ xs →
          (chosen_in l p ws vs bs ≡ x ∷ xs → Heard l vs soft p 0 x × (is_in x bs ≡ true)) →
          Heard l vs soft p 0 x × (is_in x bs ≡ true)
      go true h e rest =
          let both : Heard l vs soft p 0 w.value × (is_in w.value bs ≡ true) =
          and_parts _ _ (and_parts _ _ h).1 in
          rw (first_equal w.value x [] xs e) at both
      go false h e rest = rest e

  -- a chosen value in the votes is found
  pub chosen_finds : (p x s i : ℕ) (ws : List Vote) → In (vote soft p s x i) ws → Heard l vs soft p 0 x →
      is_in x bs ≡ true → chosen_in l p ws vs bs ≡ [] → ⊥
  unfolding chosen_in
  chosen_finds p x s i [] at q b e = in_none _ at
  chosen_finds p x s i (w ∷ ws) at q b e =
      go (is-chosen p w) refl e (in_cases _ w ws at) (λ k f. chosen_finds p x s i ws k q b f)
    where
      go : (t : Bool) → is-chosen p w ≡ t → cond t (w.value ∷ []) (chosen_in l p ws vs bs) ≡ [] →
          (vote soft p s x i ≡ w) ⊎ In (vote soft p s x i) ws →
          (In (vote soft p s x i) ws → chosen_in l p ws vs bs ≡ [] → ⊥) → ⊥
      go true h e at rest = nil_not_cons w.value [] (sym e)
      go false h e (inr k) rest = rest k e
      go false h e (inl is) rest =
          let kind : w.kind ≡ soft = sym (ap (λ (v : Vote). v.kind) is) in
          let period : w.period ≡ p = sym (ap (λ (v : Vote). v.period) is) in
          both_ways _ h
          (and_from _ _ (and_from _ _ (eq-eqb _ _ kind) (eq-eqb _ _ period))
          (rw (ap (λ (v : Vote). v.value) is) at (and_from _ _ q b)))

  pub some_chosen : (p x : ℕ) → 1 ≤ l.members → Heard l vs soft p 0 x → is_in x bs ≡ true →
      chosen_in l p vs vs bs ≡ [] → ⊥
  some_chosen p x one q b e =
      let (i, at) = quorum_some l soft p 0 x vs one q in chosen_finds p x 0 i vs at q b e

  pub certified-has_both : (x : ℕ) (xs : List ℕ) (ws : List Vote) → certified_in l ws vs bs ≡ x ∷ xs →
      (p : ℕ) × Heard l vs cert p 0 x × (is_in x bs ≡ true)
  unfolding certified_in
  certified-has_both x xs [] e = absurd (nil_not_cons x xs e)
  certified-has_both x xs (w ∷ ws) e =
      go (is-certified w) refl e (certified-has_both x xs ws)
    where
      go : (b : Bool) →
          (eqb w.kind cert && (has_quorum l cert w.period 0 w.value vs && is_in w.value bs)) ≡ b →
          cond b (w.value ∷ []) (certified_in l ws vs bs) ≡ x ∷ xs →
          (certified_in l ws vs bs ≡ x ∷ xs → (p : ℕ) × Heard l vs cert p 0 x × (is_in x bs ≡ true)) →
          (p : ℕ) × Heard l vs cert p 0 x × (is_in x bs ≡ true)
      go true h e rest =
          let both : Heard l vs cert w.period 0 w.value × (is_in w.value bs ≡ true) =
          and_parts _ _ (and_parts _ _ h).1 in
          let is : w.value ≡ x = first_equal w.value x [] xs e in
          (w.period, (rw is at both).0, (rw is at both).1)
      go false h e rest = rest e

  -- a certified value in the votes is found
  pub certified_finds : (p x s i : ℕ) (ws : List Vote) → In (vote cert p s x i) ws → Heard l vs cert p 0 x →
      is_in x bs ≡ true → certified_in l ws vs bs ≡ [] → ⊥
  unfolding certified_in
  certified_finds p x s i [] at q b e = in_none _ at
  certified_finds p x s i (w ∷ ws) at q b e =
      go (is-certified w) refl e (in_cases _ w ws at) (λ k f. certified_finds p x s i ws k q b f)
    where
      go : (t : Bool) → is-certified w ≡ t → cond t (w.value ∷ []) (certified_in l ws vs bs) ≡ [] →
          (vote cert p s x i ≡ w) ⊎ In (vote cert p s x i) ws →
          (In (vote cert p s x i) ws → certified_in l ws vs bs ≡ [] → ⊥) → ⊥
      go true h e at rest = nil_not_cons w.value [] (sym e)
      go false h e (inr k) rest = rest k e
      go false h e (inl is) rest =
          let kind : w.kind ≡ cert = sym (ap (λ (v : Vote). v.kind) is) in
          let quorum : Heard l vs cert w.period 0 x = rw (ap (λ (v : Vote). v.period) is) at q in
          both_ways _ h
          (and_from _ _ (eq-eqb _ _ kind) (rw (ap (λ (v : Vote). v.value) is) at (and_from _ _ quorum b)))

  pub some_certified : (p x : ℕ) → 1 ≤ l.members → Heard l vs cert p 0 x → is_in x bs ≡ true →
      certified_in l vs vs bs ≡ [] → ⊥
  some_certified p x one q b e =
      let (i, at) = quorum_some l cert p 0 x vs one q in certified_finds p x 0 i vs at q b e

  -- EXACTLY WHICH, in any order: what a program may compute in another way

  pub chosen_at_most_one : (p : ℕ) (ws : List Vote) →
      (chosen_in l p ws vs bs ≡ []) ⊎ ((y : ℕ) × (chosen_in l p ws vs bs ≡ y ∷ []))
  unfolding chosen_in
  chosen_at_most_one p [] = inl refl
  chosen_at_most_one p (w ∷ ws) = none_or_one (is-chosen p w) w.value (chosen_in l p ws vs bs) (chosen_at_most_one p ws)

  pub certified_at_most_one : (ws : List Vote) →
      (certified_in l ws vs bs ≡ []) ⊎ ((y : ℕ) × (certified_in l ws vs bs ≡ y ∷ []))
  unfolding certified_in
  certified_at_most_one [] = inl refl
  certified_at_most_one (w ∷ ws) =
      none_or_one (is-certified w) w.value (certified_in l ws vs bs) (certified_at_most_one ws)

  -- a value with its quorum and block is the chosen one
  pub chosen_is : (p x : ℕ) → 1 ≤ l.members → Fair l.members vs → Heard l vs soft p 0 x → is_in x bs ≡ true →
      chosen_in l p vs vs bs ≡ x ∷ []
  chosen_is p x one fair q b =
      elim (chosen_at_most_one p vs) [
        | inl e ↦ absurd (some_chosen p x one q b e)
        | inr (y, e) ↦
            (let same : y ≡ x = quorum_one l soft p 0 y x vs one fair (chosen-has_both p y [] vs e).0 q in rw same at e)
      ]

  pub chosen_none : (p : ℕ) → ((x : ℕ) → Heard l vs soft p 0 x → is_in x bs ≡ true → ⊥) → chosen_in l p vs vs bs ≡ []
  chosen_none p never =
      elim (chosen_at_most_one p vs)
      [ inl e ↦ e | inr (y, e) ↦ (let (q, b) = chosen-has_both p y [] vs e in absurd (never y q b)) ]

  -- the only value that is certain of a quorum, with its block, is the certified one
  pub certified-is : (p x : ℕ) → 1 ≤ l.members → Heard l vs cert p 0 x → is_in x bs ≡ true →
      ((q y : ℕ) → Heard l vs cert q 0 y → is_in y bs ≡ true → y ≡ x) → certified_in l vs vs bs ≡ x ∷ []
  certified-is p x one q b only =
      elim (certified_at_most_one vs) [
        | inl e ↦ absurd (some_certified p x one q b e)
        | inr (y, e) ↦ (let (r, h, c) = certified-has_both y [] vs e in rw (only r y h c) at e)
      ]

  pub certified-none : ((p x : ℕ) → Heard l vs cert p 0 x → is_in x bs ≡ true → ⊥) → certified_in l vs vs bs ≡ []
  certified-none never =
      elim (certified_at_most_one vs)
      [ inl e ↦ e | inr (y, e) ↦ (let (p, h, c) = certified-has_both y [] vs e in absurd (never p y h c)) ]
