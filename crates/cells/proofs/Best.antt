-- The best proposal of each period: what is proposed, and what one more changes. Assumes nothing.
use Rattle.std.proofs.Common.{◌≡◌, ℕ, ◌+◌, ◌<◌, ◌≤◌, Bool, true, false, cond, eqb, ltb, ◌⊎◌, List, [], ◌∷◌, map, length}
use Rattle.std.proofs.Common.{get_or, set, sym, refl, ap, ◌∙◌, subst, inl, inr, ⊎_elim, arith}
use Rattle.std.proofs.lemmas.List.{get_or-set_same, length-set}
use Rattle.std.proofs.lemmas.Bool.{eqb-true, eq-eqb, ne_eqb, lt-ltb, le-ltb, cases_Bool, cases_eq, cases_order}
use Rattle.std.proofs.lemmas.Bool.{cond-true, cond-false}
use Rattle.protocol.specs.Vote.{Proposal, Limits}
use Rattle.protocol.specs.Member.{keep_best, proposed}
use Rattle.cells.specs.Cells.{value_at, Only}
use Rattle.cells.specs.Proposals.{seat, proposal_at, best_for, Proposes}
use Rattle.cells.proofs.Written.{same_value, only_wider, only_both, only_set}

abbrev pub values : List Proposal → List ℕ
values = map (λ o. o.value)

values_cond : (b : Bool) (o : Proposal) (os : List Proposal) →
    values (cond b (o ∷ []) os) ≡ cond b (o.value ∷ []) (values os)
values_cond true o os = refl
values_cond false o os = refl

pub values_some : (b : Bool) (o : Proposal) → values (cond b [] (o ∷ [])) ≡ cond b [] (o.value ∷ [])
values_some true o = refl
values_some false o = refl

-- what is proposed is the value of the best
pub proposed_best : (p : ℕ) (os : List Proposal) → values (best_for p os) ≡ proposed p os
unfolding best_for proposed
proposed_best p [] = refl
proposed_best p (o ∷ os) =
    values_cond (eqb o.period p) o _ ∙ ap (λ r. cond (eqb o.period p) (o.value ∷ []) r) (proposed_best p os)

-- of one that was there and one that comes
unfoldable pub better : Proposal → List Proposal → List Proposal
better o [] = o ∷ []
better o (b ∷ bs) = cond (ltb o.rank b.rank) o b ∷ []

-- the period's own best after one more
pub best_own : (o : Proposal) (os : List Proposal) →
    best_for o.period (keep_best o os) ≡ better o (best_for o.period os)
unfolding best_for keep_best better
best_own o [] = cond-true _ _ _ (eq-eqb o.period _ refl)
best_own o (b ∷ bs) = by (eqb b.period o.period) refl (best_own o bs)
  where
    own : (t : Bool) → eqb b.period o.period ≡ true → eqb (cond t o b).period o.period ≡ true
    own true e = eq-eqb o.period _ refl
    own false e = e

    by : (t : Bool) → eqb b.period o.period ≡ t →
        best_for o.period (keep_best o bs) ≡ better o (best_for o.period bs) →
        best_for o.period (cond t (cond (ltb o.rank b.rank) o b ∷ bs) (b ∷ keep_best o bs))
        ≡ better o (cond t (b ∷ []) (best_for o.period bs))
    by true e rest = cond-true _ _ _ (own (ltb o.rank b.rank) e)
    by false e rest = cond-false _ _ _ e ∙ rest

-- that of another period
pub best_other : (o : Proposal) (os : List Proposal) (p : ℕ) → (p ≡ o.period → ⊥) →
    best_for p (keep_best o os) ≡ best_for p os
unfolding best_for keep_best
best_other o [] p other = cond-false _ _ _ (ne_eqb o.period p (λ e. other (sym e)))
best_other o (b ∷ bs) p other = by (eqb b.period o.period) refl (best_other o bs p other)
  where
    off : eqb o.period p ≡ false
    off = ne_eqb o.period p (λ e. other (sym e))

    either : (t : Bool) → eqb b.period o.period ≡ true → eqb (cond t o b).period p ≡ false
    either true e = off
    either false e = ap (λ n. eqb n p) (eqb-true b.period _ e) ∙ off

    by : (t : Bool) → eqb b.period o.period ≡ t → best_for p (keep_best o bs) ≡ best_for p bs →
        best_for p (cond t (cond (ltb o.rank b.rank) o b ∷ bs) (b ∷ keep_best o bs))
        ≡ cond (eqb b.period p) (b ∷ []) (best_for p bs)
    by true e rest =
        cond-false _ _ _ (either (ltb o.rank b.rank) e)
        ∙ sym (cond-false _ _ _ (ap (λ n. eqb n p) (eqb-true b.period _ e) ∙ off))
    by false e rest = ap (λ r. cond (eqb b.period p) (b ∷ []) r) rest

-- in a part of zeros nothing is proposed
pub proposes_none : (l : Limits) (part : List ℕ) → ((i : ℕ) → get_or part i 0 ≡ 0) → Proposes l part []
unfolding best_for
proposes_none l part zeros p some few = cond-true _ _ _ (eq-eqb _ 0 (zeros (seat p)))

-- a period's proposal is as before if its places are
pub same_proposal : (part now : List ℕ) (p q : ℕ) → 1 ≤ p → 1 ≤ q → Only (seat q) (seat q + 6) part now → (p ≡ q → ⊥) →
    proposal_at now p ≡ proposal_at part p
same_proposal part now p q some some' only other =
    λ i. cond (eqb (only (seat p) (apart 0 (omega arith) (omega arith)) i) 0) []
    (record {
      period = p;
      rank = only (seat p + 1) (apart 1 (omega arith) refl) i;
      value = same_value now part (seat p + 2) (seat p + 2)
          (λ j low. only (seat p + 2 + j) (apart (2 + j) (omega arith) (omega arith))) i;
    } ∷ [])
  where
    apart : {m : ℕ} (j : ℕ) → j < 6 → m ≡ seat p + j → (m < seat q) ⊎ (seat q + 6 ≤ m)
    apart {m} j low at =
        ⊎_elim (λ e. absurd (other e)) (λ o. ⊎_elim (λ less. inl (omega arith)) (λ more. inr (omega arith)) o)
        (cases_order p q)

-- a part whose proposal for o's period is now the better one, and which is as before elsewhere
pub proposes_more : (l : Limits) (part now : List ℕ) (o : Proposal) (os : List Proposal) → Proposes l part os →
    1 ≤ o.period → o.period ≤ l.periods → proposal_at now o.period ≡ better o (proposal_at part o.period) →
    Only (seat o.period) (seat o.period + 6) part now → Proposes l now (keep_best o os)
proposes_more l part now o os h some few own only p low high =
    ⊎_elim (λ e. subst (λ (q : ℕ). proposal_at now q ≡ best_for q (keep_best o os)) (sym e)
    (own ∙ ap (better o) (h o.period some few) ∙ sym (best_own o os)))
    (λ other. same_proposal part now p o.period low some only other ∙ h p low high
    ∙ sym (best_other o os p other))
    (cases_eq p o.period)

-- one of a lesser rank than was there, or the first, is the better
pub better_new : (part : List ℕ) (o : Proposal) →
    (get_or part (seat o.period) 0 ≡ 0) ⊎ (o.rank < get_or part (seat o.period + 1) 0) →
    better o (proposal_at part o.period) ≡ o ∷ []
unfolding better
better_new part o (inl none) = ap (better o) (cond-true _ _ _ (eq-eqb _ 0 none))
better_new part o (inr less) =
    ⊎_elim (λ none. ap (better o) (cond-true _ _ _ none))
    (λ there. ap (better o) (cond-false _ _ _ there) ∙ ap (λ b. b ∷ []) (cond-true _ _ _ (lt-ltb o.rank _ less)))
    (cases_Bool (eqb (get_or part (seat o.period) 0) 0))

-- else that which was there
pub better_old : (part : List ℕ) (o : Proposal) → (get_or part (seat o.period) 0 ≡ 0 → ⊥) →
    get_or part (seat o.period + 1) 0 ≤ o.rank →
    proposal_at part o.period ≡ better o (proposal_at part o.period)
unfolding better
better_old part o there rank =
    let is = cond-false _ _ _ (ne_eqb _ 0 there) in
    is ∙ sym (ap (better o) is ∙ ap (λ b. b ∷ []) (cond-false _ _ _ (le-ltb o.rank _ rank)))

-- flag, rank and value are written
module _ (part now : List ℕ) (p rank x : ℕ) (within : seat p + 6 ≤ length part)
    (only : Only (seat p + 2) (seat p + 2 + 4) (set (set part (seat p) 1) (seat p + 1) rank) now)
    (is : value_at now (seat p + 2) ≡ x) where
  pub proposal_written : proposal_at now p ≡ record { period = p; rank = rank; value = x } ∷ []
  proposal_written =
      let s = seat p in
      let flagged = set part s 1 in
      let long : length flagged ≡ length part = length-set part s 1 in
      let flag : get_or now s 0 ≡ 1 =
      only s (inl (omega arith)) ∙ only_set (s + 1) rank flagged s (inl (omega arith))
      ∙ get_or-set_same part s 1 0 (omega arith) in
      let ranked : get_or now (s + 1) 0 ≡ rank =
      only (s + 1) (inl (omega arith)) ∙ get_or-set_same flagged (s + 1) rank 0 (omega arith) in
      cond-false _ _ _ (ap (λ n. eqb n 0) flag) ∙ (λ i. record { period = p; rank = ranked i; value = is i } ∷ [])

  pub proposal_only : Only (seat p) (seat p + 6) part now
  proposal_only =
      let s = seat p in
      let flagged = set part s 1 in
      let ranked = set flagged (s + 1) rank in
      only_both s (s + 6) part flagged now
      (only_wider s (s + 1) s (s + 6) part flagged (only_set s 1 part) (omega arith) (omega arith))
      (only_both s (s + 6) flagged ranked now
      (only_wider (s + 1) (s + 1 + 1) s (s + 6) flagged ranked (only_set (s + 1) rank flagged) (omega arith)
      (omega arith))
      (only_wider (s + 2) (s + 2 + 4) s (s + 6) ranked now only (omega arith) (omega arith)))
