-- Votes in their entries: which slots are taken, none heard, one more heard. Assumes nothing.
use Rattle.std.proofs.Common.{◌≡◌, ℕ, ◌+◌, ◌*◌, ◌<◌, ◌≤◌, Bool, true, false, cond, not, ◌&&◌, ◌||◌, eqb, ◌⊎◌, List, []}
use Rattle.std.proofs.Common.{◌∷◌, get_or, sym, refl, ap, ◌∙◌, inl, inr, ⊎_elim, arith}
use Rattle.std.proofs.lemmas.Bool.{both_ways, and_parts, and_from, and_right, or_from, not-true, eq-eqb, cases_Bool}
use Rattle.std.proofs.lemmas.Bool.{cases_order, cond-true, cond-false}
use Rattle.protocol.specs.Vote.{Vote, Limits, same_slot, same_vote, slot_taken, is_vote_in}
use Rattle.protocol.specs.Member.{is_some, vote_in_range}
use Rattle.protocol.specs.Network.{all_different}
use Rattle.protocol.proofs.Votes.{same_of, same_test, slot_of, vote_of}
use Rattle.protocol.proofs.Ranges.{ranged}
use Rattle.cells.specs.Cells.{Only}
use Rattle.tally.specs.Layout.{row_of, slot_in_range}
use Rattle.tally.specs.Votes.{heard_at, entry_of, is_only, is_of, voted, all_in_range, Holds}
use Rattle.tally.proofs.Index.{same_entry, slot_good}
use Rattle.cells.proofs.Written.{same_value}

some_cond : (b : Bool) (x : ℕ) (r : List ℕ) → is_some (cond b (x ∷ []) r) ≡ (b || is_some r)
unfolding is_some
some_cond true x r = refl
some_cond false x r = refl

-- a slot is taken where something is voted in it
pub taken_voted : (v : Vote) (vs : List Vote) →
    is_some (voted v.kind v.period v.step v.from vs) ≡ slot_taken v vs
unfolding slot_taken voted is_some
taken_voted v [] = refl
taken_voted v (w ∷ ws) =
    let b = is_of v.kind v.period v.step v.from w in
    some_cond b w.value _ ∙ ap (λ t. b || t) (taken_voted v ws)

pub none_some : (xs : List ℕ) → is_some xs ≡ false → xs ≡ []
unfolding is_some
none_some [] h = refl
none_some (x ∷ xs) h = absurd (both_ways true h refl)

-- an entry whose first number is 0 is empty
pub empty_at : (part : List ℕ) (e : ℕ) → get_or part (8 * e) 0 ≡ 0 → heard_at part e ≡ []
empty_at part e z = cond-true _ _ _ (eq-eqb _ 0 z)

-- in a part of zeros nothing was heard
pub holds_none : (l : Limits) (part : List ℕ) → ((i : ℕ) → get_or part i 0 ≡ 0) → Holds l part []
unfolding all_different all_in_range voted
holds_none l part zeros =
    record {
      different = refl;
      in_range = refl;
      entries = λ k p s i good low. empty_at part (row_of l k p s + i) (zeros _);
    }

-- one more: its entry has its value, the others are as before
pub holds_more : (l : Limits) (part now : List ℕ) (v : Vote) (vs : List Vote) → Holds l part vs →
    vote_in_range l v ≡ true →
    slot_taken v vs ≡ false → heard_at now (entry_of l v) ≡ v.value ∷ [] →
    ((e : ℕ) → (e ≡ entry_of l v → ⊥) → heard_at now e ≡ heard_at part e) → Holds l now (v ∷ vs)
unfolding all_different all_in_range voted
holds_more l part now v vs h good free here there =
    record {
      different = and_from _ _ (ap not free) h.different;
      in_range = and_from _ _ good h.in_range;
      entries = entries;
    }
  where
    entries : (k p s i : ℕ) → slot_in_range l k p s ≡ true → i < l.members →
        heard_at now (row_of l k p s + i) ≡ voted k p s i (v ∷ vs)
    entries k p s i slot low = ⊎_elim own other (cases_Bool (is_of k p s i v))
      where
        own : is_of k p s i v ≡ true → heard_at now (row_of l k p s + i) ≡ voted k p s i (v ∷ vs)
        own e =
            let same = same_of k p s i _ _ _ _ e in
            (λ j. heard_at now (row_of l (same.kind j) (same.period j) (same.step j) + same.from j)) ∙ here
            ∙ sym (cond-true _ _ _ e)

        other : is_of k p s i v ≡ false → heard_at now (row_of l k p s + i) ≡ voted k p s i (v ∷ vs)
        other e =
            there (row_of l k p s + i)
            (λ at. both_ways _ e
            (same_test k p s i _ _ _ _ (same_entry l k p s i _ _ _ _ slot (slot_good l v good) low
            (ranged l v good).member at)))
            ∙ h.entries k p s i slot low ∙ sym (cond-false _ _ _ e)

cases_ne : (m n : ℕ) → (m ≡ n → ⊥) → (m < n) ⊎ (n < m)
cases_ne m n other = ⊎_elim (λ e. absurd (other e)) (λ o. o) (cases_order m n)

-- an entry is as before if its places are
pub same_heard : (part now : List ℕ) (e n : ℕ) → Only (8 * n) (8 * n + 5) part now → (e ≡ n → ⊥) →
    heard_at now e ≡ heard_at part e
same_heard part now e n only other =
    λ i. cond (eqb (only (8 * e) (apart 0 (omega arith) (omega arith)) i) 0) []
    (same_value now part (8 * e + 1) (8 * e + 1)
    (λ j low. only (8 * e + 1 + j) (apart (1 + j) (omega arith) (omega arith))) i ∷ [])
  where
    apart : {m : ℕ} (j : ℕ) → j < 5 → m ≡ 8 * e + j → (m < 8 * n) ⊎ (8 * n + 5 ≤ m)
    apart {m} j low at =
        ⊎_elim (λ less. inl (omega arith)) (λ more. inr (omega arith)) (cases_ne e n other)

or_off : (a b : Bool) → b ≡ false → (a || b) ≡ a
or_off true b e = refl
or_off false b e = e

and_true : (a : Bool) → (a && true) ≡ a
and_true true = refl
and_true false = refl

-- with none twice in one slot, a vote was heard just where its member voted for its value in its slot
pub heard_voted : (v : Vote) (vs : List Vote) → all_different vs ≡ true →
    is_only v.value (voted v.kind v.period v.step v.from vs) ≡ is_vote_in v vs
unfolding all_different voted is_vote_in is_only
heard_voted v [] different = refl
heard_voted v (w ∷ ws) different =
    let apart = and_parts (not (slot_taken w ws)) (all_different ws) different in
    by (same_slot v w) (eqb v.from w.from) refl refl (not-true _ apart.0) (heard_voted v ws apart.1)
  where
    rest : List ℕ
    rest = voted v.kind v.period v.step v.from ws

    own : same_slot v w ≡ true → eqb v.from w.from ≡ true → slot_taken w ws ≡ false → rest ≡ []
    own e f free =
        let same = slot_of v w (and_from _ _ e f) in
        (λ i. voted (same.kind i) (same.period i) (same.step i) (same.from i) ws)
        ∙ none_some _ (taken_voted w ws ∙ free)

    by : (s f : Bool) → same_slot v w ≡ s → eqb v.from w.from ≡ f → slot_taken w ws ≡ false →
        is_only v.value rest ≡ is_vote_in v ws →
        is_only v.value (cond (s && f) (w.value ∷ []) rest)
        ≡ (((s && eqb v.value w.value) && f) || is_vote_in v ws)
    by true true e f free before =
        sym (or_off _ _ (sym before ∙ ap (is_only v.value) (own e f free)) ∙ and_true (eqb v.value w.value))
    by true false e f free before = before
        ∙ sym (ap (λ b. b || is_vote_in v ws) (and_right (eqb v.value w.value) false refl))
    by false f e _ free before = before

-- a vote that is out of range was not heard
pub not_heard : (l : Limits) (v : Vote) (vs : List Vote) → all_in_range l vs ≡ true → vote_in_range l v ≡ false →
    is_vote_in v vs ≡ false
unfolding all_in_range is_vote_in
not_heard l v [] good bad = refl
not_heard l v (w ∷ ws) good bad =
    let ranges = and_parts (vote_in_range l w) (all_in_range l ws) good in
    or_from _ _ (other ranges.0 (cases_Bool (same_vote v w))) (not_heard l v ws ranges.1 bad)
  where
    other : vote_in_range l w ≡ true → (same_vote v w ≡ true) ⊎ (same_vote v w ≡ false) → same_vote v w ≡ false
    other range (inr e) = e
    other range (inl e) = absurd (both_ways _ bad (ap (vote_in_range l) (vote_of v w e) ∙ range))
