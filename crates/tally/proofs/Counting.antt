-- Counting a row of entries is counting the votes. Assumes nothing.
use Rattle.std.proofs.Common.{◌≡◌, ℕ, zero, suc, ◌+◌, ◌<◌, ◌≤◌, Bool, true, false, cond, not, ◌&&◌, eqb, List, []}
use Rattle.std.proofs.Common.{◌∷◌, sym, refl, ap, ◌∙◌, ⊎_elim, zero-add, arith}
use Rattle.std.proofs.lemmas.Bool.{and_parts, eqb-true, eq-eqb, ne_eqb, not-true, cases_Bool, cases_eq, cond-true}
use Rattle.std.proofs.lemmas.Bool.{cond-false}
use Rattle.std.proofs.lemmas.List.{take_all}
use Rattle.protocol.specs.Vote.{Vote, Limits, slot_taken, is_for, count}
use Rattle.protocol.specs.Member.{vote_in_range}
use Rattle.protocol.specs.Network.{all_different, how_many}
use Rattle.protocol.proofs.Counting.{how_many-none}
use Rattle.protocol.proofs.Ranges.{ranged}
use Rattle.tally.specs.Layout.{row_of, slot_in_range}
use Rattle.tally.specs.Votes.{heard_at, is_only, voted, all_in_range, Holds}
use Rattle.tally.specs.Rows.{number_for}
use Rattle.tally.proofs.Heard.{taken_voted, none_some}
use Rattle.tally.proofs.Entries.{bit, number_first}
use Rattle.std.proofs.Common.{length, get_or, take}

pub how_many_same : (n : ℕ) (f g : ℕ → Bool) → ((i : ℕ) → i < n → g i ≡ f i) → how_many n g ≡ how_many n f
unfolding how_many
how_many_same zero f g h = refl
how_many_same (suc n) f g h =
    λ j. cond (h n (omega arith) j) 1 0 + how_many_same n f g (λ i low. h i (omega arith)) j

-- one test more passes, or none
pub how_many_put : (n : ℕ) (f g : ℕ → Bool) (j : ℕ) → j < n → f j ≡ false → ((i : ℕ) → (i ≡ j → ⊥) → g i ≡ f i) →
    how_many n g ≡ bit (g j) + how_many n f
unfolding how_many
how_many_put zero f g j low off same = absurd (omega (arith, low))
how_many_put (suc n) f g j low off same = ⊎_elim last (before (λ below. how_many_put n f g j below off same))
    (cases_eq j n)
  where
    last : j ≡ n → how_many (suc n) g ≡ bit (g j) + how_many (suc n) f
    last e =
        let rest = how_many_same n f g (λ i below. same i (λ at. absurd (omega (arith, at, e)))) in
        let here : bit (f n) ≡ 0 = cond-false _ _ _ (ap f (sym e) ∙ off) in
        let own : bit (g n) ≡ bit (g j) = ap (λ m. bit (g m)) (sym e) in
        omega (arith, rest, here, own)

    before : (j < n → how_many n g ≡ bit (g j) + how_many n f) → (j ≡ n → ⊥) →
        how_many (suc n) g ≡ bit (g j) + how_many (suc n) f
    before fewer other =
        let below : j < n = omega (arith, low, other) in
        let rest = fewer below in
        let here : bit (g n) ≡ bit (f n) = ap bit (same n (λ e. other (sym e))) in
        omega (arith, rest, here)

pub how_many_grows : (m n : ℕ) (f : ℕ → Bool) → m ≤ n → how_many m f ≤ how_many n f
unfolding how_many
how_many_grows m zero f h = let e : m ≡ 0 = omega arith in rw e (omega arith)
how_many_grows m (suc n) f h =
    ⊎_elim (λ e. rw e (omega arith)) (λ ne. let rest = how_many_grows m n f (omega arith) in omega arith)
    (cases_eq m (suc n))

-- more entries of a row are for a value, or as many
pub row_grows : (row : List (List ℕ)) (m n x : ℕ) → m ≤ n → n ≤ length row →
    number_for x (take m row) ≤ number_for x (take n row)
row_grows row m n x h few =
    omega (
      arith,
      number_first x m row (omega arith),
      number_first x n row few,
      how_many_grows m n (λ i. is_only x (heard_at (get_or row i []) 0)) h,
    )

-- the count of votes, member by member
pub count-members : (l : Limits) (k p s x : ℕ) (vs : List Vote) → all_different vs ≡ true → all_in_range l vs ≡ true →
    count k p s x vs ≡ how_many l.members (λ i. is_only x (voted k p s i vs))
unfolding all_different all_in_range count voted is_only
count-members l k p s x [] different good = sym (how_many-none l.members)
count-members l k p s x (w ∷ ws) different good =
    let apart = and_parts (not (slot_taken w ws)) (all_different ws) different in
    let ranges = and_parts (vote_in_range l w) (all_in_range l ws) good in
    let rest = count-members l k p s x ws apart.1 ranges.1 in
    ⊎_elim (own (not-true _ apart.0) ranges.0 rest) (other rest) (cases_Bool slot)
  where
    slot : Bool
    slot = (eqb k w.kind && eqb p w.period) && eqb s w.step

    before : ℕ → Bool
    before i = is_only x (voted k p s i ws)

    after : ℕ → Bool
    after i = is_only x (voted k p s i (w ∷ ws))

    own : slot_taken w ws ≡ false → vote_in_range l w ≡ true → count k p s x ws ≡ how_many l.members before →
        slot ≡ true →
        count k p s x (w ∷ ws) ≡ how_many l.members after
    own free range rest e =
        let a = and_parts (eqb k w.kind && eqb p w.period) (eqb s w.step) e in
        let b = and_parts (eqb k w.kind) (eqb p w.period) a.0 in
        let none : voted k p s w.from ws ≡ [] =
        (λ j. voted (eqb-true k _ b.0 j) (eqb-true p _ b.1 j) (eqb-true s _ a.1 j) w.from ws)
        ∙ none_some _ (taken_voted w ws ∙ free) in
        let here : after w.from ≡ eqb x w.value =
        ap (is_only x) (cond-true _ _ _ (ap (λ t. t && eqb w.from w.from) e ∙ eq-eqb w.from _ refl)) in
        let there : (i : ℕ) → (i ≡ w.from → ⊥) → after i ≡ before i =
        λ i ne. ap (is_only x) (cond-false _ _ _ (ap (λ t. t && eqb i w.from) e ∙ ne_eqb i _ ne)) in
        let more =
        how_many_put l.members before after w.from (ranged l w range).member (ap (is_only x) none) there in
        let counted : bit (is_for k p s x w) ≡ bit (after w.from) =
        ap (λ t. bit (t && eqb x w.value)) e ∙ ap bit (sym here) in
        (λ j. counted j + rest j) ∙ sym more

    other : count k p s x ws ≡ how_many l.members before → slot ≡ false →
        count k p s x (w ∷ ws) ≡ how_many l.members after
    other rest e =
        let same : (i : ℕ) → i < l.members → after i ≡ before i =
        λ i low. ap (is_only x) (cond-false _ _ _ (ap (λ t. t && eqb i w.from) e)) in
        let not-counted : bit (is_for k p s x w) ≡ 0 = ap (λ t. bit (t && eqb x w.value)) e in
        (λ j. not-counted j + rest j) ∙ zero-add _ ∙ sym (how_many_same l.members before after same)

-- the count of votes is that of the slot's row
pub count-row : (l : Limits) (part : List ℕ) (vs : List Vote) → Holds l part vs → (k p s x : ℕ) (row : List (List ℕ)) →
    slot_in_range l k p s ≡ true → length row ≡ l.members →
    ((i : ℕ) → i < l.members → heard_at (get_or row i []) 0 ≡ heard_at part (row_of l k p s + i)) →
    number_for x row ≡ count k p s x vs
count-row l part vs h k p s x row good long entries =
    ap (number_for x) (sym (take_all l.members row (omega (arith, long))))
    ∙ number_first x l.members row (omega arith)
    ∙ how_many_same l.members _ _ (λ i low. ap (is_only x) (entries i low ∙ h.entries k p s i good low))
    ∙ sym (count-members l k p s x vs h.different h.in_range)
