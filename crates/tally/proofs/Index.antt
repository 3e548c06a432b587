-- Where the entries of slots lie: each within the part, and no two at one place. Assumes nothing.
use Rattle.std.proofs.Common.{◌≡◌, ℕ, suc, ◌+◌, ◌-◌, ◌*◌, ◌/◌, ◌%◌, ◌<◌, ◌≤◌, true, false, cond, ◌&&◌, eqb, ltb, leb}
use Rattle.std.proofs.Common.{◌⊎◌, sym, refl, ap, ◌∙◌, inl, inr, ⊎_elim, mul_comm, arith}
use Rattle.std.proofs.lemmas.Nat.{mul-add-lt, div-mul-add, mod-mul-add}
use Rattle.std.proofs.lemmas.Bool.{and_parts, and_from, ltb-true, ltb-false, leb-true, eqb-true, eqb-false, le-leb}
use Rattle.std.proofs.lemmas.Bool.{cases_Bool, cond-true, cond-false}
use Rattle.protocol.specs.Vote.{next, next_none, value_bound, Vote, Limits}
use Rattle.protocol.specs.Member.{vote_in_range}
use Rattle.protocol.specs.Programs.{memory_size}
use Rattle.protocol.proofs.Votes.{Same}
use Rattle.protocol.proofs.Ranges.{Ranged, ranged, range_test, steps_test}
use Rattle.cells.specs.Proposals.{proposals_size}
use Rattle.cells.specs.Blocks.{blocks_size}
use Rattle.tally.specs.Layout.{slots, slot_place, row_of, slot_in_range, votes_size}

-- the three regions of a period's slots
pub record Alone (l : Limits) (k s : ℕ) : Type 0 where
  pub kind : k < 2
  pub step : s ≡ 0
  pub place : slot_place l k s ≡ k

pub record Onward (l : Limits) (k s : ℕ) (kind : ℕ) (past : ℕ) : Type 0 where
  pub is : k ≡ kind
  pub low : 2 ≤ s
  pub high : s ≤ suc l.steps
  pub place : slot_place l k s ≡ s + past

abbrev pub Region : Limits → ℕ → ℕ → Type 0
Region l k s = Alone l k s ⊎ (Onward l k s 2 0 ⊎ Onward l k s 3 l.steps)

module _ (l : Limits) (k p s : ℕ) (good : slot_in_range l k p s ≡ true) where
  parts : ((leb k next_none && (leb 1 p && leb p l.periods)) ≡ true)
      × (cond (ltb k next) (eqb s 0) (leb 2 s && leb s (suc l.steps)) ≡ true)
  unfolding slot_in_range
  parts = and_parts _ _ good

  kind-part : (leb k 3 ≡ true) × ((leb 1 p && leb p l.periods) ≡ true)
  kind-part = and_parts _ _ parts.0

  period-part : (leb 1 p ≡ true) × (leb p l.periods ≡ true)
  period-part = and_parts _ _ kind-part.1

  pub kind-good : k ≤ 3
  kind-good = leb-true k 3 kind-part.0

  pub period_some : 1 ≤ p
  period_some = leb-true 1 p period-part.0

  pub period-few : p ≤ l.periods
  period-few = leb-true p l.periods period-part.1

  pub region : Region l k s
  region = ⊎_elim alone onward (cases_Bool (ltb k 2))
    where
      alone : ltb k 2 ≡ true → Region l k s
      alone e =
          inl (record {
            kind = ltb-true k 2 e;
            step = eqb-true s 0 (sym (cond-true _ _ _ e)
                ∙ parts.1);
            place = cond-true _ _ _ e;
          })

      onward : ltb k 2 ≡ false → Region l k s
      onward e =
          let steps = and_parts _ _ (sym (cond-false _ _ _ e) ∙ parts.1) in
          let low : 2 ≤ s = leb-true 2 s steps.0 in
          let high : s ≤ suc l.steps = leb-true s _ steps.1 in
          let least : 2 ≤ k = ltb-false k 2 e in
          let most : k ≤ 3 = kind-good in
          inr (⊎_elim
          (λ two. inl (record {
            is = eqb-true k 2 two;
            low = low;
            high = high;
            place = cond-false _ _ _ e ∙ cond-true _ _ _ two ∙ omega arith;
          }))
          (λ three. inr (record {
            is = let other = eqb-false k 2 three in omega arith;
            low = low;
            high = high;
            place = cond-false _ _ _ e ∙ cond-false _ _ _ three;
          }))
          (cases_Bool (eqb k 2)))

  pub place_below : slot_place l k s < slots l
  place_below =
      elim region [ inl a ↦ omega arith | inr (inl b) ↦ omega arith | inr (inr c) ↦ omega arith ]

  pub step_high : s ≤ l.steps + 1
  step_high = elim region [ inl a ↦ omega arith | inr (inl b) ↦ omega arith | inr (inr c) ↦ omega arith ]

  pub first_step : k < 2 → s ≡ 0
  first_step first = elim region [
    | inl a ↦ a.step
    | inr (inl b) ↦ absurd (omega arith)
    | inr (inr c) ↦ absurd
        (omega arith)
  ]

  pub later_low : 2 ≤ k → 2 ≤ s
  later_low later = elim region [ inl a ↦ absurd (omega arith) | inr (inl b) ↦ b.low | inr (inr c) ↦ c.low ]

  pub slot_number_below : (p - 1) * slots l + slot_place l k s < l.periods * slots l
  slot_number_below =
      let period : p - 1 < l.periods = omega (arith, period_some, period-few) in
      omega (
        arith,
        mul-add-lt (p - 1) (slots l) (slot_place l k s) l.periods period place_below,
        mul_comm
            (slots l) l.periods,
      )

  -- an entry lies within the part
  pub entry_within : (i : ℕ) → i < l.members → 8 * (row_of l k p s + i) + 8 ≤ votes_size l
  entry_within i low =
      omega (arith, mul-add-lt ((p - 1) * slots l + slot_place l k s) l.members i _ slot_number_below low)

  -- and so does a row
  pub row_within : 1 ≤ l.members → 8 * (row_of l k p s + l.members) ≤ votes_size l
  row_within some = omega (arith, entry_within (l.members - 1) (omega arith))

same_region : (l : Limits) (k s k' s' : ℕ) → Region l k s → Region l k' s' → slot_place l k s ≡ slot_place l k' s' →
    (k ≡ k') × (s ≡ s')
same_region l k s k' s' (inl a) (inl b) e = (omega arith, omega arith)
same_region l k s k' s' (inl a) (inr (inl b)) e = absurd (omega arith)
same_region l k s k' s' (inl a) (inr (inr b)) e = absurd (omega arith)
same_region l k s k' s' (inr (inl a)) (inl b) e = absurd (omega arith)
same_region l k s k' s' (inr (inl a)) (inr (inl b)) e = (omega arith, omega arith)
same_region l k s k' s' (inr (inl a)) (inr (inr b)) e = absurd (omega arith)
same_region l k s k' s' (inr (inr a)) (inl b) e = absurd (omega arith)
same_region l k s k' s' (inr (inr a)) (inr (inl b)) e = absurd (omega arith)
same_region l k s k' s' (inr (inr a)) (inr (inr b)) e = (omega arith, omega arith)

-- one place, one slot and member
pub same_entry : (l : Limits) (k p s i k' p' s' i' : ℕ) → slot_in_range l k p s ≡ true →
    slot_in_range l k' p' s' ≡ true →
    i < l.members → i' < l.members → row_of l k p s + i ≡ row_of l k' p' s' + i' → Same k p s i k' p' s' i'
same_entry l k p s i k' p' s' i' good good' low low' e =
    let m = l.members in
    let w = slots l in
    let r = (p - 1) * w + slot_place l k s in
    let r' = (p' - 1) * w + slot_place l k' s' in
    let from : i ≡ i' = sym (mod-mul-add r m i low) ∙ ap (λ n. n % m) e ∙ mod-mul-add r' m i' low' in
    let rows : r ≡ r' = sym (div-mul-add r m i low) ∙ ap (λ n. n / m) e ∙ div-mul-add r' m i' low' in
    let below = place_below l k p s good in
    let below' = place_below l k' p' s' good' in
    let place : slot_place l k s ≡ slot_place l k' s' =
    sym (mod-mul-add (p - 1) w _ below) ∙ ap (λ n. n % w) rows ∙ mod-mul-add (p' - 1) w _ below' in
    let before : p - 1 ≡ p' - 1 =
    sym (div-mul-add (p - 1) w _ below) ∙ ap (λ n. n / w) rows ∙ div-mul-add (p' - 1) w _ below' in
    let slot = same_region l k s k' s' (region l k p s good) (region l k' p' s' good') place in
    record {
      kind = slot.0;
      period = omega
          (arith, period_some l k p s good, period_some l k' p' s' good');
      step = slot.1;
      from = from;
    }

-- a slot whose kind, period and step are in range
slot_test : (l : Limits) (k p s : ℕ) → k ≤ next_none → 1 ≤ p → p ≤ l.periods → (k < next → s ≡ 0) → (next ≤ k → 2 ≤ s) →
    (next ≤ k → s ≤ suc l.steps) → slot_in_range l k p s ≡ true
unfolding slot_in_range
slot_test l k p s kind some few first low high =
    and_from _ _ (and_from _ _ (le-leb k _ kind) (and_from _ _ (le-leb 1 p some) (le-leb p _ few)))
    (steps_test k s (suc l.steps) first low high)

-- a vote in range is of such a slot
pub slot_good : (l : Limits) (v : Vote) → vote_in_range l v ≡ true →
    slot_in_range l v.kind v.period v.step ≡ true
slot_good l v good =
    let r : Ranged l v = ranged l v good in
    slot_test l _ _ _ r.kinds r.from_1 r.periods r.first_step r.later_step r.steps

-- the slots of soft and cert votes are in range with their period
pub alone_good : (l : Limits) (k p : ℕ) → k < 2 → 1 ≤ p → p ≤ l.periods → slot_in_range l k p 0 ≡ true
alone_good l k p low some few =
    slot_test l k p 0 (omega arith) some few (λ _. refl) (λ later. absurd (omega arith)) (λ later. absurd (omega arith))

-- and those of votes to go on, with their step
pub onward-good : (l : Limits) (k p s : ℕ) → 2 ≤ k → k ≤ 3 → 1 ≤ p → p ≤ l.periods → 2 ≤ s → s ≤ suc l.steps →
    slot_in_range l k p s ≡ true
onward-good l k p s least most some few low high =
    slot_test l k p s most some few (λ first. absurd (omega arith)) (λ _. low) (λ _. high)

-- a vote of a slot in range is in range, with its member and its value
pub vote-good : (l : Limits) (v : Vote) → slot_in_range l v.kind v.period v.step ≡ true →
    v.from < l.members →
    v.value < value_bound → (v.kind ≡ 3 → v.value ≡ 0) → vote_in_range l v ≡ true
vote-good l v slot from value none =
    range_test l v
    (record {
      kinds = kind-good l _ _ _ slot;
      from_1 = period_some l _ _ _ slot;
      periods = period-few l _ _ _ slot;
      member = from;
      value = value;
      first_step = first_step l _ _ _ slot;
      later_step = later_low l _ _ _ slot;
      steps = λ _. let high = step_high l _ _ _ slot in omega arith;
      no_value = none;
    })

-- the parts and the header are all the memory
pub parts_size : (l : Limits) → memory_size l ≡ 64 + votes_size l + proposals_size l + blocks_size l
parts_size l = omega arith
