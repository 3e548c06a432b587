-- What can be newly certified: `vs` are the votes heard before, of which nothing was certified, `ns` those heard now.
use Rattle.std.proofs.Common.{◌≡◌, ℕ, ◌+◌, ◌-◌, ◌≤◌, Bool, true, false, cond, ◌⊎◌, List, [], ◌∷◌, ◌++◌, sym, refl, ◌∙◌}
use Rattle.std.proofs.Common.{inl, inr, zero-add, arith}
use Rattle.std.proofs.lemmas.Bool.{both_ways, and_parts, and_from, or_cases, or_left, eqb-true, eq-eqb, leb-true}
use Rattle.std.proofs.lemmas.Bool.{le-leb, cases_lt, cond-true, cond-false}
use Rattle.protocol.specs.Vote.{cert, Vote, Limits, count, has_quorum}
use Rattle.protocol.specs.Member.{is_in, certified_in}
use Rattle.protocol.proofs.Ranges.{Ranged, ranged}
use Rattle.safety.proofs.Votes.{In, vote, in_none, in_cases}
use Rattle.safety.proofs.Counting.{is_false, some_voter, quorum_some}
use Rattle.safety.proofs.Keeps.{Heard}
use Rattle.safety.proofs.Chosen.{nil_not_cons, is-certified, certified-has_both, certified_finds, certified_at_most_one}
use Rattle.safety.proofs.Chosen.{some_certified}
use Rattle.tally.specs.Votes.{all_in_range, certified_by}
use Rattle.tally.proofs.Certain.{by_here, by_some}

-- A QUORUM OF OLD AND NEW VOTES

count-append : (k p s x : ℕ) (ns vs : List Vote) → count k p s x (ns ++ vs) ≡ count k p s x ns + count k p s x vs
unfolding count
count-append k p s x [] vs = omega arith
count-append k p s x (n ∷ ns) vs = let h : _ = count-append k p s x ns vs in omega arith

-- has one of the new, or was there without them
pub quorum_among : (l : Limits) (k p s x : ℕ) (ns vs : List Vote) → has_quorum l k p s x (ns ++ vs) ≡ true →
    ((i : ℕ) × In (vote k p s x i) ns) ⊎ (has_quorum l k p s x vs ≡ true)
unfolding has_quorum
quorum_among l k p s x ns vs h =
    let both : _ = count-append k p s x ns vs in
    let enough : _ = leb-true _ _ h in
    elim (cases_lt 0 (count k p s x ns))
    [ inl some ↦ inl (some_voter k p s x ns (omega arith)) | inr none ↦ inr (le-leb _ _ (omega arith)) ]

-- so if none of the new is for it, it is as it was
pub quorum_before : (l : Limits) (k p s x : ℕ) (ns vs : List Vote) → count k p s x ns ≡ 0 →
    has_quorum l k p s x (ns ++ vs) ≡ has_quorum l k p s x vs
unfolding has_quorum
quorum_before l k p s x ns vs none = rw (count-append, none, zero-add)

-- WHAT IS FOUND AMONG THE FIRST

module _ (l : Limits) (us : List Vote) (bs : List ℕ) where
  pub found_first : (ns vs : List Vote) (y : ℕ) → certified_in l ns us bs ≡ y ∷ [] →
      certified_in l (ns ++ vs) us bs ≡ y ∷ []
  unfolding certified_in
  found_first [] vs y e = absurd (nil_not_cons y [] e)
  found_first (n ∷ ns) vs y e = go (is-certified l us bs n) e (found_first ns vs y)
    where
      go : (b : Bool) → cond b (n.value ∷ []) (certified_in l ns us bs) ≡ y ∷ [] →
          (certified_in l ns us bs ≡ y ∷ [] → certified_in l (ns ++ vs) us bs ≡ y ∷ []) →
          cond b (n.value ∷ []) (certified_in l (ns ++ vs) us bs) ≡ y ∷ []
      go true e rest = e
      go false e rest = rest e

  pub not_first : (ns vs : List Vote) → certified_in l ns us bs ≡ [] →
      certified_in l (ns ++ vs) us bs ≡ certified_in l vs us bs
  unfolding certified_in
  not_first [] vs e = refl
  not_first (n ∷ ns) vs e = go (is-certified l us bs n) e (not_first ns vs)
    where
      go : (b : Bool) → cond b (n.value ∷ []) (certified_in l ns us bs) ≡ [] →
          (certified_in l ns us bs ≡ [] → certified_in l (ns ++ vs) us bs ≡ certified_in l vs us bs) →
          cond b (n.value ∷ []) (certified_in l (ns ++ vs) us bs) ≡ certified_in l vs us bs
      go true e rest = absurd (nil_not_cons n.value [] (sym e))
      go false e rest = rest e

pub certified_found : (l : Limits) (ns vs : List Vote) (bs : List ℕ) (y : ℕ) →
    certified_in l ns (ns ++ vs) bs ≡ y ∷ [] →
    certified_in l (ns ++ vs) (ns ++ vs) bs ≡ y ∷ []
certified_found l ns vs bs y e = found_first l (ns ++ vs) bs ns vs y e

-- ONLY THE NEW VOTES NEED BE LOOKED AT

-- what was not certified before, and is not by a new vote, is not now
pub not_newly : (l : Limits) (ns vs : List Vote) (bs : List ℕ) (ws : List Vote) → certified_in l ns (ns ++ vs) bs ≡ [] →
    certified_in l ws vs bs ≡ [] → certified_in l ws (ns ++ vs) bs ≡ []
unfolding certified_in
not_newly l ns vs bs [] none before = refl
not_newly l ns vs bs (w ∷ ws) none before =
    go (is-certified l vs bs w) (is-certified l (ns ++ vs) bs w) refl refl before (not_newly l ns vs bs ws none)
  where
    go : (b c : Bool) → is-certified l vs bs w ≡ b → is-certified l (ns ++ vs) bs w ≡ c →
        cond b (w.value ∷ []) (certified_in l ws vs bs) ≡ [] →
        (certified_in l ws vs bs ≡ [] → certified_in l ws (ns ++ vs) bs ≡ []) →
        cond c (w.value ∷ []) (certified_in l ws (ns ++ vs) bs) ≡ []
    go true c was is before rest = absurd (nil_not_cons w.value [] (sym before))
    go false false was is before rest = rest before
    go false true was is before rest =
        let (kind, both) = and_parts _ _ is in
        let (q, here) = and_parts _ _ both in
        absurd (elim (quorum_among l cert w.period 0 w.value ns vs q) [
          | inl (i, at) ↦ certified_finds l (ns ++ vs) bs w.period w.value 0 i ns at q here none
          | inr old ↦ both_ways _ was (and_from _ _ kind (and_from _ _ old here))
        ])

pub certified-new : (l : Limits) (ns vs : List Vote) (bs : List ℕ) → certified_in l vs vs bs ≡ [] →
    certified_in l (ns ++ vs) (ns ++ vs) bs ≡ certified_in l ns (ns ++ vs) bs
certified-new l ns vs bs before =
    elim (certified_at_most_one l (ns ++ vs) bs ns) [
      | inl none ↦ not_first l (ns ++ vs) bs ns vs none ∙ not_newly l ns vs bs vs none before ∙ sym none
      | inr (y, e) ↦ certified_found l ns vs bs y e ∙ sym e
    ]

-- A BLOCK COMES

pub range_of : (l : Limits) (v : Vote) (vs : List Vote) → all_in_range l vs ≡ true → In v vs → Ranged l v
unfolding all_in_range
range_of l v [] good at = absurd (in_none v at)
range_of l v (w ∷ ws) good at =
    let (first, rest) = and_parts _ _ good in
    elim (in_cases v w ws at) [ inl e ↦ ranged l v (rw e first) | inr k ↦ range_of l v ws rest k ]

-- a quorum of votes in range is in one of the periods
pub in_periods : (l : Limits) (p x : ℕ) (vs : List Vote) → 1 ≤ l.members → all_in_range l vs ≡ true →
    Heard l vs cert p 0 x → certified_by l x l.periods vs ≡ true
in_periods l p x vs one good q =
    let (i, at) = quorum_some l cert p 0 x vs one q in
    let r : Ranged l (vote cert p 0 x i) = range_of l (vote cert p 0 x i) vs good at in
    let low : 1 ≤ p = r.from_1 in
    let high : p ≤ l.periods = r.periods in
    let same : p ≡ (p - 1) + 1 = omega arith in
    by_here l x (p - 1) l.periods vs (omega arith) (rw same at q)

-- a block that was here brings nothing
pub certified_known : (l : Limits) (vs : List Vote) (bs : List ℕ) (x n : ℕ) → 1 ≤ l.members → is_in x bs ≡ true →
    certified_in l vs vs bs ≡ [] → certified_by l x n vs ≡ false
certified_known l vs bs x n one here none =
    is_false _ (λ h. let (p, q) = by_some l x n vs h in some_certified l vs bs p x one q here none)

is_in_first : (x : ℕ) (bs : List ℕ) → is_in x (x ∷ bs) ≡ true
unfolding is_in
is_in_first x bs = or_left _ _ (eq-eqb x x refl)

is_in_cases : (y x : ℕ) (bs : List ℕ) → is_in y (x ∷ bs) ≡ true → (y ≡ x) ⊎ (is_in y bs ≡ true)
unfolding is_in
is_in_cases y x bs h = elim (or_cases _ _ h) [ inl e ↦ inl (eqb-true y x e) | inr k ↦ inr k ]

-- if no new vote certifies anything, a block that comes can certify only itself
pub certified_block : (l : Limits) (ns vs : List Vote) (bs : List ℕ) (x : ℕ) → certified_in l vs vs bs ≡ [] →
    all_in_range l (ns ++ vs) ≡ true → 1 ≤ l.members → certified_in l ns (ns ++ vs) (x ∷ bs) ≡ [] →
    certified_in l (ns ++ vs) (ns ++ vs) (x ∷ bs) ≡ cond (certified_by l x l.periods (ns ++ vs)) (x ∷ []) []
certified_block l ns vs bs x before good one none =
    elim (certified_at_most_one l us (x ∷ bs) us) [
      | inl e ↦ e ∙ sym (cond-false _ (x ∷ []) [] (certified_known l us (x ∷ bs) x _ one (is_in_first x bs) e))
      | inr (y, e) ↦ (let (p, q, b) = certified-has_both l us (x ∷ bs) y [] us e in found p y e q b)
    ]
  where
    us : List Vote
    us = ns ++ vs

    never : (p y : ℕ) → Heard l us cert p 0 y → is_in y (x ∷ bs) ≡ true → is_in y bs ≡ true → ⊥
    never p y q b old =
        elim (quorum_among l cert p 0 y ns vs q) [
          | inl (i, at) ↦ certified_finds l us (x ∷ bs) p y 0 i ns at q b none
          | inr q' ↦ some_certified l vs bs p y one q' old before
        ]

    found : (p y : ℕ) → certified_in l us us (x ∷ bs) ≡ y ∷ [] → Heard l us cert p 0 y → is_in y (x ∷ bs) ≡ true →
        certified_in l us us (x ∷ bs) ≡ cond (certified_by l x l.periods us) (x ∷ []) []
    found p y e q b =
        let same : y ≡ x = elim (is_in_cases y x bs b) [ inl is ↦ is | inr old ↦ absurd (never p y q b old) ] in
        (rw same at e) ∙ sym (cond-true _ (x ∷ []) [] (in_periods l p x us one good (rw same at q)))
