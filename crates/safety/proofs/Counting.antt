-- Counting votes: what a quorum of votes gives. This file alone looks into `has_quorum`, and it supplies all that
-- agreement needs of quorums.
use Rattle.std.proofs.Common.{◌≡◌, ℕ, suc, ◌+◌, ◌<◌, ◌≤◌, Bool, true, false, cond, not, ◌⊎◌, List, [], ◌∷◌, sym, refl}
use Rattle.std.proofs.Common.{ap, ◌∙◌, inl, inr, arith}
use Rattle.std.proofs.lemmas.Bool.{and_parts, and_from, eqb-true, leb-true, le-leb, not-true}
use Rattle.protocol.specs.Vote.{cert, next, next_none, Vote, Limits, slot_taken, is_vote_in, is_for, count, quorum}
use Rattle.protocol.specs.Vote.{has_quorum}
use Rattle.protocol.specs.Network.{all_different, how_many, FewFaulty}
use Rattle.protocol.proofs.Votes.{SamePlace, same_votes}
use Rattle.protocol.proofs.Counting.{how_many-none}
use Rattle.safety.proofs.Votes.{In, vote, in_none, in_cases, in_here, in_first, in_later, free_slot}
use Rattle.safety.proofs.Meeting.{Meet, meet, enough_for_two, how_many_grows, how_many_more}
use Rattle.safety.proofs.Agreement.{Quorums, Common}

pub is_false : (b : Bool) → (b ≡ true → ⊥) → b ≡ false
is_false true never = absurd (never refl)
is_false false never = refl

pub is-vote : (k p s x : ℕ) (w : Vote) → is_for k p s x w ≡ true → w ≡ vote k p s x w.from
is-vote k p s x w h =
    let a : _ = and_parts _ _ h in
    let b : _ = and_parts _ _ a.0 in
    let c : _ = and_parts _ _ b.0 in
    same_votes w (vote k p s x w.from)
    (record {
      kind = sym (eqb-true _ _ c.0);
      period = sym (eqb-true _ _ c.1);
      step = sym (eqb-true _ _ b.1);
      from = refl;
    })
    (sym (eqb-true _ _ a.1))

-- votes as a member hears them, or a bundle has them: none twice in one slot, and all of members
pub record Fair (n : ℕ) (vs : List Vote) : Type 0 where
  pub different : all_different vs ≡ true
  pub of_members : (v : Vote) → In v vs → v.from < n

pub fair_rest : (n : ℕ) (v : Vote) (vs : List Vote) → Fair n (v ∷ vs) → Fair n vs
unfolding all_different
fair_rest n v vs f =
    record { different = (and_parts _ _ f.different).1; of_members = λ w h. f.of_members w (in_later w v vs h) }

pub fair_first : (n : ℕ) (v : Vote) (vs : List Vote) → Fair n (v ∷ vs) → slot_taken v vs ≡ false
unfolding all_different
fair_first n v vs f = not-true _ (and_parts _ _ f.different).0

pub fair_more : (n : ℕ) (v : Vote) (vs : List Vote) → Fair n vs → slot_taken v vs ≡ false → v.from < n →
    Fair n (v ∷ vs)
unfolding all_different
fair_more n v vs f free lt =
    record {
      different = and_from _ _ (ap not free) f.different;
      of_members = λ w h. elim (in_cases w v vs h) [ inl e ↦ rw e lt | inr k ↦ f.of_members w k ];
    }

-- two votes of one member in one slot are one
pub fair_once : (n : ℕ) (v w : Vote) (vs : List Vote) → Fair n vs → In v vs → In w vs → SamePlace v w → v ≡ w
fair_once n v w [] f hv hw s = absurd (in_none v hv)
fair_once n v w (u ∷ us) f hv hw s =
    go (in_cases v u us hv) (in_cases w u us hw) (λ a b. fair_once n v w us (fair_rest n u us f) a b s)
  where
    back : SamePlace w v
    back = record { kind = sym s.kind; period = sym s.period; step = sym s.step; from = sym s.from }

    go : (v ≡ u) ⊎ In v us → (w ≡ u) ⊎ In w us → (In v us → In w us → v ≡ w) → v ≡ w
    go (inl e) (inl d) rest = e ∙ sym d
    go (inl e) (inr b) rest = absurd (free_slot u w us (fair_first n u us f) b (rw e at s))
    go (inr a) (inl d) rest = absurd (free_slot u v us (fair_first n u us f) a (rw d at back))
    go (inr a) (inr b) rest = rest a b

-- COUNTED BY MEMBER

abbrev pub voters : (k p s x : ℕ) → List Vote → ℕ → Bool
voters k p s x vs i = is_vote_in (vote k p s x i) vs

-- fair votes are counted as the members that gave them
pub counted : (n k p s x : ℕ) (vs : List Vote) → Fair n vs → count k p s x vs ≤ how_many n (voters k p s x vs)
unfolding count
counted n k p s x [] f = omega arith
counted n k p s x (w ∷ ws) f = go (is_for k p s x w) refl (counted n k p s x ws (fair_rest n w ws f))
  where
    wider : (i : ℕ) → voters k p s x ws i ≡ true → voters k p s x (w ∷ ws) i ≡ true
    wider i h = in_later _ w ws h

    go : (b : Bool) → is_for k p s x w ≡ b → count k p s x ws ≤ how_many n (voters k p s x ws) →
        cond b 1 0 + count k p s x ws ≤ how_many n (voters k p s x (w ∷ ws))
    go false e h =
        let more : _ = how_many_grows n (voters k p s x ws) (voters k p s x (w ∷ ws)) wider in omega arith
    go true e h =
        let is : w ≡ vote k p s x w.from = is-vote k p s x w e in
        let here : SamePlace w (vote k p s x w.from) =
        record {
          kind = ap (λ (v : Vote). v.kind) is;
          period = ap (λ (v : Vote). v.period) is;
          step = ap (λ (v : Vote). v.step) is;
          from = refl;
        } in
        let off : voters k p s x ws w.from ≡ false =
        is_false _ (λ h. free_slot w _ ws (fair_first n w ws f) h here) in
        let more : suc (how_many n (voters k p s x ws)) ≤ how_many n (voters k p s x (w ∷ ws)) =
        how_many_more n w.from (voters k p s x ws) (voters k p s x (w ∷ ws)) wider
        (f.of_members w (in_here w ws)) off (in_first _ w ws (sym is)) in
        omega arith

pub quorum_of : (l : Limits) (k p s x : ℕ) (vs : List Vote) → has_quorum l k p s x vs ≡ true →
    quorum l.members ≤ count k p s x vs
unfolding has_quorum
quorum_of l k p s x vs h = leb-true _ _ h

pub quorum_of_members : (l : Limits) (k p s x : ℕ) (vs : List Vote) → Fair l.members vs →
    has_quorum l k p s x vs ≡ true → quorum l.members ≤ how_many l.members (voters k p s x vs)
quorum_of_members l k p s x vs f h =
    let a : _ = counted l.members k p s x vs f in
    let b : _ = quorum_of l k p s x vs h in
    omega arith

-- WHAT ONE MEMBER HEARD

-- a quorum stays one when more is heard
pub quorum-stays : (l : Limits) (k p s x : ℕ) (v : Vote) (vs : List Vote) → has_quorum l k p s x vs ≡ true →
    has_quorum l k p s x (v ∷ vs) ≡ true
unfolding has_quorum count
quorum-stays l k p s x v vs h = let a : _ = leb-true _ _ h in le-leb _ _ (omega arith)

pub some_voter : (k p s x : ℕ) (vs : List Vote) → 1 ≤ count k p s x vs → (i : ℕ) × In (vote k p s x i) vs
unfolding count
some_voter k p s x [] h = absurd (omega arith)
some_voter k p s x (w ∷ ws) h = go (is_for k p s x w) refl h (some_voter k p s x ws)
  where
    go : (b : Bool) → is_for k p s x w ≡ b → 1 ≤ cond b 1 0 + count k p s x ws →
        (1 ≤ count k p s x ws → (i : ℕ) × In (vote k p s x i) ws) → (i : ℕ) × In (vote k p s x i) (w ∷ ws)
    go true e h rest = (w.from, in_first _ w ws (sym (is-vote k p s x w e)))
    go false e h rest = let (i, at) = rest (omega arith) in (i, in_later _ w ws at)

-- there is a vote in a quorum
pub quorum_some : (l : Limits) (k p s x : ℕ) (vs : List Vote) → 1 ≤ l.members → has_quorum l k p s x vs ≡ true →
    (i : ℕ) × In (vote k p s x i) vs
quorum_some l k p s x vs one h =
    let a : _ = quorum_of l k p s x vs h in some_voter k p s x vs (omega arith)

-- two quorums of one slot that one member heard are for one value
pub quorum_one : (l : Limits) (k p s x y : ℕ) (vs : List Vote) → 1 ≤ l.members → Fair l.members vs →
    has_quorum l k p s x vs ≡ true → has_quorum l k p s y vs ≡ true → x ≡ y
quorum_one l k p s x y vs one f hx hy =
    let n : ℕ = l.members in
    let none : _ = how_many-none n in
    let m : Meet n (λ i. false) (voters k p s x vs) (voters k p s y vs) =
    meet n (λ i. false) (voters k p s x vs) (voters k p s y vs)
    (enough_for_two n _ _ _ one (omega arith)
    (quorum_of_members l k p s x vs f hx) (quorum_of_members l k p s y vs f hy)) in
    ap (λ (v : Vote). v.value)
    (fair_once n (vote k p s x m.0) (vote k p s y m.0) vs f m.1.2 m.1.3
    (record { kind = refl; period = refl; step = refl; from = refl }))

-- only the votes of one kind, period, step and value: they count as before
unfoldable pub picked : (k p s x : ℕ) → List Vote → List Vote
picked k p s x [] = []
picked k p s x (w ∷ ws) = cond (is_for k p s x w) (w ∷ picked k p s x ws) (picked k p s x ws)

count_picked : (k p s x : ℕ) (vs : List Vote) → count k p s x vs ≤ count k p s x (picked k p s x vs)
unfolding count picked
count_picked k p s x [] = omega arith
count_picked k p s x (w ∷ ws) = go (is_for k p s x w) refl (count_picked k p s x ws)
  where
    go : (b : Bool) → is_for k p s x w ≡ b → count k p s x ws ≤ count k p s x (picked k p s x ws) →
        cond b 1 0 + count k p s x ws ≤ count k p s x (cond b (w ∷ picked k p s x ws) (picked k p s x ws))
    go true e h = rw e (omega arith)
    go false e h = omega arith

pub quorum_picked : (l : Limits) (k p s x : ℕ) (vs : List Vote) → has_quorum l k p s x vs ≡ true →
    has_quorum l k p s x (picked k p s x vs) ≡ true
unfolding has_quorum
quorum_picked l k p s x vs h =
    let a : _ = leb-true _ _ h in
    let b : _ = count_picked k p s x vs in
    le-leb _ _ (omega arith)

-- QUORUMS THAT CAN BE SHOWN

-- fair votes with a quorum, of which those of honest members were said
pub record Shown (l : Limits) (faulty : ℕ → Bool) (said : Vote → Bool) (k p s x : ℕ) : Type 0 where
  pub votes : List Vote
  pub fair : Fair l.members votes
  pub possible : (v : Vote) → In v votes → faulty v.from ≡ false → said v ≡ true
  pub enough : has_quorum l k p s x votes ≡ true

-- of fewer than a third faulty, any two have an honest member in common
pub in_common : (l : Limits) (faulty : ℕ → Bool) (said : Vote → Bool) (k p s x k' p' s' x' : ℕ) → FewFaulty l faulty →
    Shown l faulty said k p s x → Shown l faulty said k' p' s' x' → Common said k p s x k' p' s' x'
in_common l faulty said k p s x k' p' s' x' few a b =
    let n : ℕ = l.members in
    let m : Meet n faulty (voters k p s x a.votes) (voters k' p' s' x' b.votes) =
    meet n faulty (voters k p s x a.votes) (voters k' p' s' x' b.votes)
    (enough_for_two n _ _ _ (omega arith) few
    (quorum_of_members l k p s x a.votes a.fair a.enough)
    (quorum_of_members l k' p' s' x' b.votes b.fair b.enough)) in
    (m.0, a.possible _ m.1.2 m.1.1, b.possible _ m.1.3 m.1.1)

pub counting : (l : Limits) (faulty : ℕ → Bool) (said : Vote → Bool) → FewFaulty l faulty →
    Quorums said (Shown l faulty said)
counting l faulty said few =
    record {
      some_honest = λ k p s x a. let (i, v, w) = in_common l faulty said k p s x k p s x few a a in (i, v);
      one_slot = λ k p s x y a b. in_common l faulty said k p s x k p s y few a b;
      certain_and_on = λ p s x y a b. in_common l faulty said cert p 0 x next p s y few a b;
      certain_and_none = λ p s x y a b. in_common l faulty said cert p 0 x next_none p s y few a b;
      value_and_none = λ p s x y a b. in_common l faulty said next p s x next_none p s y few a b;
    }
