-- Every promise about networks, from the argument of `Agreement` and what holds of all that can happen.
use Rattle.std.proofs.Common.{◌≡◌, ℕ, ◌≤◌, Bool, true, false, cond, eqb, leb, ◌⊎◌, List, [], ◌∷◌, sym, refl, ap, ◌∙◌}
use Rattle.std.proofs.Common.{inl, inr, arith}
use Rattle.std.proofs.lemmas.Bool.{and_parts, and_from, not-true, not_from_false, eqb-true, eq-eqb, leb-true, both_ways}
use Rattle.std.proofs.lemmas.Bool.{or_from}
use Rattle.protocol.specs.Vote.{soft, cert, next, next_none, Vote, Limits}
use Rattle.protocol.specs.Member.{Member, is_in}
use Rattle.protocol.specs.Network.{Network, FewFaulty}
use Rattle.protocol.specs.Promises.{OneCertified, OneAgreed, clash, clash_any, no_clash, SaysOneThing, AgreedHasBoth}
use Rattle.protocol.specs.Promises.{OneChosen, HeardHasBundle, OneWayOn, LockedAfter, SaidOnce}
use Rattle.safety.specs.Said.{SaidIsOwn}
use Rattle.safety.proofs.Votes.{In, vote, in_here, in_later}
use Rattle.safety.proofs.Agreement.{Quorums, CameWith, CameFree, History, one_in_slot, one_way_on as no-two-ways}
use Rattle.safety.proofs.Agreement.{one_certified as no-two-certified, not_free-after, with_it_after}
use Rattle.safety.proofs.Counting.{is_false, counting}
use Rattle.safety.proofs.Keeps.{Heard, OnePlace, Reason, Keeps}
use Rattle.safety.proofs.Chosen.{nil_not_cons, first_equal, chosen-has_both}
use Rattle.safety.proofs.Reached.{Honest, Sound, reachable_sound}
use Rattle.safety.proofs.Bundles.{said_in, CanShow, bundle_shows, heard_shows, heard_has_bundle as bundle-of-heard}

-- WHAT WAS SAID HAS A HISTORY

module _ (l : Limits) (faulty : ℕ → Bool) (w : Network) (sound : Sound l faulty w) where
  -- whoever said a vote is honest, and heard it itself
  pub record Speaker (v : Vote) : Type 0 where
    pub honest : Honest l faulty v.from
    pub keeps : Keeps l v.from (w.member v.from)
    pub heard : In v (w.member v.from).votes

  pub speaker : (v : Vote) → In v w.said → Speaker v
  speaker v h =
      let honest : Honest l faulty v.from = sound.said-honest v h in
      record { honest = honest; keeps = sound.keeps v.from honest; heard = sound.said_heard v.from v h refl }

  -- what a member heard can be shown
  pub free_shown : (i p : ℕ) → Honest l faulty i → CameFree (Heard l (w.member i).votes) p →
      CameFree (CanShow l faulty w) p
  free_shown i p honest (inl e) = inl e
  free_shown i p honest (inr (q, s, y, e, h)) =
      inr (q, s, y, e, heard_shows l faulty w sound i honest next_none q s y h)

  pub with_shown : (i p x : ℕ) → Honest l faulty i → CameWith (Heard l (w.member i).votes) p x →
      CameWith (CanShow l faulty w) p x
  with_shown i p x honest (q, s, e, h) = (q, s, e, heard_shows l faulty w sound i honest next q s x h)

  -- of what one member said: one thing in a place
  pub said_one_thing : (i : ℕ) (v u : Vote) → In v w.said → In u w.said → v.from ≡ i → u.from ≡ i →
      OnePlace v u → v ≡ u
  said_one_thing i v u hv hu fv fu o =
      let honest : Honest l faulty i = rw fv at (sound.said-honest v hv) in
      (sound.keeps i honest).own.one_thing v u (sound.said_heard i v hv fv) (sound.said_heard i u hu fu) fv fu o

  pub said-certain_on : (i : ℕ) (v u : Vote) → In v w.said → In u w.said → v.from ≡ i → u.from ≡ i →
      v.kind ≡ cert → next ≤ u.kind → v.period ≡ u.period → (u.kind ≡ next) × (u.value ≡ v.value)
  said-certain_on i v u hv hu fv fu =
      let honest : Honest l faulty i = rw fv at (sound.said-honest v hv) in
      (sound.keeps i honest).own.certain_on v u (sound.said_heard i v hv fv) (sound.said_heard i u hu fu) fv fu

  pub said_because : (v : Vote) → In v w.said → Reason l (w.member v.from).votes v
  said_because v h = let s : Speaker v = speaker v h in s.keeps.own.reason v s.heard refl

  pub history : History (said_in w) (CanShow l faulty w)
  history =
      record {
        from-period_1 = λ k p s x i h.
            let a : Speaker (vote k p s x i) = speaker _ h in (a.keeps.heard.in_range _ a.heard).from_1;
        soft_because = λ p x i h.
            elim ((said_because _ h).soft_because refl) [
              | inl f ↦ inl (free_shown i p (sound.said-honest _ h) f)
              | inr c ↦ inr (with_shown i p x (sound.said-honest _ h) c)
            ];
        cert_because = λ p x i h.
            heard_shows l faulty w sound i (sound.said-honest _ h) soft p 0 x ((said_because _ h).cert_because refl);
        next_because = λ p s x i h.
            elim ((said_because _ h).next_because refl) [
              | inl q ↦ inl (heard_shows l faulty w sound i (sound.said-honest _ h) soft p 0 x q)
              | inr c ↦ inr (with_shown i p x (sound.said-honest _ h) c)
            ];
        none_because = λ p s x i h. free_shown i p (sound.said-honest _ h) ((said_because _ h).none_because refl);
        one_value = λ k p s x y i h g.
            ap (λ (v : Vote). v.value)
            (said_one_thing i (vote k p s x i) (vote k p s y i) h g refl refl
            (record { period = refl; step = refl; kind = inl refl }));
        not_both = λ p s x y i h g.
            let same : next ≡ next_none =
            ap (λ (v : Vote). v.kind)
            (said_one_thing i (vote next p s x i) (vote next_none p s y i) h g refl refl
            (record { period = refl; step = refl; kind = inr (omega arith, omega arith) })) in
            omega arith;
        certain_goes_on = λ p s x y i h g.
            (said-certain_on i (vote cert p 0 x i) (vote next p s y i) h g refl refl refl (omega arith) refl).1;
        certain_not_none = λ p s x y i h g.
            let v : Vote = vote cert p 0 x i in
            let u : Vote = vote next_none p s y i in
            let same : next_none ≡ next = (said-certain_on i v u h g refl refl refl (omega arith) refl).0 in
            omega arith;
      }

-- THE PROMISES

-- two quorums of one kind, period and step that can be shown are for one value
pub one_shown : (l : Limits) (faulty : ℕ → Bool) (w : Network) → FewFaulty l faulty → Sound l faulty w →
    (k p s a b : ℕ) → CanShow l faulty w k p s a → CanShow l faulty w k p s b → a ≡ b
one_shown l faulty w few sound =
    one_in_slot (said_in w) (CanShow l faulty w) (counting l faulty (said_in w) few) (history l faulty w sound)

pub one_shown_certified : (l : Limits) (faulty : ℕ → Bool) (w : Network) → FewFaulty l faulty → Sound l faulty w →
    (p q a b : ℕ) → CanShow l faulty w cert p 0 a → CanShow l faulty w cert q 0 b → a ≡ b
one_shown_certified l faulty w few sound =
    no-two-certified (said_in w) (CanShow l faulty w) (counting l faulty (said_in w) few) (history l faulty w sound)

pub one_certified : (can : ℕ → Bool) → OneCertified can
one_certified can l faulty w good few r p q a b vs us cv cu =
    one_shown_certified l faulty w few (reachable_sound l faulty r) p q a b
    (bundle_shows l faulty w cert p 0 a vs cv) (bundle_shows l faulty w cert q 0 b us cu)

-- what is agreed has its block and a quorum
pub agreed_because : (l : Limits) (faulty : ℕ → Bool) (w : Network) (i a : ℕ) → Sound l faulty w → Honest l faulty i →
    (w.member i).agreed ≡ a ∷ [] →
    (p : ℕ) × (is_in a (w.member i).blocks ≡ true) × Heard l (w.member i).votes cert p 0 a
agreed_because l faulty w i a sound honest e =
    elim (sound.keeps i honest).agreed [
      | inl none ↦ absurd (nil_not_cons a [] (sym none ∙ e))
      | inr (b, p, is, here, h) ↦
          (let same : b ≡ a = first_equal b a [] [] (sym is ∙ e) in (p, rw same at here, rw same at h))
    ]

pub one_agreed : (can : ℕ → Bool) → OneAgreed can
one_agreed can l faulty w good few r i j a b li lj gi gj ea eb =
    let sound : Sound l faulty w = reachable_sound l faulty r in
    let hi : Honest l faulty i = record { member = li; not_faulty = gi } in
    let hj : Honest l faulty j = record { member = lj; not_faulty = gj } in
    let (p, x, qa) = agreed_because l faulty w i a sound hi ea in
    let (q, y, qb) = agreed_because l faulty w j b sound hj eb in
    one_shown_certified l faulty w few sound p q a b
    (heard_shows l faulty w sound i hi cert p 0 a qa) (heard_shows l faulty w sound j hj cert q 0 b qb)

pub agreed-has_both : (can : ℕ → Bool) → AgreedHasBoth can
agreed-has_both can l faulty w good few r i a li gi e =
    let sound : Sound l faulty w = reachable_sound l faulty r in
    let hi : Honest l faulty i = record { member = li; not_faulty = gi } in
    let (p, here, q) = agreed_because l faulty w i a sound hi e in
    (here, (p, bundle-of-heard l faulty w sound i cert p 0 a hi q))

pub one_chosen : (can : ℕ → Bool) → OneChosen can
one_chosen can l faulty w good few r i j a b li lj gi gj same ea eb =
    let sound : Sound l faulty w = reachable_sound l faulty r in
    let hi : Honest l faulty i = record { member = li; not_faulty = gi } in
    let hj : Honest l faulty j = record { member = lj; not_faulty = gj } in
    let m : Member = w.member i in
    let n : Member = w.member j in
    let qa : Heard l m.votes soft m.period 0 a =
    (chosen-has_both l m.votes m.blocks m.period a [] m.votes ea).0 in
    let qb : Heard l n.votes soft n.period 0 b =
    (chosen-has_both l n.votes n.blocks n.period b [] n.votes eb).0 in
    one_shown l faulty w few sound soft n.period 0 a b
    (rw same at (heard_shows l faulty w sound i hi soft m.period 0 a qa))
    (heard_shows l faulty w sound j hj soft n.period 0 b qb)

pub heard_has_bundle : (can : ℕ → Bool) → HeardHasBundle can
heard_has_bundle can l faulty w good few r i k p s x li gi h =
    bundle-of-heard l faulty w (reachable_sound l faulty r) i k p s x (record { member = li; not_faulty = gi }) h

pub one_way_on : (can : ℕ → Bool) → OneWayOn can
one_way_on can l faulty w good few r =
    let sound : Sound l faulty w = reachable_sound l faulty r in
    record {
      value_or_none = λ p s a b vs us x y.
          no-two-ways (said_in w) (CanShow l faulty w) (counting l faulty (said_in w) few) (history l faulty w sound)
          p s a b (bundle_shows l faulty w next p s a vs x) (bundle_shows l faulty w next_none p s b us y);
      one_value = λ p s a b vs us x y.
          one_shown l faulty w few sound next p s a b
          (bundle_shows l faulty w next p s a vs x) (bundle_shows l faulty w next p s b us y);
    }

pub locked_after : (can : ℕ → Bool) → LockedAfter can
locked_after can l faulty w good few r p a i vs c li gi later = go (w.member i).free refl
  where
    sound : Sound l faulty w
    sound = reachable_sound l faulty r

    honest : Honest l faulty i
    honest = record { member = li; not_faulty = gi }

    quorums : Quorums (said_in w) (CanShow l faulty w)
    quorums = counting l faulty (said_in w) few

    q : ℕ
    q = (w.member i).period

    shown : CanShow l faulty w cert p 0 a
    shown = bundle_shows l faulty w cert p 0 a vs c

    go : (b : Bool) → (w.member i).free ≡ b → ((w.member i).start ≡ a ∷ []) × ((w.member i).free ≡ false)
    go true free =
        absurd (not_free-after (said_in w) (CanShow l faulty w) quorums (history l faulty w sound) p q a shown later
        (free_shown l faulty w sound i q honest ((sound.keeps i honest).came.if_free free).1))
    go false held =
        let (x, start, came, small) = (sound.keeps i honest).came.else_with held in
        let is : x ≡ a =
        with_it_after (said_in w) (CanShow l faulty w) quorums (history l faulty w sound) p q a x shown later
        (with_shown l faulty w sound i q x honest came) in
        (rw is at start, held)

-- WHAT IS SAID, AS LISTS

places : (j k : ℕ) → eqb (cond (leb next j) next j) (cond (leb next k) next k) ≡ true →
    (j ≡ k) ⊎ ((next ≤ j) × (next ≤ k))
places j k h = go (leb next j) (leb next k) (leb-true next j) (leb-true next k) h
  where
    go : (b c : Bool) → (b ≡ true → next ≤ j) → (c ≡ true → next ≤ k) → eqb (cond b next j) (cond c next k) ≡ true →
        (j ≡ k) ⊎ ((next ≤ j) × (next ≤ k))
    go true true hb hc h = inr (hb refl, hc refl)
    go true false hb hc h = inr (hb refl, omega (arith, eqb-true next k h))
    go false true hb hc h = inr (omega (arith, eqb-true j next h), hc refl)
    go false false hb hc h = inl (eqb-true j k h)

module _ (l : Limits) (faulty : ℕ → Bool) (w : Network) (sound : Sound l faulty w) where
  pub never_clash : (v u : Vote) → In v w.said → In u w.said → clash v u ≡ true → ⊥
  never_clash v u hv hu h =
      let (a, b) = and_parts _ _ h in
      let (c, d) = and_parts _ _ a in
      let (from, period) = and_parts _ _ c in
      let (step, kind) = and_parts _ _ d in
      let same : v ≡ u =
      said_one_thing l faulty w sound u.from v u hv hu (eqb-true _ _ from) refl
      (record { period = eqb-true _ _ period; step = eqb-true _ _ step; kind = places _ _ kind }) in
      both_ways _ (not-true _ b)
      (and_from _ _ (eq-eqb _ _ (ap (λ (x : Vote). x.kind) same)) (eq-eqb _ _ (ap (λ (x : Vote). x.value) same)))

  no_clash_any : (v : Vote) (us : List Vote) → In v w.said → ((u : Vote) → In u us → In u w.said) →
      clash_any v us ≡ false
  unfolding clash_any
  no_clash_any v [] hv sub = refl
  no_clash_any v (u ∷ us) hv sub =
      or_from _ _ (is_false (clash v u) (never_clash v u hv (sub u (in_here u us))))
      (no_clash_any v us hv (λ x h. sub x (in_later x u us h)))

  pub no_clash_in : (us : List Vote) → ((u : Vote) → In u us → In u w.said) → no_clash us ≡ true
  unfolding no_clash
  no_clash_in [] sub = refl
  no_clash_in (u ∷ us) sub =
      and_from _ _ (not_from_false _ (no_clash_any u us (sub u (in_here u us)) (λ x h. sub x (in_later x u us h))))
      (no_clash_in us (λ x h. sub x (in_later x u us h)))

pub says_one_thing : (can : ℕ → Bool) → SaysOneThing can
says_one_thing can l faulty w good few r = no_clash_in l faulty w (reachable_sound l faulty r) w.said (λ u h. h)

pub said_once : (can : ℕ → Bool) → SaidOnce can
said_once can l faulty w good few r = (reachable_sound l faulty r).said_once

-- two tests that hold together are one
same_test : (a b : Bool) → (a ≡ true → b ≡ true) → (b ≡ true → a ≡ true) → a ≡ b
same_test true b f g = sym (f refl)
same_test false true f g = g refl
same_test false false f g = refl

pub said-is-own : (can : ℕ → Bool) → SaidIsOwn can
said-is-own can l faulty w good few r i v li gi from =
    let sound : Sound l faulty w = reachable_sound l faulty r in
    same_test _ _ (λ h. sound.said_heard i v h from)
    (λ h. sound.can_have_come i v (record { member = li; not_faulty = gi }) h (rw from gi))
