-- Why no two values are certified: the argument, with no member, no event and no network in it.
--
-- We look at one moment. `said` is all that honest members ever said. `Could k p s x` says that a quorum of votes of
-- kind k in period p at step s for x could be shown to somebody: from what was said, and what faulty members may say.
--
-- What is used of quorums is the record `Quorums`: in each quorum some honest member voted; and two quorums have an
-- honest member in common if they are of one slot, or if one is certain of a value and the other goes on from the same
-- period, or if they go on from the same step, one with a value and one with none.
-- What is used of honest members is the record `History`: a reason for each vote, and what no member ever says.
--
-- 1. Of one slot there is one value: the common member would have said two things in one slot.
-- 2. Let a quorum be certain of a in period p. Whoever goes on from p is a quorum too, and has a member in common with
--    the first. That member said that it is certain of a, and such a one goes on from p with a alone. So every quorum
--    that goes on from p goes on with a, never with none and never with another value: p is locked to a.
-- 3. Let p be locked to a. In period p + 1, who votes softly came either free, which needs a quorum that went on from p
--    with none, or with a value of a quorum that went on from p. So all soft votes of p + 1 are for a, and so is a soft
--    quorum. Who goes on from p + 1 does so with the value of a soft quorum of p + 1, or with what it came with: both
--    are a. Or with none, if it came free: nobody did. So p + 1 is locked to a as well.
-- 4. So every period from p on is locked to a, and in every later one a soft quorum is for a. Who is certain of b in a
--    later period has seen a soft quorum for b there: b is a. And in p itself, two quorums that are certain are of one
--    slot. So no two values are certified, in whatever periods.
use Rattle.std.proofs.Common.{◌≡◌, ℕ, zero, suc, ◌+◌, ◌-◌, ◌<◌, ◌≤◌, Bool, true, ◌⊎◌, sym, inl, inr, suc-add, zero-add}
use Rattle.std.proofs.Common.{arith}
use Rattle.std.proofs.lemmas.Bool.{cases_order}
use Rattle.protocol.specs.Vote.{soft, cert, next, next_none, Vote}
use Rattle.safety.proofs.Votes.{vote}

-- some honest member said it
abbrev pub Someone : (Vote → Bool) → (k p s x : ℕ) → Type 0
Someone said k p s x = (i : ℕ) × (said (vote k p s x i) ≡ true)

-- some honest member said both
abbrev pub Common : (Vote → Bool) → (k p s x k' p' s' x' : ℕ) → Type 0
Common said k p s x k' p' s' x' = (i : ℕ) × (said (vote k p s x i) ≡ true) × (said (vote k' p' s' x' i) ≡ true)

-- ALL THAT AGREEMENT NEEDS OF QUORUMS. Counting members supplies it; whoever weighs members, draws committees or
-- changes the membership supplies another, and nothing else in this file changes.
pub record Quorums (said : Vote → Bool) (Could : ℕ → ℕ → ℕ → ℕ → Type 0) : Type 0 where
  -- a quorum has an honest member in it
  pub some_honest : (k p s x : ℕ) → Could k p s x → Someone said k p s x
  -- two quorums of one slot have an honest member in common
  pub one_slot : (k p s x y : ℕ) → Could k p s x → Could k p s y → Common said k p s x k p s y
  -- so have a certificate and a quorum that goes on from its period, with a value or with none
  pub certain_and_on : (p s x y : ℕ) → Could cert p 0 x → Could next p s y → Common said cert p 0 x next p s y
  pub certain_and_none : (p s x y : ℕ) → Could cert p 0 x → Could next_none p s y →
      Common said cert p 0 x next_none p s y
  -- and two quorums that go on from one step, with a value and with none
  pub value_and_none : (p s x y : ℕ) → Could next p s x → Could next_none p s y → Common said next p s x next_none p s y

-- HOW A PERIOD IS ENTERED

-- with a value: a quorum went on with it from the period before
abbrev pub CameWith : (ℕ → ℕ → ℕ → ℕ → Type 0) → (p x : ℕ) → Type 0
CameWith Could p x = (q s : ℕ) × (p ≡ suc q) × Could next q s x

-- free: it is the first period, or a quorum went on with none
abbrev pub CameFree : (ℕ → ℕ → ℕ → ℕ → Type 0) → (p : ℕ) → Type 0
CameFree Could p = (p ≡ 1) ⊎ ((q s y : ℕ) × (p ≡ suc q) × Could next_none q s y)

-- WHAT HONEST MEMBERS SAY, AND WHY
pub record History (said : Vote → Bool) (Could : ℕ → ℕ → ℕ → ℕ → Type 0) : Type 0 where
  pub from-period_1 : (k p s x i : ℕ) → said (vote k p s x i) ≡ true → 1 ≤ p
  -- a reason for each vote
  pub soft_because : (p x i : ℕ) → said (vote soft p 0 x i) ≡ true → CameFree Could p ⊎ CameWith Could p x
  pub cert_because : (p x i : ℕ) → said (vote cert p 0 x i) ≡ true → Could soft p 0 x
  pub next_because : (p s x i : ℕ) → said (vote next p s x i) ≡ true → Could soft p 0 x ⊎ CameWith Could p x
  pub none_because : (p s x i : ℕ) → said (vote next_none p s x i) ≡ true → CameFree Could p
  -- one value in a slot, and at one step not both with a value and with none
  pub one_value : (k p s x y i : ℕ) → said (vote k p s x i) ≡ true → said (vote k p s y i) ≡ true → x ≡ y
  pub not_both : (p s x y i : ℕ) → said (vote next p s x i) ≡ true → said (vote next_none p s y i) ≡ true → ⊥
  -- who is certain of a value in a period goes on from it with that value
  pub certain_goes_on : (p s x y i : ℕ) → said (vote cert p 0 x i) ≡ true → said (vote next p s y i) ≡ true → y ≡ x
  pub certain_not_none : (p s x y i : ℕ) → said (vote cert p 0 x i) ≡ true → said (vote next_none p s y i) ≡ true → ⊥

-- a period is locked to a value: every quorum that goes on from it goes on with that value
pub record Locked (Could : ℕ → ℕ → ℕ → ℕ → Type 0) (p a : ℕ) : Type 0 where
  pub only : (s x : ℕ) → Could next p s x → x ≡ a
  pub never_none : (s x : ℕ) → Could next_none p s x → ⊥

module _ (said : Vote → Bool) (Could : ℕ → ℕ → ℕ → ℕ → Type 0)
    (quorums : Quorums said Could) (history : History said Could) where
  -- 1
  pub one_in_slot : (k p s x y : ℕ) → Could k p s x → Could k p s y → x ≡ y
  one_in_slot k p s x y cx cy =
      let (i, a, b) = quorums.one_slot k p s x y cx cy in history.one_value k p s x y i a b

  pub one_way_on : (p s x y : ℕ) → Could next p s x → Could next_none p s y → ⊥
  one_way_on p s x y cx cy =
      let (i, a, b) = quorums.value_and_none p s x y cx cy in history.not_both p s x y i a b

  -- 2
  pub certificate_locks : (p a : ℕ) → Could cert p 0 a → Locked Could p a
  certificate_locks p a c =
      record {
        only = λ s x on.
            let (i, v, w) = quorums.certain_and_on p s a x c on in history.certain_goes_on p s a x i v w;
        never_none = λ s x on.
            let (i, v, w) = quorums.certain_and_none p s a x c on in history.certain_not_none p s a x i v w;
      }

  -- 3
  pub none_free : (p a : ℕ) → 1 ≤ p → Locked Could p a → CameFree Could (suc p) → ⊥
  none_free p a one lock (inl first) = omega arith
  none_free p a one lock (inr (q, s, y, e, on)) =
      let back : q ≡ p = omega arith in lock.never_none s y (rw back at on)

  pub came_with_it : (p a x : ℕ) → Locked Could p a → CameWith Could (suc p) x → x ≡ a
  came_with_it p a x lock (q, s, e, on) =
      let back : q ≡ p = omega arith in lock.only s x (rw back at on)

  pub soft_for_it : (p a x : ℕ) → 1 ≤ p → Locked Could p a → Could soft (suc p) 0 x → x ≡ a
  soft_for_it p a x one lock c =
      let (i, v) = quorums.some_honest soft (suc p) 0 x c in
      elim (history.soft_because (suc p) x i v)
      [ inl free ↦ absurd (none_free p a one lock free) | inr came ↦ came_with_it p a x lock came ]

  pub lock_goes_on : (p a : ℕ) → 1 ≤ p → Locked Could p a → Locked Could (suc p) a
  lock_goes_on p a one lock =
      record {
        only = λ s x on.
            let (i, v) = quorums.some_honest next (suc p) s x on in
            elim (history.next_because (suc p) s x i v)
            [ inl chosen ↦ soft_for_it p a x one lock chosen | inr came ↦ came_with_it p a x lock came ];
        never_none = λ s x on.
            let (i, v) = quorums.some_honest next_none (suc p) s x on in
            none_free p a one lock (history.none_because (suc p) s x i v);
      }

  -- 4
  pub locked_from : (p a n : ℕ) → 1 ≤ p → Could cert p 0 a → Locked Could (n + p) a
  locked_from p a zero one c = rw zero-add (certificate_locks p a c)
  locked_from p a (suc n) one c = rw suc-add (lock_goes_on (n + p) a (omega arith) (locked_from p a n one c))

  pub certificate_from_1 : (p a : ℕ) → Could cert p 0 a → 1 ≤ p
  certificate_from_1 p a c =
      let (i, v) = quorums.some_honest cert p 0 a c in history.from-period_1 cert p 0 a i v

  -- the period before a later one is locked
  pub locked_before : (p q a : ℕ) → Could cert p 0 a → p ≤ q → Locked Could q a
  locked_before p q a c le =
      let e : (q - p) + p ≡ q = omega arith in
      rw e at (locked_from p a (q - p) (certificate_from_1 p a c) c)

  pub later_soft : (p q a x : ℕ) → Could cert p 0 a → p < q → Could soft q 0 x → x ≡ a
  later_soft p zero a x c lt s = absurd (omega arith)
  later_soft p (suc q) a x c lt s =
      let one : 1 ≤ p = certificate_from_1 p a c in
      soft_for_it q a x (omega arith) (locked_before p q a c (omega arith)) s

  pub later_certificate : (p q a b : ℕ) → Could cert p 0 a → p < q → Could cert q 0 b → b ≡ a
  later_certificate p q a b c lt d =
      let (i, v) = quorums.some_honest cert q 0 b d in later_soft p q a b c lt (history.cert_because q b i v)

  pub one_certified : (p q a b : ℕ) → Could cert p 0 a → Could cert q 0 b → a ≡ b
  one_certified p q a b c d =
      elim (cases_order p q) [
        | inl e ↦ one_in_slot cert q 0 a b (rw e at c) d
        | inr (inl lt) ↦ sym (later_certificate p q a b c lt d)
        | inr (inr gt) ↦ later_certificate q p b a d gt c
      ]

  -- who comes to a later period came with the certified value
  pub not_free-after : (p q a : ℕ) → Could cert p 0 a → p < q → CameFree Could q → ⊥
  not_free-after p zero a c lt free = omega arith
  not_free-after p (suc q) a c lt free =
      let one : 1 ≤ p = certificate_from_1 p a c in
      none_free q a (omega arith) (locked_before p q a c (omega arith)) free

  pub with_it_after : (p q a x : ℕ) → Could cert p 0 a → p < q → CameWith Could q x → x ≡ a
  with_it_after p zero a x c lt came = absurd (omega arith)
  with_it_after p (suc q) a x c lt came = came_with_it q a x (locked_before p q a c (omega arith)) came
