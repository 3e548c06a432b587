-- What a member says when time is up keeps what a member keeps.
use Rattle.std.proofs.Common.{◌≡◌, ℕ, suc, ◌<◌, ◌≤◌, Bool, true, false, cond, eqb, ◌⊎◌, List, [], ◌∷◌, sym, refl, ap}
use Rattle.std.proofs.Common.{◌∙◌, inl, inr, arith}
use Rattle.std.proofs.lemmas.Bool.{eqb-true, eqb-false}
use Rattle.protocol.specs.Vote.{soft, cert, next, next_none, Vote, Proposal, Limits, value_bound}
use Rattle.protocol.specs.Member.{Member, silent, own, at_step, chosen, proposed, say, say_soft, soft_value}
use Rattle.protocol.specs.Member.{first_or_zero, next_vote, on_timeout}
use Rattle.protocol.proofs.Ranges.{Ranged}
use Rattle.safety.proofs.Votes.{In}
use Rattle.safety.proofs.Agreement.{CameWith, CameFree}
use Rattle.safety.proofs.Counting.{quorum_one}
use Rattle.safety.proofs.Single.{either}
use Rattle.safety.proofs.Keeps.{Heard, Small, Keeps}
use Rattle.safety.proofs.Moves.{New, at_step_keeps}
use Rattle.safety.proofs.Chosen.{nil_not_cons, first_equal, chosen-has_both, some_chosen}
use Rattle.safety.proofs.Outcomes.{Kept, silent-kept, say-kept}
use Rattle.safety.proofs.Following.{quorum-in_range}

pub proposed_small : (p x : ℕ) (xs : List ℕ) (os : List Proposal) → Small os → proposed p os ≡ x ∷ xs → x < value_bound
unfolding proposed
proposed_small p x xs [] s e = absurd (nil_not_cons x xs e)
proposed_small p x xs (o ∷ os) s e = go (eqb o.period p) e (proposed_small p x xs os s.1)
  where
    go : (b : Bool) → cond b (o.value ∷ []) (proposed p os) ≡ x ∷ xs → (proposed p os ≡ x ∷ xs → x < value_bound) →
        x < value_bound
    go true e rest = rw (first_equal o.value x [] xs e) at s.0
    go false e rest = rest e

module _ (l : Limits) (i : ℕ) (member : i < l.members) (m : Member) (keeps : Keeps l i m)
    (periods : m.period ≤ l.periods) where
  -- STEP 0: THE SOFT VOTE

  -- it is for what it may vote for
  pub soft_value_because : (x : ℕ) (xs : List ℕ) → soft_value m ≡ x ∷ xs →
      (x < value_bound) × (CameFree (Heard l m.votes) m.period ⊎ CameWith (Heard l m.votes) m.period x)
  soft_value_because x xs e = go m.free refl e
    where
      go : (b : Bool) → m.free ≡ b → cond b (proposed m.period m.proposals) m.start ≡ x ∷ xs →
          (x < value_bound) × (CameFree (Heard l m.votes) m.period ⊎ CameWith (Heard l m.votes) m.period x)
      go true f e =
          (proposed_small m.period x xs m.proposals keeps.proposals e, inl (keeps.came.if_free f).1)
      go false f e =
          let (y, s, w, small) = keeps.came.else_with f in
          let is : y ≡ x = first_equal y x [] xs (sym s ∙ e) in
          (rw is at small, inr (rw is at w))

  pub may_vote_softly : (x : ℕ) → m.step ≡ 0 →
      CameFree (Heard l m.votes) m.period ⊎ CameWith (Heard l m.votes) m.period x →
      New l i (at_step 1 m) (own m soft 0 x)
  may_vote_softly x zero-step because =
      record {
        behind = record {
          not_later = omega arith;
          soft_behind = λ _ _. omega arith;
          cert_behind = λ e. absurd (omega arith);
          next_behind = λ e. absurd (omega arith);
        };
        reason = record {
          soft_because = λ _. because;
          cert_because = λ e. absurd (omega arith);
          next_because = λ e. absurd (omega arith);
          none_because = λ e. absurd (omega arith);
        };
        fresh = λ w at mine o. elim o.kind [
          | inl e ↦
              (let past : 1 ≤ m.step = (keeps.behind w at mine).soft_behind (sym e) (sym o.period) in omega arith)
          | inr (a, c) ↦ omega arith
        ];
        certain_first = λ w at mine e. absurd (omega arith);
        certain_then = λ w at mine e on. absurd (omega arith);
        certain_of = λ e. absurd (omega arith);
      }

  pub soft-in_range : (x : ℕ) → x < value_bound → Ranged l (own m soft 0 x)
  soft-in_range x small =
      record {
        kinds = omega arith;
        from_1 = keeps.within.from_1;
        periods = periods;
        member = rw keeps.me member;
        value = small;
        first_step = λ _. refl;
        later_step = λ e. absurd (omega arith);
        steps = λ e. absurd (omega arith);
        no_value = λ e. absurd (omega arith);
      }

  pub say_soft-kept : (xs : List ℕ) → soft_value m ≡ xs → m.step ≡ 0 →
      Kept l i m.votes (say_soft xs (silent (at_step 1 m)))
  unfolding say_soft
  say_soft-kept [] e zero-step = silent-kept l i (at_step 1 m) (at_step_keeps l i 1 m keeps (omega arith) (omega arith))
  say_soft-kept (x ∷ xs) e zero-step =
      let (small, because) = soft_value_because x xs e in
      say-kept l i m.votes (silent (at_step 1 m)) (own m soft 0 x)
      (silent-kept l i (at_step 1 m) (at_step_keeps l i 1 m keeps (omega arith) (omega arith)))
      (soft-in_range x small) keeps.me (may_vote_softly x zero-step because)

  -- LATER STEPS: A VOTE TO GO ON

  -- what lets it go on so: a reason; and if it was certain, it is with that value
  pub record On (k x : ℕ) : Type 0 where
    pub lo : next ≤ k
    pub hi : k ≤ next_none
    pub small : x < value_bound
    pub none-is_0 : k ≡ next_none → x ≡ 0
    pub next_because : k ≡ next → Heard l m.votes soft m.period 0 x ⊎ CameWith (Heard l m.votes) m.period x
    pub none_because : k ≡ next_none → CameFree (Heard l m.votes) m.period
    pub as_certain : (w : Vote) → In w m.votes → w.from ≡ i → w.kind ≡ cert → w.period ≡ m.period →
        (k ≡ next) × (x ≡ w.value)

  pub may_go_on : (k x : ℕ) → 1 ≤ m.step → On k x → New l i (at_step (suc m.step) m) (own m k (suc m.step) x)
  may_go_on k x some on =
      record {
        behind = record {
          not_later = omega arith;
          soft_behind = λ e. absurd (omega (arith, on.lo));
          cert_behind = λ e. absurd (omega (arith, on.lo));
          next_behind = λ _ _. omega arith;
        };
        reason = record {
          soft_because = λ e. absurd (omega (arith, on.lo));
          cert_because = λ e. absurd (omega (arith, on.lo));
          next_because = on.next_because;
          none_because = on.none_because;
        };
        fresh = λ w at mine o.
            let lo : next ≤ k = on.lo in
            let goes : next ≤ w.kind = elim o.kind [ inl e ↦ omega arith | inr (a, c) ↦ c ] in
            let past : w.step ≤ m.step = (keeps.behind w at mine).next_behind goes (sym o.period) in
            let same : suc m.step ≡ w.step = o.step in
            omega arith;
        certain_first = λ w at mine e. absurd (omega (arith, on.lo));
        certain_then = λ w at mine e _ p. on.as_certain w at mine e p;
        certain_of = λ e. absurd (omega (arith, on.lo));
      }

  pub on_in_range : (k x : ℕ) → 1 ≤ m.step → m.step ≤ l.steps → On k x → Ranged l (own m k (suc m.step) x)
  on_in_range k x some steps on =
      record {
        kinds = on.hi;
        from_1 = keeps.within.from_1;
        periods = periods;
        member = rw keeps.me member;
        value = on.small;
        first_step = λ e. absurd (omega (arith, on.lo));
        later_step = λ _. omega arith;
        steps = λ _. omega arith;
        no_value = on.none-is_0;
      }

  pub say_on_kept : (k x : ℕ) → 1 ≤ m.step → m.step ≤ l.steps → On k x →
      Kept l i m.votes (say (own m k (suc m.step) x) (silent (at_step (suc m.step) m)))
  say_on_kept k x some steps on =
      let s : ℕ = suc m.step in
      say-kept l i m.votes (silent (at_step s m)) (own m k s x)
      (silent-kept l i (at_step s m) (at_step_keeps l i s m keeps (omega arith) (omega arith)))
      (on_in_range k x some steps on) keeps.me (may_go_on k x some on)

  -- with the chosen value: it is the one that it was certain of, since a quorum is for one value
  pub on_with_chosen : (x : ℕ) (xs : List ℕ) → chosen l m ≡ x ∷ xs → On next x
  on_with_chosen x xs e =
      let (h, here) = chosen-has_both l m.votes m.blocks m.period x xs m.votes e in
      let (j, r) = quorum-in_range l i member m keeps soft m.period 0 x h in
      record {
        lo = omega arith;
        hi = omega arith;
        small = r.value;
        none-is_0 = λ e. absurd (omega arith);
        next_because = λ _. inl h;
        none_because = λ e. absurd (omega arith);
        as_certain = λ w at mine c p. (
          refl,
          quorum_one l soft m.period 0 x w.value m.votes (omega arith) keeps.heard.fair h
              (keeps.certain_now w at mine c p).0,
        );
      }

  -- with none chosen, it was not certain
  pub not_certain : chosen l m ≡ [] → (w : Vote) → In w m.votes → w.from ≡ i → w.kind ≡ cert →
      w.period ≡ m.period → ⊥
  not_certain e w at mine c p =
      let (h, here) = keeps.certain_now w at mine c p in
      some_chosen l m.votes m.blocks m.period w.value (omega arith) h here e

  pub on_with_none : chosen l m ≡ [] → m.free ≡ true → On next_none 0
  on_with_none e free =
      record {
        lo = omega arith;
        hi = omega arith;
        small = omega arith;
        none-is_0 = λ _. refl;
        next_because = λ e. absurd (omega arith);
        none_because = λ _. (keeps.came.if_free free).1;
        as_certain = λ w at mine c p. absurd (not_certain e w at mine c p);
      }

  pub on_with_start : chosen l m ≡ [] → m.free ≡ false → On next (first_or_zero m.start)
  unfolding first_or_zero
  on_with_start e held =
      let (y, s, came, small) = keeps.came.else_with held in
      let is : first_or_zero m.start ≡ y = ap first_or_zero s in
      record {
        lo = omega arith;
        hi = omega arith;
        small = rw is small;
        none-is_0 = λ e. absurd (omega arith);
        next_because = λ _. inr (rw is came);
        none_because = λ e. absurd (omega arith);
        as_certain = λ w at mine c p. absurd (not_certain e w at mine c p);
      }

  pub say-next-kept : (xs : List ℕ) → chosen l m ≡ xs → 1 ≤ m.step → m.step ≤ l.steps →
      Kept l i m.votes (say (next_vote m (suc m.step) xs) (silent (at_step (suc m.step) m)))
  unfolding next_vote
  say-next-kept (x ∷ xs) e some steps = say_on_kept next x some steps (on_with_chosen x xs e)
  say-next-kept [] e some steps =
      either (λ v. Kept l i m.votes (say v (silent (at_step (suc m.step) m)))) m.free _ _
      (λ free. say_on_kept next_none 0 some steps (on_with_none e free))
      (λ held. say_on_kept next (first_or_zero m.start) some steps (on_with_start e held))

  pub on_timeout-kept : m.step ≤ l.steps → Kept l i m.votes (on_timeout l m)
  on_timeout-kept steps =
      either (Kept l i m.votes) (eqb m.step 0) (say_soft (soft_value m) (silent (at_step 1 m)))
      (say (next_vote m (suc m.step) (chosen l m)) (silent (at_step (suc m.step) m)))
      (λ h. say_soft-kept (soft_value m) refl (eqb-true _ _ h))
      (λ h. let other : m.step ≡ 0 → ⊥ = eqb-false _ _ h in say-next-kept (chosen l m) refl (omega arith) steps)
