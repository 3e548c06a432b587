-- Limits that differ only in which events they take: while both take every event that there is, a member is the same.
use Rattle.std.proofs.Common.{◌≡◌, ℕ, suc, ◌<◌, Bool, true, cond, not, ◌&&◌, eqb, List, [], ◌∷◌, refl, ap, ◌∙◌, arith}
use Rattle.std.proofs.lemmas.Bool.{lt-ltb}
use Rattle.protocol.specs.Vote.{Vote, Limits, has_quorum}
use Rattle.protocol.specs.Member.{Member, Event, got_vote, got_proposal, got_block, timeout, unreadable, Outcome}
use Rattle.protocol.specs.Member.{silent, with_vote, with_blocks, add_block, at_step, is_some, chosen_in, certified_in}
use Rattle.protocol.specs.Member.{say, say_soft, soft_value, next_vote, on_timeout, onward, onward_all, say_cert}
use Rattle.protocol.specs.Member.{certainly, agree_on, agree, settle, does, is_event, event_number, vote_in_range}
use Rattle.protocol.specs.Member.{in_range, last_refusal, refusal, answer, after, refused, says, place, not_refused}
use Rattle.protocol.specs.Promises.{thin, all, GoodLimits}
use Rattle.protocol.specs.Programs.{member_after}
use Rattle.safety.proofs.Chosen.{is-chosen, is-certified}

abbrev pub with_takes : (ℕ → Bool) → Limits → Limits
with_takes f l =
    record { takes = f; members = l.members; periods = l.periods; steps = l.steps; blocks = l.blocks }

-- the events that there are, 0 to 3, are taken
abbrev pub AllTaken : (ℕ → Bool) → Type 0
AllTaken f = (k : ℕ) → k < 4 → f k ≡ true

pub thin_taken : AllTaken thin
thin_taken k lt = lt-ltb k 4 lt

pub all_taken : AllTaken all
all_taken k lt = refl

pub stage_taken : (can : ℕ → Bool) (l : Limits) → AllTaken can → GoodLimits can l → AllTaken l.takes
stage_taken can l taken good k lt = good.stage k ∙ taken k lt

pub with_own : (l : Limits) → with_takes l.takes l ≡ l
with_own l = refl

-- WHAT IT DOES

module _ (l : Limits) (f g : ℕ → Bool) where
  same_chosen : (p : ℕ) (ws vs : List Vote) (bs : List ℕ) →
      chosen_in (with_takes f l) p ws vs bs ≡ chosen_in (with_takes g l) p ws vs bs
  unfolding has_quorum chosen_in
  same_chosen p [] vs bs = refl
  same_chosen p (w ∷ ws) vs bs =
      ap (λ (xs : List ℕ). cond (is-chosen (with_takes f l) vs bs p w) (w.value ∷ []) xs) (same_chosen p ws vs bs)

  same_certified : (ws vs : List Vote) (bs : List ℕ) →
      certified_in (with_takes f l) ws vs bs ≡ certified_in (with_takes g l) ws vs bs
  unfolding has_quorum certified_in
  same_certified [] vs bs = refl
  same_certified (w ∷ ws) vs bs =
      ap (λ (xs : List ℕ). cond (is-certified (with_takes f l) vs bs w) (w.value ∷ []) xs) (same_certified ws vs bs)

  same_onward : (v : Vote) (d : Outcome) → onward (with_takes f l) v d ≡ onward (with_takes g l) v d
  unfolding has_quorum
  same_onward v d = refl

  same_onward_all : (vs : List Vote) (d : Outcome) → onward_all (with_takes f l) vs d ≡ onward_all (with_takes g l) vs d
  unfolding has_quorum onward_all
  same_onward_all [] d = refl
  same_onward_all (v ∷ vs) d = same_onward_all vs (onward (with_takes f l) v d)

  same_certainly : (d : Outcome) → certainly (with_takes f l) d ≡ certainly (with_takes g l) d
  same_certainly d =
      ap (λ (xs : List ℕ). cond (eqb d.member.step 1 && not d.member.certain) (say_cert xs d) d)
      (same_chosen d.member.period d.member.votes d.member.votes d.member.blocks)

  same_agree : (d : Outcome) → agree (with_takes f l) d ≡ agree (with_takes g l) d
  same_agree d =
      ap (λ (xs : List ℕ). record
      { member = cond (is_some d.member.agreed) d.member (agree_on xs d.member); out = d.out })
      (same_certified d.member.votes d.member.votes d.member.blocks)

  same_settle : (d : Outcome) → settle (with_takes f l) d ≡ settle (with_takes g l) d
  same_settle d =
      ap (λ (e : Outcome). agree (with_takes f l) (onward_all (with_takes f l) e.out e)) (same_certainly d)
      ∙ ap (agree (with_takes f l)) (same_onward_all e.out e)
      ∙ same_agree (onward_all (with_takes g l) e.out e)
    where
      e : Outcome
      e = certainly (with_takes g l) d

  same_timeout : (m : Member) → on_timeout (with_takes f l) m ≡ on_timeout (with_takes g l) m
  same_timeout m =
      ap (λ (xs : List ℕ). cond (eqb m.step 0) (say_soft (soft_value m) (silent (at_step 1 m)))
      (say (next_vote m (suc m.step) xs) (silent (at_step (suc m.step) m))))
      (same_chosen m.period m.votes m.votes m.blocks)

  pub same_does : (m : Member) (e : Event) → does (with_takes f l) m e ≡ does (with_takes g l) m e
  unfolding does
  same_does m (got_vote v) =
      ap (settle (with_takes f l)) (same_onward v (silent (with_vote v m)))
      ∙ same_settle (onward (with_takes g l) v (silent (with_vote v m)))
  same_does m (got_proposal o) = refl
  same_does m (got_block x) = same_settle (silent (with_blocks (add_block x m.blocks) m))
  same_does m timeout = ap (settle (with_takes f l)) (same_timeout m) ∙ same_settle (on_timeout (with_takes g l) m)
  same_does m (unreadable n) = refl

-- WHAT IT REFUSES, ANSWERS AND IS AFTER IT

taken_alike : (a b r : Bool) (x y : ℕ) → a ≡ true → b ≡ true → cond (not (a && r)) x y ≡ cond (not (b && r)) x y
taken_alike a b r x y ha hb = rw (ha, hb)

module _ (l : Limits) (f g : ℕ → Bool) (hf : AllTaken f) (hg : AllTaken g) where
  pub same_refusal : (m : Member) (e : Event) → refusal (with_takes f l) m e ≡ refusal (with_takes g l) m e
  unfolding is_event event_number vote_in_range in_range last_refusal
  same_refusal m (got_vote v) = taken_alike _ _ _ _ _ (hf 0 (omega arith)) (hg 0 (omega arith))
  same_refusal m (got_proposal o) = taken_alike _ _ _ _ _ (hf 1 (omega arith)) (hg 1 (omega arith))
  same_refusal m (got_block x) = taken_alike _ _ _ _ _ (hf 2 (omega arith)) (hg 2 (omega arith))
  same_refusal m timeout = taken_alike _ _ _ _ _ (hf 3 (omega arith)) (hg 3 (omega arith))
  same_refusal m (unreadable n) = refl

  pub same_answer : (m : Member) (e : Event) → answer (with_takes f l) m e ≡ answer (with_takes g l) m e
  same_answer m e =
      λ i. cond (eqb (same_refusal m e i) not_refused)
      (says (same_does l f g m e i).out (same_does l f g m e i).member.agreed)
      (refused (same_refusal m e i) (place e))

  pub same_after : (m : Member) (e : Event) → after (with_takes f l) m e ≡ after (with_takes g l) m e
  same_after m e = λ i. cond (eqb (same_refusal m e i) not_refused) (same_does l f g m e i).member m

  pub same_member : (i : ℕ) (es : List Event) → member_after (with_takes f l) i es ≡ member_after (with_takes g l) i es
  unfolding member_after
  same_member i [] = refl
  same_member i (e ∷ es) =
      ap (λ (m : Member). after (with_takes f l) m e) (same_member i es)
      ∙ same_after (member_after (with_takes g l) i es) e
