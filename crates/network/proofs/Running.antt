-- The memory of a network stays that of one that the protocol can come to: when it begins, and at each event.
use Rattle.std.proofs.Common.{◌≡◌, ℕ, ◌<◌, Bool, true, false, cond, eqb, ◌≢◌, List, [], ◌∷◌, sym, refl, ap, ◌∙◌, subst}
use Rattle.std.proofs.Common.{inl, inr, arith}
use Rattle.std.proofs.lemmas.Bool.{cases_Bool, eqb-false, cond-true}
use Rattle.protocol.specs.Vote.{Vote, Limits}
use Rattle.protocol.specs.Member.{Member, Event, Answer, refused, says, answer, after, refusal, not_refused, does}
use Rattle.protocol.specs.Member.{place}
use Rattle.protocol.specs.Network.{Network, new_network, deliver, can_happen, begun, happens}
use Rattle.protocol.specs.Programs.{member_after}
use Rattle.safety.proofs.Single.{agreed-stays}
use Rattle.safety.proofs.Reached.{all_after}
use Rattle.member.specs.Calls.{Called, Opened}
use Rattle.network.specs.Memory.{agreed_in}
use Rattle.network.specs.Running.{Held, HoldsAll, Running, Stepped}
use Rattle.network.specs.Seats.{memory_of}
use Rattle.network.proofs.Agreeing.{held-agreed}

-- it begins: each honest member is new
pub begins : (l : Limits) (faulty : ℕ → Bool) (mem : List ℕ) →
    ((i : ℕ) → i < l.members → faulty i ≡ false → Opened l i (memory_of l faulty i mem)) → Running l faulty mem
unfolding member_after
begins l faulty mem opened = record {
  state = new_network;
  reachable = begun;
  held = λ i low good. record { events = []; kept = opened i low good; is = refl };
}

-- an answer that says something says what is agreed then
pub says-agreed : (l : Limits) (m : Member) (e : Event) (vs : List Vote) (xs : List ℕ) → answer l m e ≡ says vs xs →
    (after l m e).agreed ≡ xs
says-agreed l m e vs xs =
    by (eqb (refusal l m e) not_refused)
  where
    by : (b : Bool) → cond b (says (does l m e).out (does l m e).member.agreed) (refused (refusal l m e) (place e))
        ≡ says vs xs →
        (cond b (does l m e).member m).agreed ≡ xs
    by true h = cc
    by false h = let z : ◌≡◌ {A = ℕ} 0 1 = cc in absurd (omega arith)

-- an answer that refuses has its reason
pub refused_by : (l : Limits) (m : Member) (e : Event) (r n : ℕ) → answer l m e ≡ refused r n → 0 < refusal l m e
refused_by l m e r n h =
    elim (cases_Bool (eqb (refusal l m e) not_refused)) [
      | inl none ↦
          let s : says (does l m e).out (does l m e).member.agreed ≡ refused r n = sym (cond-true _ _ _ none) ∙ h in
          let z : ◌≡◌ {A = ℕ} 0 1 = cc in absurd (omega arith)
      | inr some ↦ let ne : refusal l m e ≢ 0 = eqb-false _ _ some in omega arith
    ]

-- an event comes to honest member i
module _ (l : Limits) (faulty : ℕ → Bool) (mem new : List ℕ) (run : Running l faulty mem) (i : ℕ) (low : i < l.members)
    (good : faulty i ≡ false) (e : Event) (a : Answer)
    (called : Called (memory_of l faulty i mem) e (memory_of l faulty i new) a)
    (others : (j : ℕ) → j < l.members → faulty j ≡ false → (j ≡ i → ⊥) → memory_of l faulty j new ≡ memory_of l
    faulty j mem) where
  abbrev w : Network
  w = run.state

  here : Held l i (memory_of l faulty i mem) (w.member i)
  here = run.held i low good

  answer-is : a ≡ answer l (w.member i) e
  answer-is = called.is l i here.events here.kept ∙ ap (λ (m : Member). answer l m e) here.is

  mine_then : Held l i (memory_of l faulty i new) (after l (w.member i) e)
  unfolding member_after
  mine_then = record {
    events = e ∷ here.events;
    kept = called.kept l i here.events here.kept;
    is = ap (λ (m : Member). after l m e) here.is;
  }

  held_then : HoldsAll l faulty new (deliver l w i e)
  held_then =
      all_after l w i e (λ j m. j < l.members → faulty j ≡ false → Held l j (memory_of l faulty j new) m)
      (λ _ _. mine_then)
      (λ j other lj gj.
      subst (λ (ys : List ℕ). Held l j ys (w.member j)) (sym (others j lj gj (λ is. other (sym is))))
      (run.held j lj gj))

  pub stepped : can_happen faulty w e ≡ true → Stepped l faulty i new e a w
  stepped can = record { is = answer-is; reachable = happens i e run.reachable low good can; held = held_then }

  pub runs_on : can_happen faulty w e ≡ true → Running l faulty new
  runs_on can = record {
    state = deliver l w i e;
    reachable = happens i e run.reachable low good can;
    held = held_then;
  }

  pub says_then : (vs : List Vote) (xs : List ℕ) → a ≡ says vs xs → agreed_in (memory_of l faulty i new) ≡ xs
  says_then vs xs is =
      held-agreed l i (memory_of l faulty i new) (after l (w.member i) e) mine_then
      ∙ says-agreed l (w.member i) e vs xs (sym answer-is ∙ is)

  pub refused_then : (r n : ℕ) → a ≡ refused r n → memory_of l faulty i new ≡ memory_of l faulty i mem
  refused_then r n is =
      called.refused l i here.events here.kept
      (refused_by l (member_after l i here.events) e r n (sym (called.is l i here.events here.kept) ∙ is))

  pub stays : (j x : ℕ) → j < l.members → faulty j ≡ false → agreed_in (memory_of l faulty j mem) ≡ x ∷ [] →
      agreed_in (memory_of l faulty j new) ≡ x ∷ []
  stays j x lj gj was =
      held-agreed l j (memory_of l faulty j new) ((deliver l w i e).member j) (held_then j lj gj)
      ∙ all_after l w i e (λ j m. (w.member j).agreed ≡ x ∷ [] → m.agreed ≡ x ∷ [])
      (agreed-stays l (w.member i) e x) (λ _ _ h. h) j
      (sym (held-agreed l j (memory_of l faulty j mem) (w.member j) (run.held j lj gj)) ∙ was)
