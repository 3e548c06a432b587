-- The three rules that follow an event keep what a member keeps: onward, certain, agree.
use Rattle.std.proofs.Common.{◌≡◌, ℕ, suc, ◌<◌, ◌≤◌, true, false, cond, not, ◌&&◌, eqb, List, [], ◌∷◌, sym, refl, inl}
use Rattle.std.proofs.Common.{inr, arith}
use Rattle.std.proofs.lemmas.Bool.{and_parts, not-true, eqb-true, eq-eqb, eqb-false, ne_eqb, both_ways, cond-true}
use Rattle.std.proofs.lemmas.Bool.{cond-false}
use Rattle.protocol.specs.Vote.{soft, cert, next, next_none, Vote, Limits, value_bound}
use Rattle.protocol.specs.Member.{Member, Outcome, own, now_certain, is_some, is_in, chosen, certified, onward}
use Rattle.protocol.specs.Member.{say_cert, certainly, agree_on, agree}
use Rattle.protocol.proofs.Ranges.{Ranged}
use Rattle.safety.proofs.Votes.{vote}
use Rattle.safety.proofs.Counting.{quorum_some}
use Rattle.safety.proofs.Single.{Rules, either, gone_on, onward_keeps}
use Rattle.safety.proofs.Keeps.{Heard, Came, Keeps}
use Rattle.safety.proofs.Moves.{New, now_certain_keeps, in_period_keeps, having_agreed_keeps}
use Rattle.safety.proofs.Chosen.{chosen-has_both, certified-has_both}
use Rattle.safety.proofs.Outcomes.{Kept, moved, say-kept}

-- what a quorum that goes on leads to
pub came_on : (l : Limits) (vs : List Vote) (k p s x : ℕ) → next ≤ k → k ≤ next_none → x < value_bound →
    Heard l vs k p s x → Came l vs (suc p) (cond (eqb k next) (x ∷ []) []) (eqb k next_none)
came_on l vs k p s x lo hi small h =
    record {
      if_free = λ e.
          let is : k ≡ next_none = eqb-true _ _ e in
          (cond-false (eqb k next) (x ∷ []) [] (ne_eqb _ _ (omega arith)), inr (p, s, x, refl, rw is at h));
      else_with = λ e.
          let other : k ≡ next_none → ⊥ = eqb-false _ _ e in
          let is : k ≡ next = omega arith in
          (x, cond-true (eqb k next) (x ∷ []) [] (eq-eqb _ _ is), (p, s, refl, rw is at h), small);
    }

module _ (l : Limits) (i : ℕ) (member : i < l.members) where
  -- what is in a quorum was heard, so it is in range
  pub quorum-in_range : (m : Member) → Keeps l i m → (k p s x : ℕ) → Heard l m.votes k p s x →
      (j : ℕ) × Ranged l (vote k p s x j)
  quorum-in_range m keeps k p s x h =
      let (j, at) = quorum_some l k p s x m.votes (omega arith) h in (j, keeps.heard.in_range _ at)

  -- ONWARD

  pub onward-kept : (b : List Vote) (v : Vote) (d : Outcome) → Kept l i b d → Kept l i b (onward l v d)
  onward-kept b v d k =
      onward_keeps l (Kept l i b) v d
      (λ two later q.
      let (j, r) = quorum-in_range d.member k.member v.kind v.period v.step v.value q in
      let few : suc v.period ≤ suc l.periods = omega (arith, r.periods) in
      let vs : List Vote = d.member.votes in
      moved l i b d (gone_on v d).member k refl
      (in_period_keeps l i (suc v.period) _ _ d.member k.member (omega arith) few
      (came_on l vs v.kind v.period v.step v.value two r.kinds r.value q)))
      k

  -- CERTAIN

  pub may_be_certain : (m : Member) (x : ℕ) → Keeps l i m → m.step ≡ 1 → m.certain ≡ false →
      Heard l m.votes soft m.period 0 x → is_in x m.blocks ≡ true → New l i (now_certain m) (own m cert 0 x)
  may_be_certain m x keeps one not_yet h b =
      record {
        behind = record {
          not_later = omega arith;
          soft_behind = λ e. absurd (omega arith);
          cert_behind = λ _ _. (refl, omega arith);
          next_behind = λ e. absurd (omega arith);
        };
        reason = record {
          soft_because = λ e. absurd (omega arith);
          cert_because = λ _. h;
          next_because = λ e. absurd (omega arith);
          none_because = λ e. absurd (omega arith);
        };
        fresh = λ w at mine o. elim o.kind [
          | inl e ↦ both_ways _ not_yet ((keeps.behind w at mine).cert_behind (sym e) (sym o.period)).0
          | inr (a, c) ↦ omega arith
        ];
        certain_first = λ w at mine e on p.
            let low : w.step ≤ m.step = (keeps.behind w at mine).next_behind on (sym p) in
            let high : 2 ≤ w.step = (keeps.heard.in_range w at).later_step on in
            omega arith;
        certain_then = λ w at mine e on p. absurd (omega arith);
        certain_of = λ _ _. (h, b);
      }

  pub certain-in_range : (m : Member) (x : ℕ) → Keeps l i m → Heard l m.votes soft m.period 0 x →
      Ranged l (own m cert 0 x)
  certain-in_range m x keeps h =
      let (j, r) = quorum-in_range m keeps soft m.period 0 x h in
      record {
        kinds = omega arith;
        from_1 = r.from_1;
        periods = r.periods;
        member = rw keeps.me member;
        value = r.value;
        first_step = λ _. refl;
        later_step = λ e. absurd (omega arith);
        steps = λ e. absurd (omega arith);
        no_value = λ e. absurd (omega arith);
      }

  pub say_cert-kept : (b : List Vote) (d : Outcome) (xs : List ℕ) → Kept l i b d → chosen l d.member ≡ xs →
      d.member.step ≡ 1 → d.member.certain ≡ false → Kept l i b (say_cert xs d)
  unfolding say_cert
  say_cert-kept b d [] k e one not_yet = k
  say_cert-kept b d (x ∷ xs) k e one not_yet =
      let m : Member = d.member in
      let (h, here) = chosen-has_both l m.votes m.blocks m.period x xs m.votes e in
      say-kept l i b (record { member = now_certain m; out = d.out }) (own m cert 0 x)
      (moved l i b d (now_certain m) k refl (now_certain_keeps l i m k.member))
      (certain-in_range m x k.member h) k.member.me (may_be_certain m x k.member one not_yet h here)

  pub certainly-kept : (b : List Vote) (d : Outcome) → Kept l i b d → Kept l i b (certainly l d)
  certainly-kept b d k =
      either (Kept l i b) (eqb d.member.step 1 && not d.member.certain) (say_cert (chosen l d.member) d) d
      (λ h. let t : (eqb d.member.step 1 ≡ true) × (not d.member.certain ≡ true) = and_parts _ _ h in
      say_cert-kept b d (chosen l d.member) k refl (eqb-true _ _ t.0) (not-true _ t.1))
      (λ _. k)

  -- AGREE

  pub agree_on_kept : (b : List Vote) (d : Outcome) (xs : List ℕ) → Kept l i b d → certified l d.member ≡ xs →
      Kept l i b (record { member = agree_on xs d.member; out = d.out })
  unfolding agree_on
  agree_on_kept b d [] k e = k
  agree_on_kept b d (x ∷ xs) k e =
      let m : Member = d.member in
      let (p, h, here) = certified-has_both l m.votes m.blocks x xs m.votes e in
      moved l i b d (agree_on (x ∷ xs) m) k refl (having_agreed_keeps l i x p m k.member here h)

  pub agree-kept : (b : List Vote) (d : Outcome) → Kept l i b d → Kept l i b (agree l d)
  agree-kept b d k =
      either (λ m. Kept l i b (record { member = m; out = d.out })) (is_some d.member.agreed) d.member
      (agree_on (certified l d.member) d.member)
      (λ _. k) (λ _. agree_on_kept b d (certified l d.member) k refl)

  pub kept_rules : (b : List Vote) → Rules l (Kept l i b)
  kept_rules b = record { by_onward = onward-kept b; by_certainly = certainly-kept b; by_agree = agree-kept b }
