-- Each small change of a member keeps what a member keeps: a vote more, a step, a period, a block, a proposal, and
-- what it agreed on.
use Rattle.std.proofs.Common.{◌≡◌, ℕ, suc, ◌<◌, ◌≤◌, Bool, true, false, cond, eqb, ltb, ◌⊎◌, List, [], ◌∷◌, sym, refl}
use Rattle.std.proofs.Common.{ap, ◌∙◌, inl, inr, arith}
use Rattle.std.proofs.lemmas.Bool.{or_right}
use Rattle.protocol.specs.Vote.{soft, cert, next, next_none, Vote, Proposal, Limits, value_bound, slot_taken}
use Rattle.protocol.specs.Member.{Member, with_vote, with_proposals, with_blocks, at_step, now_certain, in_period}
use Rattle.protocol.specs.Member.{having_agreed, keep_best, add_block, is_in}
use Rattle.protocol.proofs.Ranges.{Ranged}
use Rattle.safety.proofs.Votes.{In, in_cases, slot_free}
use Rattle.safety.proofs.Agreement.{CameWith, CameFree}
use Rattle.safety.proofs.Counting.{fair_more, quorum-stays}
use Rattle.safety.proofs.Single.{either}
use Rattle.safety.proofs.Keeps.{Heard, OnePlace, Reason, Behind, Came, HeardWell, SaidWell, Agreed, Small, Keeps}

-- MORE IS HEARD: what there was a quorum for stays

module _ (l : Limits) (u : Vote) (vs : List Vote) where
  pub free_stays : (p : ℕ) → CameFree (Heard l vs) p → CameFree (Heard l (u ∷ vs)) p
  free_stays p (inl e) = inl e
  free_stays p (inr (q, s, y, e, h)) = inr (q, s, y, e, quorum-stays l next_none q s y u vs h)

  pub with_stays : (p x : ℕ) → CameWith (Heard l vs) p x → CameWith (Heard l (u ∷ vs)) p x
  with_stays p x (q, s, e, h) = (q, s, e, quorum-stays l next q s x u vs h)

  pub reason_stays : (v : Vote) → Reason l vs v → Reason l (u ∷ vs) v
  reason_stays v r =
      record {
        soft_because = λ e. elim (r.soft_because e) [ inl f ↦ inl (free_stays _ f) | inr c ↦ inr (with_stays _ _ c) ];
        cert_because = λ e. quorum-stays l _ _ _ _ u vs (r.cert_because e);
        next_because = λ e.
            elim (r.next_because e) [ inl h ↦ inl (quorum-stays l _ _ _ _ u vs h) | inr c ↦ inr (with_stays _ _ c) ];
        none_because = λ e. free_stays _ (r.none_because e);
      }

  pub came_stays : (p : ℕ) (start : List ℕ) (free : Bool) → Came l vs p start free → Came l (u ∷ vs) p start free
  came_stays p start free c =
      record {
        if_free = λ e. let (s, f) = c.if_free e in (s, free_stays p f);
        else_with = λ e. let (x, s, w, b) = c.else_with e in (x, s, with_stays p x w, b);
      }

  pub agreed_keeps : (bs xs : List ℕ) → Agreed l vs bs xs → Agreed l (u ∷ vs) bs xs
  agreed_keeps bs xs (inl e) = inl e
  agreed_keeps bs xs (inr (a, p, e, b, h)) = inr (a, p, e, b, quorum-stays l cert p 0 a u vs h)

-- A VOTE OF ITS OWN

-- what lets member i say v
pub record New (l : Limits) (i : ℕ) (m : Member) (v : Vote) : Type 0 where
  pub behind : Behind m.period m.step m.certain v
  pub reason : Reason l m.votes v
  -- nothing was said in its place
  pub fresh : (w : Vote) → In w m.votes → w.from ≡ i → OnePlace v w → ⊥
  -- if it is certain, it did not go on yet; if it goes on and was certain, it does so with that value
  pub certain_first : (w : Vote) → In w m.votes → w.from ≡ i → v.kind ≡ cert → next ≤ w.kind →
      v.period ≡ w.period → ⊥
  pub certain_then : (w : Vote) → In w m.votes → w.from ≡ i → w.kind ≡ cert → next ≤ v.kind →
      w.period ≡ v.period → (v.kind ≡ next) × (v.value ≡ w.value)
  pub certain_of : v.kind ≡ cert → v.period ≡ m.period →
      Heard l m.votes soft m.period 0 v.value × (is_in v.value m.blocks ≡ true)

pub one_place_back : (v w : Vote) → OnePlace v w → OnePlace w v
one_place_back v w o =
    record {
      period = sym o.period;
      step = sym o.step;
      kind = elim o.kind [ inl e ↦ inl (sym e) | inr (a, b) ↦ inr (b, a) ];
    }

-- the slot of a vote in a place where nothing was said is free
pub fresh_slot : (i : ℕ) (v : Vote) (vs : List Vote) → v.from ≡ i →
    ((w : Vote) → In w vs → w.from ≡ i → OnePlace v w → ⊥) → slot_taken v vs ≡ false
fresh_slot i v vs mine fresh =
    slot_free v vs (λ w h s.
    fresh w h (sym s.from ∙ mine) (record { period = s.period; step = s.step; kind = inl s.kind }))

-- a vote more: of another member, or of its own with what lets it say it
module _ (l : Limits) (i : ℕ) (m : Member) (v : Vote) (keeps : Keeps l i m) (range : Ranged l v)
    (free : slot_taken v m.votes ≡ false) (new : v.from ≡ i → New l i m v) where
  heard_more : HeardWell l (v ∷ m.votes)
  heard_more =
      record {
        fair = fair_more l.members v m.votes keeps.heard.fair free range.member;
        in_range = λ w h.
            elim (in_cases w v m.votes h) [ inl e ↦ rw e range | inr k ↦ keeps.heard.in_range w k ];
      }

  one_thing_more : (u w : Vote) → (u ≡ v) ⊎ In u m.votes → (w ≡ v) ⊎ In w m.votes → u.from ≡ i → w.from ≡ i →
      OnePlace u w → u ≡ w
  one_thing_more u w (inl e) (inl f) mu mw o = e ∙ sym f
  one_thing_more u w (inl e) (inr k) mu mw o = absurd ((new (rw e at mu)).fresh w k mw (rw e at o))
  one_thing_more u w (inr h) (inl f) mu mw o = absurd ((new (rw f at mw)).fresh u h mu (one_place_back u v (rw f at o)))
  one_thing_more u w (inr h) (inr k) mu mw o = keeps.own.one_thing u w h k mu mw o

  certain_on_more : (u w : Vote) → (u ≡ v) ⊎ In u m.votes → (w ≡ v) ⊎ In w m.votes → u.from ≡ i → w.from ≡ i →
      u.kind ≡ cert → next ≤ w.kind → u.period ≡ w.period → (w.kind ≡ next) × (w.value ≡ u.value)
  certain_on_more u w (inl e) (inl f) mu mw c n p =
      let same : u.kind ≡ w.kind = ap (λ (x : Vote). x.kind) (e ∙ sym f) in absurd (omega arith)
  certain_on_more u w (inl e) (inr k) mu mw c n p =
      absurd ((new (rw e at mu)).certain_first w k mw (rw e at c) n (rw e at p))
  certain_on_more u w (inr h) (inl f) mu mw c n p =
      rw f ((new (rw f at mw)).certain_then u h mu c (rw f at n) (rw f at p))
  certain_on_more u w (inr h) (inr k) mu mw c n p = keeps.own.certain_on u w h k mu mw c n p

  own_more : SaidWell l i (v ∷ m.votes)
  own_more =
      record {
        reason = λ w h mine.
            reason_stays l v m.votes w
            (elim (in_cases w v m.votes h)
            [ inl e ↦ rw e (new (rw e at mine)).reason | inr k ↦ keeps.own.reason w k mine ]);
        one_thing = λ u w h k. one_thing_more u w (in_cases u v m.votes h) (in_cases w v m.votes k);
        certain_on = λ u w h k. certain_on_more u w (in_cases u v m.votes h) (in_cases w v m.votes k);
      }

  certain_now_more : (w : Vote) → (w ≡ v) ⊎ In w m.votes → w.from ≡ i → w.kind ≡ cert → w.period ≡ m.period →
      Heard l (v ∷ m.votes) soft m.period 0 w.value × (is_in w.value m.blocks ≡ true)
  certain_now_more w (inl e) mine c p =
      let (h, b) = (new (rw e at mine)).certain_of (rw e at c) (rw e at p) in
      rw e (quorum-stays l soft m.period 0 v.value v m.votes h, b)
  certain_now_more w (inr k) mine c p =
      let (h, b) = keeps.certain_now w k mine c p in
      (quorum-stays l soft m.period 0 w.value v m.votes h, b)

  pub with_vote_keeps : Keeps l i (with_vote v m)
  with_vote_keeps =
      record {
        me = keeps.me;
        within = keeps.within;
        heard = heard_more;
        own = own_more;
        behind = λ w h mine.
            elim (in_cases w v m.votes h)
            [ inl e ↦ rw e (new (rw e at mine)).behind | inr k ↦ keeps.behind w k mine ];
        came = came_stays l v m.votes _ _ _ keeps.came;
        certain_now = λ w h. certain_now_more w (in_cases w v m.votes h);
        agreed = agreed_keeps l v m.votes _ _ keeps.agreed;
        proposals = keeps.proposals;
      }

-- WHERE IT STANDS

pub at_step_keeps : (l : Limits) (i s : ℕ) (m : Member) → Keeps l i m → m.step ≤ s → s ≤ suc l.steps →
    Keeps l i (at_step s m)
at_step_keeps l i s m k le few =
    record {
      me = k.me;
      within = record { from_1 = k.within.from_1; periods = k.within.periods; steps = few };
      heard = k.heard;
      own = k.own;
      came = k.came;
      certain_now = k.certain_now;
      agreed = k.agreed;
      proposals = k.proposals;
      behind = λ v h mine.
          let b : Behind m.period m.step m.certain v = k.behind v h mine in
          record {
            not_later = b.not_later;
            soft_behind = λ e p. let x : 1 ≤ m.step = b.soft_behind e p in omega arith;
            cert_behind = λ e p. let (x, y) = b.cert_behind e p in (x, omega arith);
            next_behind = λ e p. let x : v.step ≤ m.step = b.next_behind e p in omega arith;
          };
    }

pub now_certain_keeps : (l : Limits) (i : ℕ) (m : Member) → Keeps l i m → Keeps l i (now_certain m)
now_certain_keeps l i m k =
    record {
      me = k.me;
      within = k.within;
      heard = k.heard;
      own = k.own;
      came = k.came;
      certain_now = k.certain_now;
      agreed = k.agreed;
      proposals = k.proposals;
      behind = λ v h mine.
          let b : Behind m.period m.step m.certain v = k.behind v h mine in
          record {
            not_later = b.not_later;
            soft_behind = b.soft_behind;
            next_behind = b.next_behind;
            cert_behind = λ e p. (refl, (b.cert_behind e p).1);
          };
    }

pub in_period_keeps : (l : Limits) (i p : ℕ) (start : List ℕ) (free : Bool) (m : Member) → Keeps l i m → m.period < p →
    p ≤ suc l.periods → Came l m.votes p start free → Keeps l i (in_period p start free m)
in_period_keeps l i p start free m k lt few c =
    record {
      me = k.me;
      within = record { from_1 = omega arith; periods = few; steps = omega arith };
      heard = k.heard;
      own = k.own;
      came = c;
      agreed = k.agreed;
      proposals = k.proposals;
      behind = λ v h mine.
          let b : v.period ≤ m.period = (k.behind v h mine).not_later in
          record {
            not_later = omega arith;
            soft_behind = λ _ e. absurd (omega arith);
            cert_behind = λ _ e. absurd (omega arith);
            next_behind = λ _ e. absurd (omega arith);
          };
      certain_now = λ v h mine _ e.
          let b : v.period ≤ m.period = (k.behind v h mine).not_later in absurd (omega arith);
    }

-- BLOCKS, PROPOSALS, AGREEMENT

pub is_in_more : (a x : ℕ) (bs : List ℕ) → is_in a bs ≡ true → is_in a (add_block x bs) ≡ true
unfolding is_in
is_in_more a x bs h = either (λ cs. is_in a cs ≡ true) (is_in x bs) bs (x ∷ bs) (λ _. h) (λ _. or_right _ _ h)

pub with_block_keeps : (l : Limits) (i x : ℕ) (m : Member) → Keeps l i m →
    Keeps l i (with_blocks (add_block x m.blocks) m)
with_block_keeps l i x m k =
    record {
      me = k.me;
      within = k.within;
      heard = k.heard;
      own = k.own;
      behind = k.behind;
      came = k.came;
      certain_now = λ v h mine c p. let (q, b) = k.certain_now v h mine c p in (q, is_in_more _ x m.blocks b);
      agreed = elim k.agreed
          [ inl e ↦ inl e | inr (a, p, e, b, h) ↦ inr (a, p, e, is_in_more a x m.blocks b, h) ];
      proposals = k.proposals;
    }

pub keep_best_small : (o : Proposal) (os : List Proposal) → o.value < value_bound → Small os → Small (keep_best o os)
unfolding keep_best
keep_best_small o [] lt s = (lt, tt)
keep_best_small o (b ∷ bs) lt s =
    either Small (eqb b.period o.period) (cond (ltb o.rank b.rank) o b ∷ bs) (b ∷ keep_best o bs)
    (λ _. (either (λ c. c.value < value_bound) (ltb o.rank b.rank) o b (λ _. lt) (λ _. s.0), s.1))
    (λ _. (s.0, keep_best_small o bs lt s.1))

pub with_proposal_keeps : (l : Limits) (i : ℕ) (o : Proposal) (m : Member) → o.value < value_bound → Keeps l i m →
    Keeps l i (with_proposals (keep_best o m.proposals) m)
with_proposal_keeps l i o m lt k =
    record {
      me = k.me;
      within = k.within;
      heard = k.heard;
      own = k.own;
      behind = k.behind;
      came = k.came;
      certain_now = k.certain_now;
      agreed = k.agreed;
      proposals = keep_best_small o m.proposals lt k.proposals;
    }

pub having_agreed_keeps : (l : Limits) (i a p : ℕ) (m : Member) → Keeps l i m → is_in a m.blocks ≡ true →
    Heard l m.votes cert p 0 a → Keeps l i (having_agreed a m)
having_agreed_keeps l i a p m k b h =
    record {
      me = k.me;
      within = k.within;
      heard = k.heard;
      own = k.own;
      behind = k.behind;
      came = k.came;
      certain_now = k.certain_now;
      agreed = inr (a, p, refl, b, h);
      proposals = k.proposals;
    }
