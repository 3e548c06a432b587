-- One member and one event, whatever the member: what each small step keeps, and the promises that follow at once.
use Rattle.std.proofs.Common.{◌≡◌, ℕ, suc, ◌<◌, ◌≤◌, Bool, true, false, cond, not, ◌&&◌, eqb, leb, List, [], ◌∷◌, ◌++◌}
use Rattle.std.proofs.Common.{refl, ap, ◌∙◌, arith}
use Rattle.std.proofs.lemmas.Bool.{and_from, and_parts, leb-true, le-leb, ne_eqb, cond-false}
use Rattle.protocol.specs.Vote.{next, next_none, Vote, Limits, has_quorum}
use Rattle.protocol.specs.Member.{Member, Event, got_vote, got_proposal, got_block, timeout, unreadable, Outcome}
use Rattle.protocol.specs.Member.{silent, with_vote, with_blocks, add_block, at_step, in_period, is_some, chosen}
use Rattle.protocol.specs.Member.{certified, say, say_soft, soft_value, next_vote, on_timeout, onward, onward_all}
use Rattle.protocol.specs.Member.{say_cert, certainly, agree_on, agree, settle, does, is_event, event_number, in_range}
use Rattle.protocol.specs.Member.{last_refusal, refusal, not_refused}
use Rattle.protocol.specs.Promises.{all, GoodLimits, PeriodsGoOn, NeverStuck, AgreedStays, TurnedAway}

-- what is kept by each of the three rules that follow an event
pub record Rules (l : Limits) (K : Outcome → Type 0) : Type 0 where
  pub by_onward : (v : Vote) (d : Outcome) → K d → K (onward l v d)
  pub by_certainly : (d : Outcome) → K d → K (certainly l d)
  pub by_agree : (d : Outcome) → K d → K (agree l d)

-- is kept by all of them together
pub onward_all_keeps : (l : Limits) (K : Outcome → Type 0) → Rules l K → (vs : List Vote) (d : Outcome) → K d →
    K (onward_all l vs d)
unfolding onward_all
onward_all_keeps l K r [] d k = k
onward_all_keeps l K r (v ∷ vs) d k = onward_all_keeps l K r vs (onward l v d) (r.by_onward v d k)

pub settle_keeps : (l : Limits) (K : Outcome → Type 0) → Rules l K → (d : Outcome) → K d → K (settle l d)
settle_keeps l K r d k =
    r.by_agree _ (onward_all_keeps l K r (certainly l d).out (certainly l d) (r.by_certainly d k))

-- a choice between two members, or two outcomes
pub either : {A : Type 0} (K : A → Type 0) (b : Bool) (x y : A) → (b ≡ true → K x) → (b ≡ false → K y) → K (cond b x y)
either K true x y t f = t refl
either K false x y t f = f refl

-- the period that a vote to go on leads to
abbrev pub gone_on : Vote → Outcome → Outcome
gone_on v d =
    record {
      member = in_period (suc v.period) (cond (eqb v.kind next) (v.value ∷ []) [])
          (eqb v.kind next_none) d.member;
      out = d.out;
    }

pub onward_keeps : (l : Limits) (K : Outcome → Type 0) (v : Vote) (d : Outcome) →
    (next ≤ v.kind → d.member.period ≤ v.period →
    has_quorum l v.kind v.period v.step v.value d.member.votes ≡ true → K (gone_on v d)) →
    K d → K (onward l v d)
onward_keeps l K v d goes stays =
    either K _ (gone_on v d) d
    (λ h. let a : _ = and_parts _ _ h in
    let b : _ = and_parts _ _ a.0 in
    goes (leb-true _ _ b.0) (leb-true _ _ b.1) a.1)
    (λ _. stays)

-- TURNED AWAY

pub turned_away : TurnedAway
turned_away l m e h =
    cond-false (eqb (refusal l m e) not_refused) _ m (ne_eqb (refusal l m e) not_refused (omega arith))

-- AGREED STAYS

refuses : (a b c : Bool) (n : ℕ) → c ≡ true → 0 < cond (not a) 1 (cond (not b) 2 (cond c 3 n))
refuses false b c n h = omega arith
refuses true false c n h = omega arith
refuses true true c n h = rw h (omega arith)

pub some_agreed : (m : Member) (a : ℕ) → m.agreed ≡ a ∷ [] → is_some m.agreed ≡ true
unfolding is_some
some_agreed m a h = rw h

pub agreed-stays : AgreedStays
agreed-stays l m e a h =
    let refused : 0 < refusal l m e =
    refuses (is_event e) (l.takes (event_number e) && in_range l e) _ (last_refusal l m e) (some_agreed m a h) in
    ap (λ (x : Member). x.agreed) (turned_away l m e refused) ∙ h

-- PERIODS GO ON

abbrev NotBefore : ℕ → Outcome → Type 0
NotBefore p d = p ≤ d.member.period

pub period_rules : (l : Limits) (p : ℕ) → Rules l (NotBefore p)
unfolding say_cert agree_on
period_rules l p =
    record {
      by_onward = λ v d k. onward_keeps l (NotBefore p) v d (λ _ on _. omega arith) k;
      by_certainly = λ d k. either (NotBefore p) _ _ d (λ _. cert_keeps (chosen l d.member) d k) (λ _. k);
      by_agree = λ d k.
          either (λ m. p ≤ m.period) _ d.member _ (λ _. k)
          (λ _. agree_keeps (certified l d.member) d.member k);
    }
  where
    cert_keeps : (xs : List ℕ) (d : Outcome) → NotBefore p d → NotBefore p (say_cert xs d)
    cert_keeps [] d k = k
    cert_keeps (x ∷ xs) d k = k

    agree_keeps : (xs : List ℕ) (m : Member) → p ≤ m.period → p ≤ (agree_on xs m).period
    agree_keeps [] m k = k
    agree_keeps (x ∷ xs) m k = k

soft-period : (p : ℕ) (xs : List ℕ) (d : Outcome) → NotBefore p d → NotBefore p (say_soft xs d)
unfolding say_soft
soft-period p [] d k = k
soft-period p (x ∷ xs) d k = k

pub does_goes_on : (l : Limits) (m : Member) (e : Event) → m.period ≤ (does l m e).member.period
unfolding does
does_goes_on l m (got_vote v) =
    let rules : _ = period_rules l m.period in
    settle_keeps l (NotBefore m.period) rules (onward l v (silent (with_vote v m)))
    (rules.by_onward v (silent (with_vote v m)) (omega arith))
does_goes_on l m (got_proposal o) = omega arith
does_goes_on l m (got_block x) = settle_keeps l (NotBefore m.period) (period_rules l m.period)
    (silent (with_blocks (add_block x m.blocks) m)) (omega arith)
does_goes_on l m timeout =
    settle_keeps l (NotBefore m.period) (period_rules l m.period) (on_timeout l m)
    (either (NotBefore m.period) (eqb m.step 0) _ _
    (λ _. soft-period m.period (soft_value m) (silent (at_step 1 m)) (omega arith))
    (λ _. omega arith))
does_goes_on l m (unreadable n) = omega arith

pub periods_go_on : PeriodsGoOn
periods_go_on l m e =
    either (λ x. m.period ≤ x.period) _ (does l m e).member m (λ _. does_goes_on l m e) (λ _. omega arith)

-- NEVER STUCK

abbrev Says : Outcome → Type 0
Says d = is_some d.out ≡ true

pub some_more : (vs : List Vote) (v : Vote) → is_some (vs ++ (v ∷ [])) ≡ true
unfolding is_some
some_more [] v = refl
some_more (w ∷ ws) v = refl

pub says_rules : (l : Limits) → Rules l Says
unfolding say_cert
says_rules l =
    record {
      by_onward = λ v d k. either Says _ _ d (λ _. k) (λ _. k);
      by_certainly = λ d k. either Says _ _ d (λ _. cert_keeps (chosen l d.member) d k) (λ _. k);
      by_agree = λ d k. k;
    }
  where
    cert_keeps : (xs : List ℕ) (d : Outcome) → Says d → Says (say_cert xs d)
    cert_keeps [] d k = k
    cert_keeps (x ∷ xs) d k = some_more d.out _

pub timeout-says : (l : Limits) (m : Member) → 1 ≤ m.step → is_some (does l m timeout).out ≡ true
unfolding does
timeout-says l m h =
    settle_keeps l Says (says_rules l) (on_timeout l m)
    (rw (cond-false (eqb m.step 0) (say_soft (soft_value m) (silent (at_step 1 m)))
    (say (next_vote m (suc m.step) (chosen l m)) (silent (at_step (suc m.step) m)))
    (ne_eqb _ _ (omega arith)))
    (some_more [] (next_vote m (suc m.step) (chosen l m))))

not_agreed : (m : Member) → m.agreed ≡ [] → is_some m.agreed ≡ false
unfolding is_some
not_agreed m h = rw h

taken : (t a r : Bool) → t ≡ true → a ≡ false → r ≡ true →
    ◌≡◌ {A = ℕ} (cond (not (t && true)) 2 (cond a 3 (cond r 0 5))) 0
taken t a r ht ha hr = rw (ht, ha, hr)

pub time_can_be_up : (l : Limits) (m : Member) → GoodLimits all l → m.agreed ≡ [] → m.step ≤ l.steps →
    m.period ≤ l.periods → refusal l m timeout ≡ not_refused
unfolding is_event event_number in_range last_refusal
time_can_be_up l m good none step period =
    taken (l.takes 3) (is_some m.agreed) (leb m.step l.steps && leb m.period l.periods) (good.stage 3)
    (not_agreed m none) (and_from _ _ (le-leb _ _ step) (le-leb _ _ period))

pub never_stuck : NeverStuck
never_stuck l m good none step period = (time_can_be_up l m good none step period, timeout-says l m)
