-- Each event keeps what a member keeps, and after it no certified value is left that it did not agree on.
use Rattle.std.proofs.Common.{◌≡◌, ℕ, ◌<◌, Bool, true, false, cond, not, ◌&&◌, eqb, ltb, leb, ◌⊎◌, List, [], ◌∷◌, sym}
use Rattle.std.proofs.Common.{refl, ap, ◌∙◌, inl, inr, arith}
use Rattle.std.proofs.lemmas.Bool.{and_parts, or_parts, eqb-true, eqb-false, both_ways, leb-true, ltb-true}
use Rattle.protocol.specs.Vote.{Vote, Limits, value_bound, slot_taken}
use Rattle.protocol.specs.Member.{Member, Event, got_vote, got_proposal, got_block, timeout, unreadable, Outcome}
use Rattle.protocol.specs.Member.{silent, with_vote, with_blocks, with_proposals, keep_best, add_block, is_some}
use Rattle.protocol.specs.Member.{certified, certified_in, onward, onward_all, certainly, agree_on, agree, settle}
use Rattle.protocol.specs.Member.{on_timeout, does, is_event, event_number, in_range, last_refusal, refusal}
use Rattle.protocol.specs.Member.{not_refused, refused, says, answer, after, place}
use Rattle.protocol.specs.Network.{votes_of}
use Rattle.protocol.specs.Programs.{member_after}
use Rattle.protocol.proofs.Ranges.{ranged}
use Rattle.safety.proofs.Votes.{In, in_cases, in_later}
use Rattle.safety.proofs.Single.{settle_keeps, either}
use Rattle.safety.proofs.Keeps.{Keeps, new_keeps}
use Rattle.safety.proofs.Moves.{with_vote_keeps, with_block_keeps, with_proposal_keeps}
use Rattle.safety.proofs.Chosen.{nil_not_cons}
use Rattle.safety.proofs.Outcomes.{Kept, silent-kept}
use Rattle.safety.proofs.Following.{onward-kept, kept_rules}
use Rattle.safety.proofs.Timeouts.{on_timeout-kept}

-- WHAT IS NOT REFUSED

reasons : (a b c : Bool) (n : ℕ) → cond (not a) 1 (cond (not b) 2 (cond c 3 n)) ≡ 0 → (b ≡ true) × (c ≡ false) × (n ≡ 0)
reasons false b c n h = absurd (omega arith)
reasons true false c n h = absurd (omega arith)
reasons true true true n h = absurd (omega arith)
reasons true true false n h = (refl, refl, h)

not_refused_because : (l : Limits) (m : Member) (e : Event) → refusal l m e ≡ not_refused →
    ((l.takes (event_number e) && in_range l e) ≡ true) × (is_some m.agreed ≡ false) × (last_refusal l m e ≡ 0)
not_refused_because l m e h =
    reasons (is_event e) (l.takes (event_number e) && in_range l e) (is_some m.agreed) (last_refusal l m e) h

pub taken_in_range : (l : Limits) (m : Member) (e : Event) → refusal l m e ≡ not_refused → in_range l e ≡ true
taken_in_range l m e h =
    (and_parts (l.takes (event_number e)) (in_range l e) (not_refused_because l m e h).0).1

pub taken_last : (l : Limits) (m : Member) (e : Event) → refusal l m e ≡ not_refused → last_refusal l m e ≡ not_refused
taken_last l m e h = (not_refused_because l m e h).2

zero_else : (b : Bool) (n : ℕ) → 0 < n → cond b n 0 ≡ 0 → b ≡ false
zero_else true n some h = absurd (omega arith)
zero_else false n some h = refl

zero_then : (b : Bool) (n : ℕ) → 0 < n → cond b 0 n ≡ 0 → b ≡ true
zero_then false n some h = absurd (omega arith)
zero_then true n some h = refl

-- a vote that is heard is of another member, in a free slot
pub heard_other : (l : Limits) (m : Member) (v : Vote) → refusal l m (got_vote v) ≡ not_refused →
    (slot_taken v m.votes ≡ false) × (v.from ≡ m.me → ⊥)
unfolding last_refusal
heard_other l m v h =
    let free : (slot_taken v m.votes ≡ false) × (eqb v.from m.me ≡ false) =
    or_parts _ _ (zero_else _ 4 (omega arith) (taken_last l m (got_vote v) h)) in
    (free.0, eqb-false _ _ free.1)

-- EACH EVENT

-- what comes of an event, refused or not; `before` is what was heard before, and the vote that came
pub record Comes (l : Limits) (i : ℕ) (m : Member) (e : Event) (d : Outcome) : Type 0 where
  pub before : List Vote
  pub from_before : (v : Vote) → In v before → In v m.votes ⊎ (e ≡ got_vote v)
  pub all_before : (v : Vote) → In v m.votes → In v before
  pub kept : Kept l i before d

quietly : (l : Limits) (i : ℕ) (m : Member) (e : Event) (d : Outcome) → Kept l i m.votes d → Comes l i m e d
quietly l i m e d k = record { before = m.votes; from_before = λ v h. inl h; all_before = λ v h. h; kept = k }

module _ (l : Limits) (i : ℕ) (member : i < l.members) (m : Member) (keeps : Keeps l i m) where
  pub vote_comes : (v : Vote) → refusal l m (got_vote v) ≡ not_refused →
      Comes l i m (got_vote v) (settle l (onward l v (silent (with_vote v m))))
  unfolding in_range
  vote_comes v h =
      let (free, not-me) = heard_other l m v h in
      let other : v.from ≡ i → ⊥ = λ e. not-me (e ∙ sym keeps.me) in
      let hears : Keeps l i (with_vote v m) =
      with_vote_keeps l i m v keeps (ranged l v (taken_in_range l m (got_vote v) h)) free
      (λ e. absurd (other e)) in
      let d : Outcome = silent (with_vote v m) in
      record {
        before = v ∷ m.votes;
        from_before = λ w at.
            elim (in_cases w v m.votes at) [ inl e ↦ inr (ap got_vote (sym e)) | inr k ↦ inl k ];
        all_before = λ w at. in_later w v m.votes at;
        kept = settle_keeps l (Kept l i (v ∷ m.votes)) (kept_rules l i member (v ∷ m.votes)) (onward l v d)
            (onward-kept l i member (v ∷ m.votes) v d (silent-kept l i (with_vote v m) hears));
      }

  pub timeout_comes : refusal l m timeout ≡ not_refused → Comes l i m timeout (settle l (on_timeout l m))
  unfolding last_refusal
  timeout_comes h =
      let time : (leb m.step l.steps ≡ true) × (leb m.period l.periods ≡ true) =
      and_parts _ _ (zero_then _ 5 (omega arith) (taken_last l m timeout h)) in
      quietly l i m timeout (settle l (on_timeout l m))
      (settle_keeps l (Kept l i m.votes) (kept_rules l i member m.votes) (on_timeout l m)
      (on_timeout-kept l i member m keeps (leb-true _ _ time.1) (leb-true _ _ time.0)))

  pub does_comes : (e : Event) → refusal l m e ≡ not_refused → Comes l i m e (does l m e)
  unfolding does in_range
  does_comes (got_vote v) h = vote_comes v h
  does_comes (got_proposal o) h =
      let small : ltb o.value value_bound ≡ true =
      (and_parts _ _ (and_parts _ _ (taken_in_range l m (got_proposal o) h)).1).0 in
      let next : Member = with_proposals (keep_best o m.proposals) m in
      quietly l i m (got_proposal o) (silent next)
      (silent-kept l i next (with_proposal_keeps l i o m (ltb-true _ _ small) keeps))
  does_comes (got_block x) h =
      let next : Member = with_blocks (add_block x m.blocks) m in
      quietly l i m (got_block x) (settle l (silent next))
      (settle_keeps l (Kept l i m.votes) (kept_rules l i member m.votes) (silent next)
      (silent-kept l i next (with_block_keeps l i x m keeps)))
  does_comes timeout h = timeout_comes h
  does_comes (unreadable n) h = quietly l i m (unreadable n) (silent m) (silent-kept l i m keeps)

  -- an event, refused or not: the member after it, and what it says
  pub event_comes : (e : Event) → Comes l i m e (record { member = after l m e; out = votes_of (answer l m e) })
  unfolding votes_of
  event_comes e = go (eqb (refusal l m e) not_refused) refl
    where
      go : (b : Bool) → eqb (refusal l m e) not_refused ≡ b →
          Comes l i m e
          (record {
            member = cond b (does l m e).member m;
            out = votes_of (cond b (says (does l m e).out (does l m e).member.agreed)
                (refused (refusal l m e) (place e)));
          })
      go true h = does_comes e (eqb-true _ _ h)
      go false h = quietly l i m e (silent m) (silent-kept l i m keeps)

  pub after_keeps : (e : Event) → Keeps l i (after l m e)
  after_keeps e = (event_comes e).kept.member

-- after any events whatever
pub member_after_keeps : (l : Limits) (i : ℕ) (es : List Event) → i < l.members → Keeps l i (member_after l i es)
unfolding member_after
member_after_keeps l i [] member = new_keeps l i
member_after_keeps l i (e ∷ es) member =
    after_keeps l i member (member_after l i es) (member_after_keeps l i es member) e

-- WHO HAS NOT AGREED HAS NOTHING TO AGREE ON

abbrev pub NothingLeft : Limits → Member → Type 0
NothingLeft l m = m.agreed ≡ [] → certified l m ≡ []

pub agree_leaves_nothing : (l : Limits) (d : Outcome) → NothingLeft l (agree l d).member
unfolding agree_on is_some
agree_leaves_nothing l d =
    either (NothingLeft l) (is_some d.member.agreed) d.member (agree_on (certified l d.member) d.member)
    (λ some none. absurd (both_ways _ (ap is_some none) some))
    (λ _. go (certified l d.member) refl)
  where
    go : (xs : List ℕ) → certified l d.member ≡ xs → NothingLeft l (agree_on xs d.member)
    go [] e none = e
    go (x ∷ xs) e none = absurd (nil_not_cons x [] (sym none))

pub settle_leaves_nothing : (l : Limits) (d : Outcome) → NothingLeft l (settle l d).member
settle_leaves_nothing l d = agree_leaves_nothing l (onward_all l (certainly l d).out (certainly l d))

pub does_leaves_nothing : (l : Limits) (m : Member) (e : Event) → NothingLeft l m → NothingLeft l (does l m e).member
unfolding does
does_leaves_nothing l m (got_vote v) n =
    settle_leaves_nothing l (onward l v (silent (with_vote v m)))
does_leaves_nothing l m (got_proposal o) n = n
does_leaves_nothing l m (got_block x) n =
    settle_leaves_nothing l (silent (with_blocks (add_block x m.blocks) m))
does_leaves_nothing l m timeout n = settle_leaves_nothing l (on_timeout l m)
does_leaves_nothing l m (unreadable k) n = n

pub member_after_leaves_nothing : (l : Limits) (i : ℕ) (es : List Event) → NothingLeft l (member_after l i es)
unfolding member_after certified_in
member_after_leaves_nothing l i [] = λ none. refl
member_after_leaves_nothing l i (e ∷ es) =
    let m : Member = member_after l i es in
    either (NothingLeft l) (eqb (refusal l m e) not_refused) (does l m e).member m
    (λ _. does_leaves_nothing l m e (member_after_leaves_nothing l i es)) (λ _. member_after_leaves_nothing l i es)
