-- Which refusal an event has after the first three, and the answer that follows.
use Rattle.std.proofs.Common.{◌≡◌, ℕ, suc, ◌<◌, ◌≤◌, Bool, true, false, cond, ◌&&◌, ◌||◌, eqb, ltb, leb, List, []}
use Rattle.std.proofs.Common.{length, sym, refl, ◌∙◌, subst, ap₂, arith}
use Rattle.std.proofs.lemmas.Bool.{or_from, or_left, or_right, and_from, ne_eqb, le-leb, lt-ltb, le-ltb, leb-true}
use Rattle.std.proofs.lemmas.Bool.{cond-true, cond-false}
use Rattle.protocol.specs.Vote as protocol
use Rattle.protocol.specs.Vote.{Vote, Proposal, value_bound, slot_taken}
use Rattle.protocol.specs.Member.{Member, Event, got_vote, got_proposal, got_block, timeout, refused, says, is_in}
use Rattle.protocol.specs.Member.{is_event, event_number, vote_in_range, in_range, last_refusal, refusal, place, does}
use Rattle.wire.specs.declared.answers.Answer.{Answer}
use Rattle.wire.specs.declared.events.Event as code-event
use Rattle.wire.specs.declared.events.Event.TheVariants as code-variants
use Rattle.wire.specs.Meaning.{answer_of, event_of}
use Rattle.cells.specs.Cells.{listed}
use Rattle.member.specs.Answered.{Carries, Answered}
use Rattle.moves.specs.Events.{Did, KeptParts}
use Rattle.member.specs.Header.{Header}
use Rattle.moves.specs.Moves.{Same}
use Rattle.moves.specs.Parts.{of_header, of_rest, OnlyIn}
use Rattle.moves.specs.Stands.{lim, Stands}
use Rattle.moves.specs.declared.state.Member as code
use Rattle.member.proofs.Answering.{header-kept, refused-answer, refused-after, taken_answer, taken_after, by_last}
use Rattle.moves.proofs.Standing.{same_lim, same_only}

-- THE LAST THREE REFUSALS
module _ (l : protocol.Limits) (m : Member) (takes : (k : ℕ) → l.takes k ≡ true) (none : m.agreed ≡ []) where
  module _ (v : Vote) (good : vote_in_range l v ≡ true) where
    vote_last : refusal l m (got_vote v) ≡ cond (slot_taken v m.votes || eqb v.from m.me) 4 0
    unfolding is_event event_number in_range last_refusal
    vote_last = by_last l m (got_vote v) refl (takes 0) good none

    pub vote-refused : (slot_taken v m.votes || eqb v.from m.me) ≡ true → refusal l m (got_vote v) ≡ 4
    vote-refused h = vote_last ∙ cond-true _ _ _ h

    pub vote_taken : slot_taken v m.votes ≡ false → (v.from ≡ m.me → ⊥) → refusal l m (got_vote v) ≡ 0
    vote_taken free other = vote_last ∙ cond-false _ _ _ (or_from _ _ free (ne_eqb v.from m.me other))

  pub proposal_taken : (o : Proposal) → in_range l (got_proposal o) ≡ true → refusal l m (got_proposal o) ≡ 0
  unfolding is_event event_number last_refusal
  proposal_taken o good = by_last l m (got_proposal o) refl (takes 1) good none

  module _ (x : ℕ) (small : x < value_bound) where
    block_last : refusal l m (got_block x) ≡ cond (is_in x m.blocks || ltb (length m.blocks) l.blocks) 0 6
    unfolding is_event event_number in_range last_refusal
    block_last = by_last l m (got_block x) refl (takes 2) (lt-ltb x value_bound small) none

    pub block_refused : is_in x m.blocks ≡ false → l.blocks ≤ length m.blocks → refusal l m (got_block x) ≡ 6
    block_refused here full = block_last ∙ cond-false _ _ _ (or_from _ _ here (le-ltb (length m.blocks) l.blocks full))

    pub block_taken : (is_in x m.blocks ≡ false → length m.blocks < l.blocks) → refusal l m (got_block x) ≡ 0
    block_taken room = block_last ∙ cond-true _ _ _ (either (is_in x m.blocks) refl)
      where
        either : (b : Bool) → is_in x m.blocks ≡ b → (is_in x m.blocks || ltb (length m.blocks) l.blocks) ≡ true
        either true e = or_left _ _ e
        either false e = or_right _ _ (lt-ltb _ _ (room e))

  time_last : refusal l m timeout ≡ cond (leb m.step l.steps && leb m.period l.periods) 0 5
  unfolding is_event event_number in_range last_refusal
  time_last = by_last l m timeout refl (takes 3) refl none

  pub time_refused : ((m.step ≤ l.steps) × (m.period ≤ l.periods) → ⊥) → refusal l m timeout ≡ 5
  time_refused h = time_last ∙ cond-false _ _ _ (no_time (leb m.step l.steps) (leb m.period l.periods) refl refl)
    where
      no_time : (a b : Bool) → leb m.step l.steps ≡ a → leb m.period l.periods ≡ b → (a && b) ≡ false
      no_time true true p q = absurd (h (leb-true _ _ p, leb-true _ _ q))
      no_time true false p q = refl
      no_time false b p q = refl

  pub time_taken : m.step ≤ l.steps → m.period ≤ l.periods → refusal l m timeout ≡ 0
  time_taken s p = time_last ∙ cond-true _ _ _ (and_from _ _ (le-leb _ _ s) (le-leb _ _ p))

-- ANSWERS

-- refused: nothing changes
pub refuse : (x : code.Member) (mem : List ℕ) (m : Member) (e : Event) (k : ℕ) (a : Answer) →
    refusal (lim x) m e ≡ suc k →
    answer_of a ≡ refused (suc k) (place e) → Header mem x → Stands x mem m → Answered x mem mem m e a
refuse x mem m e k a r is header stands = record {
  is = is ∙ sym (refused-answer (lim x) m e k r);
  carries = record {
    member = x;
    limits = refl;
    me = refl;
    header = header;
    stands = subst (λ (n : Member). Stands x mem n) (sym (refused-after (lim x) m e k r)) stands;
  };
  kept = λ h. refl;
  rest = refl;
}

-- done: the member after it is written
pub done : (x y : code.Member) (mem mid new : List ℕ) (m : Member) (e : Event) (a : Answer) (said : List Vote) →
    refusal (lim x) m e ≡ 0 → Same x y → Header mem x → KeptParts (lim x) mem mid → length mid ≡ length mem →
    Did y mid said (does (lim x) m e) → answer_of a ≡ says said (listed y.agreed) →
    ((z : code.Member) (k : Member) → Header mid z → Same z y → Stands y mid k → Carries (lim y) y.me new k) →
    OnlyIn of_header (lim y) mid new → Answered x mem new m e a
done x y mem mid new m e a said r same header kept long did is carries only =
    let there : Carries (lim y) y.me new (does (lim x) m e).member =
    carries x _ (header-kept mem mid x (lim x) kept.header long header) same did.stands in
    record {
      is = is ∙ ap₂ says did.out did.stands.agreed ∙ sym (taken_answer (lim x) m e r);
      carries = subst (λ (n : Member). Carries (lim x) x.me new n) (sym (taken_after (lim x) m e r))
          (subst (λ (l : protocol.Limits). Carries l x.me new (does (lim x) m e).member) (same_lim x y same)
          (subst (λ (i : ℕ). Carries (lim y) i new (does (lim x) m e).member) same.me there));
      kept = λ h. absurd (omega (arith, h, r));
      rest = same_only x y same of_header mid new only of_rest refl ∙ kept.rest;
    }

-- the refusals of an event of the code point at place 0
pub no_place : (e : code-event.Event) (k : ℕ) → refused k 0 ≡ refused k (place (event_of e))
unfolding place
no_place (code-variants.Vote v) k = refl
no_place (code-variants.Proposal o) k = refl
no_place (code-variants.Block x) k = refl
no_place code-variants.Timeout k = refl
