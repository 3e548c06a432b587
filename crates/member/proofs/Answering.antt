-- An answer, from the checks that passed and what was done.
use Rattle.std.proofs.Common.{◌≡◌, ℕ, suc, ◌+◌, ◌-◌, ◌<◌, ◌≤◌, true, false, eqb, List, [], length, get_or, take, drop}
use Rattle.std.proofs.Common.{Some, None, Option, sym, refl, ap, ◌∙◌, inr, arith, length-drop, get_or-drop, get_or-take}
use Rattle.std.proofs.lemmas.List.{same_lists, get_or_default}
use Rattle.std.proofs.lemmas.Bool.{eq-eqb, ne_eqb, cond-true, cond-false, true≢false}
use Rattle.protocol.specs.Vote.{Limits}
use Rattle.protocol.specs.Member.{Member, Event, refused, says, is_some, is_event, event_number, in_range, last_refusal}
use Rattle.protocol.specs.Member.{refusal, not_refused, place, does, answer, after}
use Rattle.values.specs.declared.value.Value.{Value}
use Rattle.wire.specs.Meaning.{agreed_of}
use Rattle.cells.specs.Cells.{listed, Only}
use Rattle.member.specs.Header.{option_at, Header}
use Rattle.moves.specs.Parts.{of_header, of_votes, of_proposals, of_blocks, of_rest, votes_end, proposals_end}
use Rattle.moves.specs.Parts.{blocks_end, part, OnlyIn}
use Rattle.moves.specs.declared.state.Member as code

pub agreed-listed : (o : Option Value) → agreed_of o ≡ listed o
agreed-listed None = refl
agreed-listed (Some v) = refl

-- MEMORY

-- a write within the header leaves the parts behind it
module _ (l : Limits) (a b : List ℕ) (only : Only 0 64 a b) (long : length b ≡ length a) where
  behind : (n : ℕ) → 64 ≤ n → drop n b ≡ drop n a
  behind n h =
      same_lists (drop n b) (drop n a) (simp length-drop (ap (λ (k : ℕ). k - n) long))
      (λ k d low. same_at k d low)
    where
      same_at : (k d : ℕ) → k < length (drop n b) → get_or (drop n b) k d ≡ get_or (drop n a) k d
      same_at k d low =
          let short : length (drop n b) ≡ length b - n = length-drop n b in
          get_or-drop n b k d ∙ get_or_default b (n + k) d 0 (omega arith) ∙ only (n + k) (inr (omega arith))
          ∙ get_or_default a (n + k) 0 d (omega arith) ∙ sym (get_or-drop n a k d)

  pub only-header : OnlyIn of_header l a b
  only-header of_header same = absurd (true≢false same)
  only-header of_votes other = ap (take (votes_end l - 64)) (behind 64 (omega arith))
  only-header of_proposals other = ap (take (proposals_end l - votes_end l)) (behind (votes_end l) (omega arith))
  only-header of_blocks other = ap (take (blocks_end l - proposals_end l)) (behind (proposals_end l) (omega arith))
  only-header of_rest other = behind (blocks_end l) (omega arith)

-- a value that may be missing is the same where its five numbers are
pub option_same : (a b : List ℕ) (at : ℕ) → ((i : ℕ) → at ≤ i → i < at + 5 → get_or b i 0 ≡ get_or a i 0) →
    option_at b at ≡ option_at a at
option_same a b at same =
    rw (
      same at (omega arith) (omega arith),
      same (at + 1) (omega arith) (omega arith),
      same (at + 1 + 1) (omega arith) (omega arith),
      same (at + 1 + 2) (omega arith) (omega arith),
      same (at + 1 + 3) (omega arith) (omega arith),
    ) refl

-- a header stays where its numbers do
module _ (a b : List ℕ) (x : code.Member) (l : Limits) (same : part of_header l b ≡ part of_header l a)
    (long : length b ≡ length a) where
  number_same : (i : ℕ) → i < 64 → get_or b i 0 ≡ get_or a i 0
  number_same i h =
      sym (get_or-take 64 b i 0 h) ∙ ap (λ (xs : List ℕ). get_or xs i 0) same ∙ get_or-take 64 a i 0 h

  pub header-kept : Header a x → Header b x
  header-kept h = record {
    asks = record {
      marked = number_same 0 (omega arith) ∙ h.asks.marked;
      members = number_same 1 (omega arith) ∙ h.asks.members;
      periods = number_same 2 (omega arith) ∙ h.asks.periods;
      steps = number_same 3 (omega arith) ∙ h.asks.steps;
      blocks = number_same 4 (omega arith) ∙ h.asks.blocks;
      long = omega (arith, long, h.asks.long);
    };
    me = number_same 5 (omega arith) ∙ h.me;
    place = record {
      period = number_same 6 (omega arith) ∙ h.place.period;
      step = number_same 7 (omega arith) ∙ h.place.step;
      free = rw (number_same 8 (omega arith)) h.place.free;
      certain = rw (number_same 9 (omega arith)) h.place.certain;
      blocks = number_same 10 (omega arith) ∙ h.place.blocks;
    };
    start = option_same a b 11 (λ i low high. number_same i (omega arith)) ∙ h.start;
    agreed = option_same a b 16 (λ i low high. number_same i (omega arith)) ∙ h.agreed;
  }

-- REFUSALS

module _ (l : Limits) (m : Member) (e : Event) where
  pub refused-answer : (k : ℕ) → refusal l m e ≡ suc k → answer l m e ≡ refused (suc k) (place e)
  refused-answer k h =
      cond-false (eqb (refusal l m e) not_refused) _ _ (ne_eqb _ _ (λ z. omega (arith, h, z)))
      ∙ ap (λ (n : ℕ). refused n (place e)) h

  pub refused-after : (k : ℕ) → refusal l m e ≡ suc k → after l m e ≡ m
  refused-after k h = cond-false (eqb (refusal l m e) not_refused) _ _ (ne_eqb _ _ (λ z. omega (arith, h, z)))

  pub taken_answer : refusal l m e ≡ not_refused → answer l m e ≡ says (does l m e).out (does l m e).member.agreed
  taken_answer h = cond-true (eqb (refusal l m e) not_refused) _ _ (eq-eqb _ _ h)

  pub taken_after : refusal l m e ≡ not_refused → after l m e ≡ (does l m e).member
  taken_after h = cond-true (eqb (refusal l m e) not_refused) _ _ (eq-eqb _ _ h)

  -- where an event is one, is taken at this stage, is in range, and nothing is agreed yet
  pub by_last : is_event e ≡ true → l.takes (event_number e) ≡ true → in_range l e ≡ true → m.agreed ≡ [] →
      refusal l m e ≡ last_refusal l m e
  unfolding is_some
  by_last event taken good none = rw (event, taken, good, none) refl

  pub out_of_range_is : is_event e ≡ true → l.takes (event_number e) ≡ true → in_range l e ≡ false → refusal l m e ≡ 2
  out_of_range_is event taken bad = rw (event, taken, bad) refl

  pub agreed_before-is : is_event e ≡ true → l.takes (event_number e) ≡ true → in_range l e ≡ true →
      is_some m.agreed ≡ true →
      refusal l m e ≡ 3
  agreed_before-is event taken good agreed = rw (event, taken, good, agreed) refl
