-- Events are read back, and have one spelling. Assumes nothing.
use Rattle.std.proofs.Common.{◌≡◌, ℕ, suc, ◌<◌, true, List, [], ◌∷◌, length, get_or, take, drop, sym, refl, ap, ◌∙◌}
use Rattle.std.proofs.Common.{arith, length-drop}
use Rattle.std.proofs.lemmas.List.{take_all, take_at, drop_more}
use Rattle.std.proofs.lemmas.Bool.{ltb-true, false≢true, ne_eqb}
use Rattle.values.specs.Digits.{le_number, le_bytes}
use Rattle.values.proofs.Digits.{length_digits, number_digits}
use Rattle.values.proofs.Pieces.{Front}
use Rattle.protocol.specs.Member.{Event, got_vote, got_proposal, got_block, timeout, unreadable, is_event}
use Rattle.protocol.specs.Programs.{readable}
use Rattle.wire.specs.Bytes.{event_bytes, event_by, event_in, sized, part, vote_bytes, vote_in, proposal_bytes}
use Rattle.wire.specs.Bytes.{proposal_in}
use Rattle.wire.specs.Statements.{EventsReadBack, EventsOneSpelling}
use Rattle.wire.proofs.Sized.{sized-is}
use Rattle.wire.proofs.Fields.{length-vote, length_proposal, under-part}
use Rattle.wire.proofs.FieldsBack.{vote_back, proposal_back, vote-spelled, proposal_spelled, field_bytes, length_part}
use Rattle.wire.proofs.EventIn.{event_at, event_cases}

-- bytes of the right number are the event that their first says
pub event-sized : (bs : List ℕ) (t n : ℕ) (e : Event) → 0 < length bs → get_or bs 0 0 ≡ t →
    event_by t bs ≡ sized unreadable n bs e →
    length bs ≡ n → event_in bs ≡ e
event-sized bs t n e some first by long =
    event_at bs t (ne_eqb _ _ (λ z. omega arith)) first ∙ by ∙ sized-is unreadable n bs e long

pub events_read_back : EventsReadBack
unfolding readable is_event
events_read_back (got_vote v) is fits =
    let long = length-vote v in
    event-sized (0 ∷ vote_bytes v) 0 65 _ (omega arith) refl refl (ap suc long)
    ∙ ap (λ l. got_vote (vote_in l)) (take_all 64 (vote_bytes v) (omega arith))
    ∙ ap got_vote (vote_back v fits)
events_read_back (got_proposal o) is fits =
    let long = length_proposal o in
    event-sized (1 ∷ proposal_bytes o) 1 49 _ (omega arith) refl refl (ap suc long)
    ∙ ap (λ l. got_proposal (proposal_in l)) (take_all 48 (proposal_bytes o) (omega arith))
    ∙ ap got_proposal (proposal_back o fits)
events_read_back (got_block x) is fits =
    let long = length_digits 256 32 x in
    event-sized (2 ∷ le_bytes 32 x) 2 33 _ (omega arith) refl refl (ap suc long)
    ∙ ap (λ l. got_block (le_number l)) (take_all 32 (le_bytes 32 x) (omega arith))
    ∙ ap got_block (number_digits 256 32 x (omega arith) (ltb-true _ _ fits))
events_read_back timeout is fits = event-sized (3 ∷ []) 3 1 timeout (omega arith) refl refl refl
events_read_back (unreadable n) is fits = absurd (false≢true is)

-- the first byte, and the k after it
pub whole_by_part : (bs : List ℕ) (t k : ℕ) (p : List ℕ) → get_or bs 0 0 ≡ t → length bs ≡ suc k → p ≡ part 1 k bs →
    t ∷ p ≡ bs
whole_by_part bs t k p first long is =
    let rest : p ≡ drop 1 bs = is ∙ take_all k (drop 1 bs) (simp length-drop (omega arith)) in
    (λ i. sym first i ∷ rest i) ∙ sym (drop_more bs 0 0 (omega arith))

pub events_one_spelling : EventsOneSpelling
unfolding is_event
events_one_spelling bs u =
    event_cases bs (λ e. is_event e ≡ true → event_bytes e ≡ bs)
    (λ _ no. absurd (false≢true no))
    (λ _ _ no. absurd (false≢true no))
    (λ _ _ _ _ no. absurd (false≢true no))
    (λ _ _ _ no. absurd (false≢true no))
    (λ first long _.
    let fields = length_part 1 64 bs (omega arith) in
    whole_by_part bs 0 64 _ first long (vote-spelled _ (under-part 1 64 bs u) fields))
    (λ first long _.
    let fields = length_part 1 48 bs (omega arith) in
    whole_by_part bs 1 48 _ first long (proposal_spelled _ (under-part 1 48 bs u) fields))
    (λ first long _. whole_by_part bs 2 32 _ first long (field_bytes 1 32 bs u (omega arith)))
    (λ first long _. whole_by_part bs 3 0 [] first long refl)

-- what was written is read back
pub written_back : (e e' : Event) (was now : List ℕ) (n : ℕ) → e ≡ e' → is_event e' ≡ true → readable e' ≡ true →
    Front was n (event_bytes e') now → event_in (take n now) ≡ e
written_back e e' was now n same is fits front =
    let bytes : take n now ≡ event_bytes e' =
    ap (take n) front.is ∙ take_at (event_bytes e') (drop n was) n front.long in
    ap event_in bytes ∙ events_read_back e' is fits ∙ sym same
