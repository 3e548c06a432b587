-- The text of a play that is printed, and what is promised of it. Assumes nothing: definitions and statements.
use Rattle.std.specs.Prelude.{◌≡◌, ℕ, ◌^◌, ◌<◌, true, List, ◌∷◌, ◌++◌, Some, Ok, Err, codes, Option, MatchOption}
use Rattle.std.specs.Prelude.{Result}
use Rattle.text.specs.Words.{pieces}
use Rattle.protocol.specs.Member.{Event, is_event}
use Rattle.protocol.specs.Programs.{readable}
use Rattle.wire.specs.Meaning.{event_of, answer_of}
use Rattle.wire.specs.declared.events.Event as wire
use Rattle.wire.specs.declared.answers.Answer.{Answer}
use Rattle.network.specs.declared.errors.DeliverError.{DeliverError}
use Rattle.network.specs.Errors.{deliver_error_text}
use Rattle.lines.specs.Between.{spaced}
use Rattle.text.specs.Decimals.{spelled}
use Rattle.lines.specs.Answers.{answer_line, agreed_text}
use Rattle.script.specs.Reads.{delivery_words, ReadsDelivery}

-- the parts of the answer in one line, or why there is none
abbrev pub outcome_text : Result Answer DeliverError → List ℕ
outcome_text (Ok a) = answer_line (answer_of a)
outcome_text (Err e) = deliver_error_text e

-- the text of its line
abbrev pub delivery_text : ℕ → Event → List ℕ
delivery_text i e = spaced (delivery_words i e)

-- `I EVENT: ` and what came of it
abbrev pub played_text : ℕ → Event → Result Answer DeliverError → List ℕ
played_text i e o = delivery_text i e ++ (codes ": " ++ outcome_text o)

-- `member I: period P, step S, ` and what it agreed on, none or one
abbrev pub member_text : ℕ → ℕ → ℕ → List ℕ → List ℕ
member_text i p s xs =
    codes "member " ++ (spelled i ++ (codes ": period " ++ (spelled p ++ (codes ", step " ++ (spelled s
    ++ (codes ", " ++ agreed_text xs))))))

-- What is printed is read back: every delivery whose numbers fit.
abbrev pub DeliveriesReadBack : Type 0
DeliveriesReadBack =
    (i : ℕ) (e : Event) (r : Option (ℕ × wire.Event)) → i < 2 ^ 64 → is_event e ≡ true → readable e ≡ true →
    ReadsDelivery (delivery_text i e) r → MatchOption r ⊥ (λ x. (x.0 ≡ i) × (event_of x.1 ≡ e))

-- There is one spelling: a line that says a delivery is what printing it gives.
abbrev pub DeliveriesOneSpelling : Type 0
DeliveriesOneSpelling =
    (line : List ℕ) (x : ℕ × wire.Event) → ReadsDelivery line (Some x) → line ≡ delivery_text x.0 (event_of x.1)

-- Cut at its first colon, what is printed of a delivery gives its line, and what came of it after a space.
abbrev pub PlayedHasDelivery : Type 0
PlayedHasDelivery =
    (i : ℕ) (e : Event) (o : Result Answer DeliverError) → is_event e ≡ true →
    pieces 58 (played_text i e o) ≡ delivery_text i e ∷ pieces 58 (codes " " ++ outcome_text o)
