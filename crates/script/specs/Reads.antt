-- Which line names a faulty member, and which delivers an event to whom. Assumes nothing: these are definitions.
use Rattle.std.specs.Prelude.{◌≡◌, ℕ, ◌^◌, ◌<◌, true, List, [], ◌∷◌, Some, None, Ok, Err, codes, Option, Result, ◌≢◌}
use Rattle.std.specs.Prelude.{slice_index_or}
use Rattle.text.specs.Words.{words}
use Rattle.protocol.specs.Member.{Event, is_event}
use Rattle.protocol.specs.Programs.{readable}
use Rattle.wire.specs.Meaning.{event_of}
use Rattle.wire.specs.declared.events.Event as wire
use Rattle.text.specs.Decimals.{spelled}
use Rattle.lines.specs.Events.{event_words}
use Rattle.script.specs.declared.reads.FaultyError.{FaultyError}
use Rattle.script.specs.declared.reads.FaultyError.TheVariants.{NotFaulty, NotNumber}

-- the first word of a line: there is always one
abbrev pub first_word : List ℕ → List ℕ
first_word line = slice_index_or (words line) 0 []

-- the words `faulty I`
abbrev pub faulty_words : ℕ → List (List ℕ)
faulty_words i = codes "faulty" ∷ (spelled i ∷ [])

-- the line says that this member is faulty; or its first word is another; or no number that fits follows that word
abbrev pub ReadsFaulty : List ℕ → Result ℕ FaultyError → Type 0
ReadsFaulty line (Ok i) = words line ≡ faulty_words i
ReadsFaulty line (Err NotFaulty) = first_word line ≡ codes "faulty" → ⊥
ReadsFaulty line (Err NotNumber) =
    (first_word line ≡ codes "faulty") × ((i : ℕ) → i < 2 ^ 64 → words line ≢ faulty_words i)

-- a number, and the words of an event
abbrev pub delivery_words : ℕ → Event → List (List ℕ)
delivery_words i e = spelled i ∷ event_words e

-- the line says that this event comes to this number; or it is no such line of a number and an event that fit
abbrev pub ReadsDelivery : List ℕ → Option (ℕ × wire.Event) → Type 0
ReadsDelivery line (Some x) = words line ≡ delivery_words x.0 (event_of x.1)
ReadsDelivery line None =
    (i : ℕ) (e : Event) → i < 2 ^ 64 → is_event e ≡ true → readable e ≡ true → words line ≢ delivery_words i e
