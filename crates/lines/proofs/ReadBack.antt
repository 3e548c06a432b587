-- What is printed of an event is read back, in one spelling; a printed answer is cut at line feeds into its parts.
use Rattle.std.proofs.Common.{◌≡◌, ℕ, true, cond, eqb, List, [], ◌∷◌, ◌++◌, map, get_or, Some, None, codes, sym, refl}
use Rattle.std.proofs.Common.{ap, ◌∙◌, append_assoc, append-nil}
use Rattle.std.specs.Str.Parse.{digits_value}
use Rattle.std.proofs.lemmas.Bool.{false≢true}
use Rattle.text.specs.Words.{free_of, pieces, words}
use Rattle.protocol.specs.Vote.{Vote}
use Rattle.protocol.specs.Member.{Event, got_vote, got_proposal, got_block, timeout, unreadable, is_event}
use Rattle.protocol.specs.Member.{refused, says}
use Rattle.wire.specs.Meaning.{event_of}
use Rattle.lines.specs.Between.{between, spaced}
use Rattle.text.specs.Decimals.{spelled}
use Rattle.lines.specs.Events.{event_words, event_text}
use Rattle.lines.specs.Answers.{vote_text, agreed_text, refused_text}
use Rattle.lines.specs.Reads.{EventsReadBack, EventsOneSpelling, AnswersByLines}
use Rattle.text.proofs.Spelled.{value-spelled}
use Rattle.wire.proofs.Meaning.{real_event}
use Rattle.lines.proofs.Spaces.{plain, plain_spelled, no_space, no_feed, spaced-words}
use Rattle.lines.proofs.Spaces.{AllFree, pieces-between, free-between}

-- THE WORDS OF AN EVENT

-- the number that the word at place i spells
abbrev field : List (List ℕ) → ℕ → ℕ
field ws i = digits_value 10 (get_or ws i [])

-- the event of which these are the words, by the first letter of the first
abbrev from-words : List (List ℕ) → Event
from-words ws =
    let letter : ℕ = get_or (get_or ws 0 []) 0 0 in
    cond (eqb letter 118)
    (got_vote (record {
      kind = field ws 1;
      period = field ws 2;
      step = field ws 3;
      value = field ws 4;
      from = field ws 5;
    }))
    (cond (eqb letter 111) (got_proposal (record { period = field ws 1; rank = field ws 2; value = field ws 3 }))
    (cond (eqb letter 98) (got_block (field ws 1)) timeout))

event-from-words : (e : Event) → is_event e ≡ true → from-words (event_words e) ≡ e
unfolding is_event
event-from-words (got_vote v) is =
    λ i. got_vote (record {
      kind = value-spelled v.kind i;
      period = value-spelled v.period i;
      step = value-spelled v.step i;
      value = value-spelled v.value i;
      from = value-spelled v.from i;
    })
event-from-words (got_proposal o) is =
    λ i. got_proposal (record {
      period = value-spelled o.period i;
      rank = value-spelled o.rank i;
      value = value-spelled o.value i;
    })
event-from-words (got_block x) is = ap got_block (value-spelled x)
event-from-words timeout is = refl
event-from-words (unreadable n) is = absurd (false≢true is)

same_event : (e e' : Event) → is_event e ≡ true → is_event e' ≡ true → event_words e ≡ event_words e' → e ≡ e'
same_event e e' is is' same = sym (event-from-words e is) ∙ ap from-words same ∙ event-from-words e' is'

-- THE LINE OF AN EVENT

-- a separator that is no digit and no letter stands in no word of an event
module _ (sep : ℕ) (free : (w : List ℕ) → plain w ≡ true → free_of sep w ≡ true) where
  pub free_number : (n : ℕ) → free_of sep (spelled n) ≡ true
  free_number n = free (spelled n) (plain_spelled n)

  pub free-words : (e : Event) → AllFree sep (event_words e)
  free-words (got_vote v) = (
    free (codes "vote") refl,
    (
      free_number v.kind,
      (
        free_number v.period,
        (
          free_number v.step,
          (free_number v.value, (free_number v.from, tt)),
        ),
      ),
    ),
  )
  free-words (got_proposal o) =
      (free (codes "offer") refl, (free_number o.period, (free_number o.rank, (free_number o.value, tt))))
  free-words (got_block x) = (free (codes "block") refl, (free_number x, tt))
  free-words timeout = (free (codes "time") refl, tt)
  free-words (unreadable n) = tt

-- the line of an event is cut into the event's words
pub words_back : (e : Event) → is_event e ≡ true → words (event_text e) ≡ event_words e
unfolding is_event
words_back (got_vote v) is = pieces-between 32 _ _ (free-words 32 no_space (got_vote v))
words_back (got_proposal o) is = pieces-between 32 _ _ (free-words 32 no_space (got_proposal o))
words_back (got_block x) is = pieces-between 32 _ _ (free-words 32 no_space (got_block x))
words_back timeout is = pieces-between 32 _ _ (free-words 32 no_space timeout)
words_back (unreadable n) is = absurd (false≢true is)

pub events_read_back : EventsReadBack
events_read_back e (Some e') is fits h = same_event (event_of e') e (real_event e') is (sym h ∙ words_back e is)
events_read_back e None is fits h = h e fits (words_back e is)

pub events_one_spelling : EventsOneSpelling
events_one_spelling line e h = sym (spaced-words line) ∙ ap spaced h

-- THE LINES OF AN ANSWER

-- no line feed in words with spaces between them
one_line : (ws : List (List ℕ)) → AllFree 10 ws → free_of 10 (spaced ws) ≡ true
one_line ws h = free-between 10 (32 ∷ []) ws refl h

said_lines : (vs : List Vote) (xs : List ℕ) → AllFree 10 (map vote_text vs ++ (agreed_text xs ∷ []))
said_lines [] [] = (one_line _ (refl, (refl, tt)), tt)
said_lines [] (x ∷ xs) = (one_line _ (refl, (free_number 10 no_feed x, tt)), tt)
said_lines (v ∷ vs) xs = (one_line _ (free-words 10 no_feed (got_vote v)), said_lines vs xs)

-- a separator at the end is one before an empty text
ended : (sep w : List ℕ) (ws : List (List ℕ)) → between sep (w ∷ ws) ++ sep ≡ between sep (w ∷ (ws ++ ([] ∷ [])))
unfolding between
ended sep w [] = simp append-nil
ended sep w (v ∷ vs) =
    append_assoc w (sep ++ between sep (v ∷ vs)) sep
    ∙ ap (λ (x : List ℕ). w ++ x)
    (append_assoc sep (between sep (v ∷ vs)) sep ∙ ap (λ (x : List ℕ). sep ++ x) (ended sep v vs))

free_ended : (ws : List (List ℕ)) → AllFree 10 ws → AllFree 10 (ws ++ ([] ∷ []))
free_ended [] h = (refl, tt)
free_ended (w ∷ ws) h = (h.0, free_ended ws h.1)

by_lines : (w : List ℕ) (ws : List (List ℕ)) → AllFree 10 (w ∷ ws) →
    pieces 10 (between (10 ∷ []) (w ∷ ws) ++ (10 ∷ [])) ≡ w ∷ (ws ++ ([] ∷ []))
by_lines w ws h = ap (pieces 10) (ended (10 ∷ []) w ws) ∙ pieces-between 10 w (ws ++ ([] ∷ [])) (free_ended (w ∷ ws) h)

pub answers_by_lines : AnswersByLines
answers_by_lines (refused r n) =
    let free : AllFree 10 (codes "refused" ∷ (spelled r ∷ (spelled n ∷ []))) =
    (refl, (free_number 10 no_feed r, (free_number 10 no_feed n, tt))) in
    by_lines (refused_text r n) [] (one_line _ free, tt)
answers_by_lines (says [] xs) = by_lines (agreed_text xs) [] (said_lines [] xs)
answers_by_lines (says (v ∷ vs) xs) =
    by_lines (vote_text v) (map vote_text vs ++ (agreed_text xs ∷ [])) (said_lines (v ∷ vs) xs)
