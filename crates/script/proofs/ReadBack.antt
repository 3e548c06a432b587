-- What is printed of a delivery is read back, in one spelling, and stands before the first colon of its line.
use Rattle.std.proofs.Common.{◌≡◌, ℕ, true, List, [], ◌∷◌, ◌++◌, Some, None, codes, sym, refl, ap, ◌∙◌}
use Rattle.std.specs.Str.Parse.{digits_value}
use Rattle.text.specs.Words.{free_of, words}
use Rattle.protocol.specs.Member.{Event}
use Rattle.lines.specs.Between.{spaced}
use Rattle.text.specs.Decimals.{spelled}
use Rattle.text.proofs.Spelled.{value-spelled}
use Rattle.lines.proofs.Spaces.{plain, no_space, no_colon, spaced-words}
use Rattle.lines.proofs.Spaces.{AllFree, pieces_at_first, pieces-between, free-between}
use Rattle.lines.proofs.ReadBack.{free_number, free-words, words_back, events_read_back}
use Rattle.lines.proofs.Reading.{first_word, after_word}
use Rattle.script.specs.Reads.{delivery_words}
use Rattle.script.specs.Shown.{delivery_text, outcome_text}
use Rattle.script.specs.Shown.{DeliveriesReadBack, DeliveriesOneSpelling, PlayedHasDelivery}

-- THE WORDS OF A DELIVERY

module _ (sep : ℕ) (free : (w : List ℕ) → plain w ≡ true → free_of sep w ≡ true) where
  free_delivery : (i : ℕ) (e : Event) → AllFree sep (delivery_words i e)
  free_delivery i e = (free_number sep free i, free-words sep free e)

delivery_back : (i : ℕ) (e : Event) → words (delivery_text i e) ≡ delivery_words i e
delivery_back i e = pieces-between 32 _ _ (free_delivery 32 no_space i e)

same_number : (m n : ℕ) → spelled m ≡ spelled n → m ≡ n
same_number m n e = sym (value-spelled m) ∙ ap (digits_value 10) e ∙ value-spelled n

pub deliveries_read_back : DeliveriesReadBack
deliveries_read_back i e (Some x) small is fits h =
    let same = sym (delivery_back i e) ∙ h in (
      same_number x.0 i (first_word same refl),
      events_read_back e (Some x.1) is fits (words_back e is ∙ after_word refl same),
    )
deliveries_read_back i e None small is fits h = h i e small is fits (delivery_back i e)

pub deliveries_one_spelling : DeliveriesOneSpelling
deliveries_one_spelling line x h = sym (spaced-words line) ∙ ap spaced h

-- THE COLON

pub played-has_delivery : PlayedHasDelivery
played-has_delivery i e o is =
    pieces_at_first 58 (delivery_text i e) (codes " " ++ outcome_text o)
    (free-between 58 (32 ∷ []) (delivery_words i e) refl (free_delivery 58 no_colon i e))
