use Rattle.std.proofs.Common.{◌≡◌, ℕ, ◌<◌, [], length, map, get_or, ap, ◌∙◌, rules, Fits, w8}
use Rattle.std.specs.Simd.{first_chunks}
use Rattle.values.specs.Digits.{number_of, le_number}
use Rattle.values.specs.Values.{value_of}
use Rattle.values.proofs.Places.{bytes_back}
use Rattle.values.proofs.Words.{by_places, word_number, words_number, length_words, word_long, mapped}
use Rattle.values.proofs.value.Value.from_le_bytes.Goals as goal

pub returns : goal.returns
returns c =
    let bs = c.args.bytes in
    let low : (i : ℕ) → Fits w8 (get_or bs i 0) = λ i. search rules in
    let limbs = c.from_fn.result in
    let items = c.from_fn.ensures.items in
    let long : length bs ≡ 32 = search rules in
    let chunks = first_chunks 8 4 bs in
    let words : c.as_chunks.result.0.now ≡ chunks = search rules in
    let at : (i : ℕ) → i < 4 → get_or limbs i 0 ≡ by_places (get_or c.as_chunks.result.0.now i []) =
    λ i p. let h = (items.at i 0 p).2.met in search rules in
    let number = λ (i : ℕ) (p : i < 4).
    word_number _ _ _ (at i p) (ap (λ ws. get_or ws i []) words) (word_long 4 i bs long p) in
    let each : limbs ≡ map le_number chunks =
    mapped le_number chunks limbs 4 [] 0 (length_words 4 bs) items.long number in
    let is : value_of c.from.result ≡ le_number bs = ap number_of (c.from.ensures ∙ each) ∙ words_number 4 bs long in
    record { is = is; back = bytes_back bs 32 _ long is low }
