use Rattle.std.proofs.Common.{◌≡◌, [], map, length, rules, ap, ◌∙◌, sym, arith}
use Rattle.std.specs.List.{flat_map}
use Rattle.std.proofs.lemmas.List.Folds.{flat_map-map}
use Rattle.values.specs.Digits.{le_bytes, le_number}
use Rattle.values.proofs.Digits.{number_digits}
use Rattle.values.proofs.Limbs.{value_bytes, value_below}
use Rattle.values.proofs.Words.{word_bytes, mapped}
use Rattle.values.proofs.value.Value.to_le_bytes.Goals as goal

pub returns : goal.returns
returns c =
    let v = c.args.self in
    let items = c.map-words.ensures.items in
    let limbs : c.limbs.result ≡ v.limbs = c.limbs.ensures.is in
    let four : length c.limbs.result ≡ 4 = ap length limbs ∙ v.four in
    let words : c.map-words.result ≡ map (le_bytes 8) c.limbs.result =
    mapped (le_bytes 8) _ _ 4 0 [] four items.long (λ i low. (items.at i 0 [] low).2.met ∙ sym (word_bytes _)) in
    let flat : c.unwrap.result ≡ flat_map (λ word. word) c.map-words.result = search rules in
    let is = flat ∙ ap (flat_map (λ word. word)) words ∙ flat_map-map (λ word. word) (le_bytes 8) _
    ∙ ap (flat_map (le_bytes 8)) limbs ∙ sym (value_bytes v.limbs v.four v.fit) in
    record {
      is = is;
      back = ap le_number is ∙ number_digits 256 32 _ (omega arith) (value_below v.limbs v.four v.fit);
    }
