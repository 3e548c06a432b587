-- What the words of a line say, and that other words say nothing.
use Rattle.std.proofs.Common.{◌≡◌, ℕ, true, List, [], ◌∷◌, arith, get_or, ap, Option, Some, None, MatchOption}
use Rattle.std.proofs.Common.{◌<◌, ◌^◌, ◌+◌, ◌%◌, ◌⊎◌, ⊎_elim, inl, inr, codes, sym, ◌∙◌, length, length-append}
use Rattle.std.specs.Borrow.{Bor}
use Rattle.std.specs.Prelude.{◌≢◌}
use Rattle.std.specs.Option.{ok_or, unwrap_or}
use Rattle.text.specs.Words.{words}
use Rattle.text.specs.Decimals.{spelled}
use Rattle.text.proofs.Spelled.{by_steps}
use Rattle.lines.proofs.Spaces.{one_word, only_word}
use Rattle.lines.proofs.Reading.{after_word}
use Rattle.std.proofs.lemmas.Bool.{false≢true}
use Rattle.protocol.specs.Member.{Event, got_vote, got_proposal, got_block, timeout, unreadable, is_event}
use Rattle.script.specs.Reads.{delivery_words, first_word, ReadsFaulty}
use Rattle.script.specs.declared.reads.FaultyError.TheVariants.{NotNumber}

-- one word delivers nothing
pub one_word_none : (i : ℕ) (e : Event) {w : List ℕ} {ws : List (List ℕ)} → is_event e ≡ true → ws ≡ w ∷ [] →
    ws ≡ delivery_words i e → ⊥
unfolding is_event
one_word_none i (got_vote v) is p q = let z : ◌≡◌ {A = ℕ} 0 1 = cc in omega arith
one_word_none i (got_proposal o) is p q = let z : ◌≡◌ {A = ℕ} 0 1 = cc in omega arith
one_word_none i (got_block x) is p q = let z : ◌≡◌ {A = ℕ} 0 1 = cc in omega arith
one_word_none i timeout is p q = let z : ◌≡◌ {A = ℕ} 0 1 = cc in omega arith
one_word_none i (unreadable n) is p q = absurd (false≢true is)

-- A LINE `faulty I`: the first word and what follows it, which is nothing where no space does

abbrev pub Cut : List ℕ → List ℕ × List ℕ → Type 0
Cut line x = (words line ≡ x.0 ∷ words x.1) ⊎ ((words line ≡ x.0 ∷ []) × (x.1 ≡ []))

pub cut_or_whole : (line : List ℕ) (r : Option (Bor (List ℕ) × Bor (List ℕ))) (whole : Bor (List ℕ) × Bor (List ℕ)) →
    whole.0.now ≡ line → whole.1.now ≡ [] →
    MatchOption r (words line ≡ line ∷ []) (λ x. words line ≡ x.0.now ∷ words x.1.now) →
    Cut line ((unwrap_or r whole).0.now, (unwrap_or r whole).1.now)
cut_or_whole line (Some x) whole name rest is = inl is
cut_or_whole line None whole name rest is = inr (is ∙ ap (λ w. w ∷ []) (sym name), rest)

pub first_is : (line : List ℕ) (x : List ℕ × List ℕ) → Cut line x → first_word line ≡ x.0
first_is line x =
    ⊎_elim (λ h. ap (λ (ws : List (List ℕ)). get_or ws 0 []) h) (λ h. ap (λ (ws : List (List ℕ)). get_or ws 0 []) h.0)

some_digit : (n : ℕ) → spelled n ≡ [] → ⊥
some_digit = by_steps (λ n ds. ds ≡ [] → ⊥) (λ n small e. omega (arith, ap length e))
    (λ n ds big h e. omega (arith, ap length e, length-append ds ((48 + n % 10) ∷ [])))

-- what the words say once the first is `faulty`, by what the rest is read as
pub faulty_read : (line : List ℕ) (x : List ℕ × List ℕ) (r : Option ℕ) → Cut line x → x.0 ≡ codes "faulty" →
    MatchOption r ((n : ℕ) → n < 2 ^ 64 → x.1 ≢ spelled n) (λ n. x.1 ≡ spelled n) →
    ReadsFaulty line (ok_or r NotNumber)
faulty_read line x (Some n) (inl at) name is = let alone = one_word n in cc
faulty_read line x (Some n) (inr alone) name is = absurd (some_digit n (sym is ∙ alone.1))
faulty_read line x None at name none = (
  first_is line x at ∙ name,
  λ i small q. ⊎_elim (λ h. none i small (only_word x.1 (spelled i) (after_word h q)))
      (λ h. let z : ◌≡◌ {A = ℕ} 0 1 = cc in omega arith) at,
)
