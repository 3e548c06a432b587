-- Answers have one spelling, and what is read can be said. Assumes nothing.
use Rattle.std.proofs.Common.{◌≡◌, ℕ, zero, suc, ◌+◌, ◌*◌, ◌<◌, ◌≤◌, true, eqb, leb, List, [], ◌∷◌, ◌++◌, length}
use Rattle.std.proofs.Common.{get_or, take, IfOk, Ok, Err, Result, sym, refl, ap, ◌∙◌, subst, append_assoc, append-nil}
use Rattle.std.proofs.Common.{arith}
use Rattle.std.specs.List.{flat_map}
use Rattle.std.proofs.lemmas.List.{take_all, take_more}
use Rattle.std.proofs.lemmas.Bool.{and_from, cond_both, eqb-true, leb-false, lt-ltb}
use Rattle.values.specs.Digits.{under, le_number, le_bytes}
use Rattle.protocol.specs.Vote.{Vote}
use Rattle.protocol.specs.Member.{Answer, refused, says}
use Rattle.wire.specs.Bytes.{vote_bytes, part, said_bytes, answer_bytes, votes_in, refused_by, agreed_by, says_by}
use Rattle.wire.specs.Bytes.{answer_by, answer_in}
use Rattle.wire.specs.Statements.{votes_fit, agreed_fits, sayable, AnswersOneSpelling}
use Rattle.wire.proofs.Sized.{sized_cases}
use Rattle.wire.proofs.Fields.{under-part, part_below, vote_fits}
use Rattle.wire.proofs.FieldsBack.{field_bytes, length_part, read_more, vote-spelled}

pub length-votes_in : (k i : ℕ) (bs : List ℕ) → length (votes_in i k bs) ≡ k
unfolding votes_in
length-votes_in zero i bs = refl
length-votes_in (suc k) i bs = ap suc (length-votes_in k (i + 64) bs)

pub votes_in_fit : (k i : ℕ) (bs : List ℕ) → under 256 bs ≡ true → votes_fit (votes_in i k bs) ≡ true
unfolding votes_in votes_fit
votes_in_fit zero i bs u = refl
votes_in_fit (suc k) i bs u =
    and_from _ _ (vote_fits (part i 64 bs) (under-part i 64 bs u)) (votes_in_fit k (i + 64) bs u)

-- the votes read at i are spelled by the bytes there
module _ (bs : List ℕ) (u : under 256 bs ≡ true) where
  votes-spelled : (k i : ℕ) (q : List ℕ) → i + 64 * k ≤ length bs → take i bs ≡ q →
      take (i + 64 * k) bs ≡ q ++ flat_map vote_bytes (votes_in i k bs)
  unfolding votes_in
  votes-spelled zero i q long is =
      let same : i + 64 * 0 ≡ i = omega arith in
      ap (λ n. take n bs) same ∙ is ∙ sym (append-nil q)
  votes-spelled (suc k) i q long is =
      let vote = vote-spelled (part i 64 bs) (under-part i 64 bs u) (length_part i 64 bs (omega arith)) in
      let here = read_more bs i q is 64 _ vote in
      let place : i + 64 * suc k ≡ i + 64 + 64 * k = omega arith in
      ap (λ n. take n bs) place
      ∙ votes-spelled k (i + 64) _ (omega arith) here
      ∙ append_assoc q _ _

  -- one byte more
  byte_more : (i t : ℕ) (q : List ℕ) → i < length bs → get_or bs i 0 ≡ t → take i bs ≡ q → take (i + 1) bs ≡ q
      ++ (t ∷ [])
  byte_more i t q some is before = take_more bs i 0 some ∙ (λ k. before k ++ (is k ∷ []))

  -- if an answer was read, it is spelled so, and can be said
  abbrev Spelled : Result Answer ℕ → Type 0
  Spelled r = (a : Answer) → r ≡ Ok a → (answer_bytes a ≡ bs) × (sayable a ≡ true)

  not_read : (n : ℕ) → Spelled (Err n)
  not_read n a is = let z : ◌≡◌ {A = ℕ} 0 1 = cc in absurd (omega arith)

  was_read : (b : Answer) → answer_bytes b ≡ bs → sayable b ≡ true → Spelled (Ok b)
  was_read b bytes fit a is =
      let same : b ≡ a = cc in
      let P : Answer → Type 0 = λ x. (answer_bytes x ≡ bs) × (sayable x ≡ true) in
      subst P same (bytes, fit)

  -- the first byte and the number after it
  number_spelled : (t : ℕ) → get_or bs 0 0 ≡ t → 8 < length bs →
      take 9 bs ≡ (t ∷ []) ++ le_bytes 8 (le_number (part 1 8 bs))
  number_spelled t first long =
      read_more bs 1 (t ∷ []) (byte_more 0 t [] (omega arith) first refl) 8 _ (field_bytes 1 8 bs u (omega arith))

  refused-spelled : get_or bs 0 0 ≡ 0 → 8 < length bs → Spelled (refused_by (le_number (part 1 8 bs)) bs)
  unfolding sayable
  refused-spelled first some =
      cond_both _ _ _ Spelled
      (λ known. sized_cases Spelled Err 17 bs _ (λ _. not_read _) (λ _. not_read _)
      (λ long.
      let all = read_more bs 9 _ (number_spelled 0 first some) 8 _ (field_bytes 9 8 bs u (omega arith)) in
      was_read (refused (le_number (part 1 8 bs)) (le_number (part 9 8 bs)))
      (sym all ∙ take_all 17 bs (omega arith))
      (and_from _ _ known (lt-ltb _ _ (part_below 9 8 bs u)))))
      (λ _. not_read 1)

  -- n votes at 9, and what is agreed on after them
  module _ (n : ℕ) (few : leb n 2 ≡ true) (before : take 9 bs ≡ (1 ∷ []) ++ le_bytes 8 n)
      (some : 9 + 64 * n < length bs) where
    abbrev votes : List Vote
    votes = votes_in 9 n bs

    abbrev end : ℕ
    end = 9 + 64 * n

    said-spelled : take end bs ≡ 1 ∷ said_bytes votes
    said-spelled =
        votes-spelled n 9 _ (omega arith) before
        ∙ ap (λ k. 1 ∷ (le_bytes 8 k ++ flat_map vote_bytes votes)) (sym (length-votes_in n 9 bs))

    said_fits : (xs : List ℕ) → agreed_fits xs ≡ true → sayable (says votes xs) ≡ true
    unfolding sayable
    said_fits xs fit =
        and_from _ _ (ap (λ k. leb k 2) (length-votes_in n 9 bs) ∙ few) (and_from _ _ (votes_in_fit n 9 bs u) fit)

    agreed-spelled : Spelled (agreed_by (get_or bs end 0) end votes bs)
    unfolding agreed_fits
    agreed-spelled =
        cond_both _ _ _ Spelled
        (λ flag. sized_cases Spelled Err (end + 1) bs _ (λ _. not_read _) (λ _. not_read _)
        (λ long.
        was_read (says votes [])
        (sym (byte_more end 0 _ some (eqb-true _ _ flag) said-spelled) ∙ take_all (end + 1) bs (omega arith))
        (said_fits [] refl)))
        (λ _. cond_both _ _ _ Spelled
        (λ flag. sized_cases Spelled Err (end + 33) bs _ (λ _. not_read _) (λ _. not_read _)
        (λ long.
        let x = le_number (part (end + 1) 32 bs) in
        let mark = byte_more end 1 _ some (eqb-true _ _ flag) said-spelled in
        let all = read_more bs (end + 1) _ mark 32 _ (field_bytes (end + 1) 32 bs u (omega arith)) in
        let nested = append_assoc (1 ∷ said_bytes votes) (1 ∷ []) (le_bytes 32 x) in
        was_read (says votes (x ∷ []))
        (sym nested ∙ sym all ∙ take_all (end + 1 + 32) bs (omega arith))
        (said_fits (x ∷ []) (lt-ltb _ _ (part_below (end + 1) 32 bs u)))))
        (λ _. not_read _))

  says-spelled : get_or bs 0 0 ≡ 1 → 8 < length bs → Spelled (says_by (le_number (part 1 8 bs)) bs)
  says-spelled first some =
      cond_both _ _ _ Spelled
      (λ few. cond_both _ _ _ Spelled (λ _. not_read _)
      (λ on. agreed-spelled _ few (number_spelled 1 first some) (leb-false _ _ on)))
      (λ _. not_read 1)

  answer-spelled : Spelled (answer_by (get_or bs 0 0) bs)
  answer-spelled =
      cond_both _ _ _ Spelled
      (λ zero. cond_both _ _ _ Spelled (λ _. not_read _)
      (λ long. refused-spelled (eqb-true _ _ zero) (leb-false _ _ long)))
      (λ _. cond_both _ _ _ Spelled
      (λ one. cond_both _ _ _ Spelled (λ _. not_read _)
      (λ long. says-spelled (eqb-true _ _ one) (leb-false _ _ long)))
      (λ _. not_read 0))

pub answers_one_spelling : AnswersOneSpelling
unfolding answer_in
answers_one_spelling bs a u =
    cond_both (eqb (length bs) 0) (Err 0) (answer_by (get_or bs 0 0) bs) (Spelled bs u)
    (λ _. not_read bs u 0) (λ _. answer-spelled bs u) a

-- what is read can be said
pub answer_fits : (bs : List ℕ) (r : Result Answer ℕ) → under 256 bs ≡ true → r ≡ answer_in bs →
    IfOk r (λ a. sayable a ≡ true)
answer_fits bs (Ok a) u is = (answers_one_spelling bs a u (sym is)).1
answer_fits bs (Err n) u is = tt
