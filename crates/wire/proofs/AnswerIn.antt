-- The answer in bytes, by their first, and by how many votes it says. Assumes nothing.
use Rattle.std.proofs.Common.{◌≡◌, ℕ, ◌+◌, ◌*◌, ◌<◌, true, false, eqb, leb, List, length, get_or, Ok, Err}
use Rattle.std.proofs.Common.{Result, sym, ap, ◌∙◌, arith}
use Rattle.std.proofs.lemmas.Bool.{cond-true, cond-false}
use Rattle.std.proofs.lemmas.Bool.Decides.{nat_tests}
use Rattle.values.specs.Digits.{le_number}
use Rattle.protocol.specs.Vote.{Vote}
use Rattle.protocol.specs.Member.{Answer}
use Rattle.wire.specs.Bytes.{part, votes_in, reaching, agreed_by, says_by, answer_by, answer_in}
use Rattle.wire.proofs.Sized.{reaching_past}

-- n votes, which are vs, and what is agreed on
pub says_at : (bs : List ℕ) (n : ℕ) (vs : List Vote) (r : Result Answer ℕ) (u : Unit {0}) → leb n 2 ≡ true →
    n ≡ le_number (part 1 8 bs) → ◌≡◌ {A = Result (Unit {0}) ℕ} (Ok u) (reaching Err (9 + 64 * n) bs (Ok tt)) →
    vs ≡ votes_in 9 n bs → r ≡ agreed_by (get_or bs (9 + 64 * n) 0) (9 + 64 * n) vs bs →
    r ≡ says_by (le_number (part 1 8 bs)) bs
says_at bs n vs r u few is long votes read =
    read
    ∙ ap (λ v. agreed_by (get_or bs (9 + 64 * n) 0) (9 + 64 * n) v bs) votes
    ∙ sym (reaching_past Err (9 + 64 * n) bs _ u long)
    ∙ sym (cond-true _ _ _ few)
    ∙ ap (λ k. says_by k bs) is

pub answer_at : (bs : List ℕ) (t : ℕ) → eqb (length bs) 0 ≡ false → get_or bs 0 0 ≡ t → answer_in bs ≡ answer_by t bs
unfolding answer_in
answer_at bs t some first = cond-false _ _ _ some ∙ ap (λ n. answer_by n bs) first

-- another first byte
pub answer-rest : (bs : List ℕ) (t : ℕ) → 1 < t → answer_by t bs ≡ Err 0
answer-rest bs t more = grind (arith, nat_tests)
