-- Answers are read back. Assumes nothing.
use Rattle.std.proofs.Common.{◌≡◌, ℕ, suc, ◌+◌, ◌*◌, ◌<◌, true, false, ◌&&◌, eqb, ltb, leb, List, [], ◌∷◌, ◌++◌, length}
use Rattle.std.proofs.Common.{get_or, take, drop, IfOk, Some, None, Ok, Err, Option, Result, sym, refl, ap, ◌∙◌}
use Rattle.std.proofs.Common.{append_assoc, append-nil, add-zero, arith, length-append, length-drop}
use Rattle.std.specs.List.{flat_map}
use Rattle.std.proofs.lemmas.List.{get_or-drop, drop-drop, take_at}
use Rattle.std.proofs.lemmas.Bool.{and_parts, and_from, lt-ltb, ltb-true, leb-true, ne_eqb, cond-true, false≢true}
use Rattle.values.specs.declared.value.Value.{Value}
use Rattle.values.specs.Digits.{le_bytes}
use Rattle.values.proofs.Digits.{length_digits}
use Rattle.protocol.specs.Vote.{Vote, word_bound}
use Rattle.protocol.specs.Member.{Answer, refused, says, got_vote}
use Rattle.protocol.specs.Programs.{readable}
use Rattle.wire.specs.declared.answers.Refusal.{Refusal}
use Rattle.wire.specs.declared.answers.Refusal.TheVariants.{NoEvent, OutOfRange, AgreedBefore, VotedBefore, NoMoreTime}
use Rattle.wire.specs.declared.answers.Refusal.TheVariants.{NoMoreBlocks}
use Rattle.wire.specs.declared.answers.Said.{Said}
use Rattle.wire.specs.declared.answers.Said.TheVariants.{Nothing, One, Two}
use Rattle.wire.specs.Meaning.{refusal_number, said_of, agreed_of}
use Rattle.wire.specs.Bytes.{Written, vote_bytes, vote_in, part, said_bytes, agreed_bytes, answer_bytes, votes_in}
use Rattle.wire.specs.Bytes.{refused_by, agreed_by, says_by, answer_in}
use Rattle.wire.specs.Statements.{votes_fit, agreed_fits, sayable, AnswersReadBack}
use Rattle.wire.proofs.AnswerIn.{answer_at}
use Rattle.wire.proofs.Sized.{sized-is, reaching-is}
use Rattle.wire.proofs.Fields.{length-vote, length-said, value_fits}
use Rattle.wire.proofs.FieldsBack.{piece, field, vote_back}

some_bytes : (bs : List ℕ) → 0 < length bs → eqb (length bs) 0 ≡ false
some_bytes bs some = ne_eqb (length bs) 0 (λ z. omega arith)

pub votes_back : (bs : List ℕ) (vs : List Vote) (i : ℕ) (r : List ℕ) → votes_fit vs ≡ true →
    drop i bs ≡ flat_map vote_bytes vs ++ r →
    (votes_in i (length vs) bs ≡ vs) × (drop (i + 64 * length vs) bs ≡ r)
unfolding votes_fit votes_in
votes_back bs [] i r fit is = let same : i + 64 * 0 ≡ i = omega arith in (refl, ap (λ n. drop n bs) same ∙ is)
votes_back bs (v ∷ vs) i r fit is =
    let fits = and_parts _ _ fit in
    let here = piece bs (vote_bytes v) (flat_map vote_bytes vs ++ r) i 64 (length-vote v)
    (is ∙ append_assoc (vote_bytes v) _ r) in
    let rest = votes_back bs vs (i + 64) r fits.1 here.1 in
    let vote : vote_in (part i 64 bs) ≡ v = ap vote_in here.0 ∙ vote_back v fits.0 in
    let place : i + 64 * suc (length vs) ≡ i + 64 + 64 * length vs = omega arith in
    (λ k. vote k ∷ rest.0 k, ap (λ n. drop n bs) place ∙ rest.1)

-- what stands at i, and how many bytes there are
at_drop : (bs A : List ℕ) (i : ℕ) → drop i bs ≡ A → 0 < length A →
    (get_or bs i 0 ≡ get_or A 0 0) × (length bs ≡ i + length A)
at_drop bs A i is some = (
  sym (get_or-drop i bs 0 0 ∙ ap (λ n. get_or bs n 0) (add-zero i)) ∙ ap (λ l. get_or l 0 0) is,
  omega (arith, length-drop i bs, ap length is),
)

agreed_back : (bs : List ℕ) (i : ℕ) (vs : List Vote) (xs : List ℕ) → agreed_fits xs ≡ true →
    drop i bs ≡ agreed_bytes xs →
    agreed_by (get_or bs i 0) i vs bs ≡ Ok (says vs xs)
unfolding agreed_fits
agreed_back bs i vs [] fit is =
    let at = at_drop bs (0 ∷ []) i is (omega arith) in
    ap (λ t. agreed_by t i vs bs) at.0 ∙ sized-is Err (i + 1) bs _ at.1
agreed_back bs i vs (x ∷ []) fit is =
    let long = length_digits 256 32 x in
    let at = at_drop bs (1 ∷ le_bytes 32 x) i is (omega arith) in
    let after : drop (i + 1) bs ≡ le_bytes 32 x ++ [] = sym (drop-drop 1 i bs) ∙ ap (drop 1) is ∙ sym (append-nil _) in
    let value = field bs [] (i + 1) 32 x (ltb-true _ _ fit) after in
    ap (λ t. agreed_by t i vs bs) at.0
    ∙ sized-is Err (i + 33) bs _ (omega (arith, at.1))
    ∙ ap (λ y. Ok (says vs (y ∷ []))) value.0
agreed_back bs i vs (x ∷ y ∷ xs) fit is = absurd (false≢true fit)

some_agreed : (xs : List ℕ) → 0 < length (agreed_bytes xs)
some_agreed [] = omega arith
some_agreed (x ∷ xs) = omega arith

pub answers_read_back : AnswersReadBack
unfolding sayable
answers_read_back (refused r n) fit =
    let fits = and_parts (leb 1 r && leb r 6) (ltb n word_bound) fit in
    let small = leb-true r 6 (and_parts (leb 1 r) (leb r 6) fits.0).1 in
    let bs = answer_bytes (refused r n) in
    let long : length bs ≡ 17 = ap suc (simp (length-append, length_digits)) in
    let why = field bs (le_bytes 8 n) 1 8 r (omega arith) refl in
    let place = field bs [] 9 8 n (ltb-true _ _ fits.1) (why.1 ∙ sym (append-nil _)) in
    answer_at bs 0 (some_bytes bs (omega arith)) refl
    ∙ reaching-is Err 8 bs _ (omega arith)
    ∙ ap (λ k. refused_by k bs) why.0
    ∙ cond-true _ _ _ fits.0
    ∙ sized-is Err 17 bs _ long
    ∙ ap (λ k. Ok (refused r k)) place.0
answers_read_back (says vs xs) fit =
    let fits = and_parts (leb (length vs) 2) (votes_fit vs && agreed_fits xs) fit in
    let few = leb-true (length vs) 2 fits.0 in
    let rest = and_parts (votes_fit vs) (agreed_fits xs) fits.1 in
    let n = length vs in
    let i = 9 + 64 * n in
    let bs = answer_bytes (says vs xs) in
    let A = agreed_bytes xs in
    let nested : drop 1 bs ≡ le_bytes 8 n ++ (flat_map vote_bytes vs ++ A) =
    append_assoc (le_bytes 8 n) (flat_map vote_bytes vs) A in
    let count = field bs _ 1 8 n (omega arith) nested in
    let votes = votes_back bs vs 9 A rest.0 count.1 in
    let some = some_agreed xs in
    let long : length bs ≡ suc (8 + 64 * n + length A) =
    ap suc (length-append (said_bytes vs) A ∙ ap (λ k. k + length A) (length-said vs)) in
    answer_at bs 1 (some_bytes bs (omega arith)) refl
    ∙ reaching-is Err 8 bs _ (omega arith)
    ∙ ap (λ k. says_by k bs) count.0
    ∙ cond-true _ _ _ fits.0
    ∙ reaching-is Err i bs _ (omega arith)
    ∙ ap (λ l. agreed_by (get_or bs i 0) i l bs) votes.0
    ∙ agreed_back bs i vs xs rest.1 votes.1

-- what was written is read back
pub answer_written_back : (a : Answer) (before after : List ℕ) (r : Result ℕ ℕ) → IfOk r (λ _. sayable a ≡ true) →
    Written (answer_bytes a) before after r → IfOk r (λ n. answer_in (take n after) ≡ Ok a)
answer_written_back a before after (Ok n) fit w =
    let bytes : take n after ≡ answer_bytes a =
    ap (take n) w.2 ∙ take_at (answer_bytes a) (drop n before) n (sym w.0) in
    ap answer_in bytes ∙ answers_read_back a fit
answer_written_back a before after (Err n) fit w = tt

-- what the code holds can be said
pub held_refusal_fits : (r : Refusal) (n : ℕ) → n < word_bound → sayable (refused (refusal_number r) n) ≡ true
unfolding sayable
held_refusal_fits NoEvent n low = lt-ltb _ _ low
held_refusal_fits OutOfRange n low = lt-ltb _ _ low
held_refusal_fits AgreedBefore n low = lt-ltb _ _ low
held_refusal_fits VotedBefore n low = lt-ltb _ _ low
held_refusal_fits NoMoreTime n low = lt-ltb _ _ low
held_refusal_fits NoMoreBlocks n low = lt-ltb _ _ low

few-said : (s : Said) → leb (length (said_of s)) 2 ≡ true
few-said Nothing = refl
few-said (One v) = refl
few-said (Two v w) = refl

held-agreed_fits : (o : Option Value) → agreed_fits (agreed_of o) ≡ true
unfolding agreed_fits
held-agreed_fits None = refl
held-agreed_fits (Some x) = value_fits x

pub held_says_fits : (s : Said) (o : Option Value) → votes_fit (said_of s) ≡ true →
    sayable (says (said_of s) (agreed_of o)) ≡ true
unfolding sayable
held_says_fits s o fit = and_from _ _ (few-said s) (and_from _ _ fit (held-agreed_fits o))

pub one_fits : (s : Said) (v : Vote) → said_of s ≡ v ∷ [] → readable (got_vote v) ≡ true → votes_fit (said_of s) ≡ true
unfolding votes_fit
one_fits s v is fit = ap votes_fit is ∙ and_from _ _ fit refl

pub two_fit : (s : Said) (v w : Vote) → said_of s ≡ v ∷ w ∷ [] → readable (got_vote v) ≡ true →
    readable (got_vote w) ≡ true →
    votes_fit (said_of s) ≡ true
unfolding votes_fit
two_fit s v w is fit fit' = ap votes_fit is ∙ and_from _ _ fit (and_from _ _ fit' refl)
