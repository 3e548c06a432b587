-- Fields, votes and proposals: what is written is read back, and what is read was written so. Assumes nothing.
use Rattle.std.proofs.Common.{◌≡◌, ℕ, ◌+◌, ◌^◌, ◌<◌, ◌≤◌, true, List, [], ◌++◌, length, take, drop, sym, refl, ap, ◌∙◌}
use Rattle.std.proofs.Common.{append_assoc, append-nil, arith, length-drop, length-take}
use Rattle.std.proofs.lemmas.List.{take_at, drop_at, drop-drop, take_all, take-append-drop, take-take, drop-take}
use Rattle.std.proofs.lemmas.Bool.{and_parts, ltb-true}
use Rattle.values.specs.Digits.{digits, under, le_number, le_bytes}
use Rattle.values.proofs.Digits.{length_digits, number_digits, digits_number}
use Rattle.protocol.specs.Vote.{Vote, Proposal}
use Rattle.protocol.specs.Member.{got_vote, got_proposal}
use Rattle.protocol.specs.Programs.{readable}
use Rattle.wire.specs.Bytes.{vote_bytes, proposal_bytes, part, vote_in, proposal_in}
use Rattle.wire.proofs.Fields.{under-part}

-- the piece at n, and what comes after it
pub piece : (bs p r : List ℕ) (n k : ℕ) → length p ≡ k → drop n bs ≡ p ++ r → (part n k bs ≡ p) × (drop (n + k) bs ≡ r)
piece bs p r n k long is =
    (ap (take k) is ∙ take_at p r k long, sym (drop-drop k n bs) ∙ ap (drop k) is ∙ drop_at p r k long)

-- a number of k bytes at n
pub field : (bs r : List ℕ) (n k x : ℕ) → x < 256 ^ k → drop n bs ≡ le_bytes k x ++ r →
    (le_number (part n k bs) ≡ x) × (drop (n + k) bs ≡ r)
field bs r n k x low is =
    let p = piece bs (le_bytes k x) r n k (length_digits 256 k x) is in
    (ap le_number p.0 ∙ number_digits 256 k x (omega arith) low, p.1)

pub vote_back : (v : Vote) → readable (got_vote v) ≡ true → vote_in (vote_bytes v) ≡ v
unfolding readable vote_in vote_bytes
vote_back v fits =
    let parts = and_parts _ _ fits in
    let first = and_parts _ _ parts.0 in
    let last = and_parts _ _ parts.1 in
    let some = and_parts _ _ last.0 in
    let bs = vote_bytes v in
    let end = le_bytes 32 v.value ++ (le_bytes 8 v.from ++ []) in
    let nested : drop 0 bs ≡ le_bytes 8 v.kind ++ (le_bytes 8 v.period ++ (le_bytes 8 v.step ++ end)) =
    simp (append_assoc, append-nil) in
    let kind = field bs _ 0 8 v.kind (ltb-true _ _ first.0) nested in
    let period = field bs _ 8 8 v.period (ltb-true _ _ first.1) kind.1 in
    let step = field bs _ 16 8 v.step (ltb-true _ _ some.0) period.1 in
    let value = field bs _ 24 32 v.value (ltb-true _ _ last.1) step.1 in
    let from = field bs _ 56 8 v.from (ltb-true _ _ some.1) value.1 in
    λ i. record { kind = kind.0 i; period = period.0 i; step = step.0 i; value = value.0 i; from = from.0 i }

pub proposal_back : (o : Proposal) → readable (got_proposal o) ≡ true → proposal_in (proposal_bytes o) ≡ o
unfolding readable proposal_in proposal_bytes
proposal_back o fits =
    let parts = and_parts _ _ fits in
    let first = and_parts _ _ parts.0 in
    let bs = proposal_bytes o in
    let nested : drop 0 bs ≡ le_bytes 8 o.period ++ (le_bytes 8 o.rank ++ (le_bytes 32 o.value ++ [])) =
    simp (append_assoc, append-nil) in
    let period = field bs _ 0 8 o.period (ltb-true _ _ first.0) nested in
    let rank = field bs _ 8 8 o.rank (ltb-true _ _ first.1) period.1 in
    let value = field bs _ 16 32 o.value (ltb-true _ _ parts.1) rank.1 in
    λ i. record { period = period.0 i; rank = rank.0 i; value = value.0 i }

pub length_part : (n k : ℕ) (bs : List ℕ) → n + k ≤ length bs → length (part n k bs) ≡ k
length_part n k bs long = simp (length-take, length-drop) (omega arith)

-- the bytes at n are those of the number read there
pub field_bytes : (n k : ℕ) (bs : List ℕ) → under 256 bs ≡ true → n + k ≤ length bs →
    le_bytes k (le_number (part n k bs)) ≡ part n k bs
field_bytes n k bs u long =
    (λ i. digits 256 (sym (length_part n k bs long) i) (le_number (part n k bs)))
    ∙ digits_number 256 (part n k bs) (under-part n k bs u)

-- one piece more that is read
pub read_more : (bs : List ℕ) (n : ℕ) (q : List ℕ) → take n bs ≡ q → (k : ℕ) (p : List ℕ) → p ≡ part n k bs →
    take (n + k) bs ≡ q ++ p
read_more bs n q h k p is =
    sym (take-append-drop n (take (n + k) bs))
    ∙ (λ i. take-take n (n + k) bs (omega arith) i ++ drop-take n k bs i)
    ∙ (λ i. h i ++ sym is i)

pub vote-spelled : (bs : List ℕ) → under 256 bs ≡ true → length bs ≡ 64 → vote_bytes (vote_in bs) ≡ bs
unfolding vote_bytes vote_in
vote-spelled bs u long =
    let kind = read_more bs 0 _ refl 8 _ (field_bytes 0 8 bs u (omega arith)) in
    let period = read_more bs 8 _ kind 8 _ (field_bytes 8 8 bs u (omega arith)) in
    let step = read_more bs 16 _ period 8 _ (field_bytes 16 8 bs u (omega arith)) in
    let value = read_more bs 24 _ step 32 _ (field_bytes 24 32 bs u (omega arith)) in
    let from = read_more bs 56 _ value 8 _ (field_bytes 56 8 bs u (omega arith)) in
    sym from ∙ take_all 64 bs (omega arith)

pub proposal_spelled : (bs : List ℕ) → under 256 bs ≡ true → length bs ≡ 48 → proposal_bytes (proposal_in bs) ≡ bs
unfolding proposal_bytes proposal_in
proposal_spelled bs u long =
    let period = read_more bs 0 _ refl 8 _ (field_bytes 0 8 bs u (omega arith)) in
    let rank = read_more bs 8 _ period 8 _ (field_bytes 8 8 bs u (omega arith)) in
    let value = read_more bs 16 _ rank 32 _ (field_bytes 16 32 bs u (omega arith)) in
    sym value ∙ take_all 48 bs (omega arith)
