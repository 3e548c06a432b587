-- The bytes of votes and proposals: how many, and that what is read from bytes fits. Assumes nothing.
use Rattle.std.proofs.Common.{◌≡◌, ℕ, suc, ◌+◌, ◌*◌, ◌^◌, ◌<◌, true, ltb, List, [], ◌∷◌, ◌++◌, length, drop, Some, None}
use Rattle.std.proofs.Common.{Option, sym, refl, ap, ◌∙◌, append_assoc, append-nil, arith, length-append, length-take}
use Rattle.std.specs.List.{flat_map}
use Rattle.std.proofs.lemmas.Bool.{and_from, lt-ltb}
use Rattle.values.specs.declared.value.Value.{Value}
use Rattle.values.specs.Digits.{under, le_number, le_bytes}
use Rattle.values.specs.Values.{value_of}
use Rattle.values.proofs.Limbs.{value_below}
use Rattle.values.proofs.Digits.{length_digits, under-take, under_drop, number_below_pow}
use Rattle.protocol.specs.Vote.{Vote, Proposal, value_bound}
use Rattle.protocol.specs.Member.{got_vote, got_proposal, got_block, timeout, unreadable}
use Rattle.protocol.specs.Programs.{readable}
use Rattle.wire.specs.Bytes.{vote_bytes, proposal_bytes, said_bytes, agreed_bytes, part, vote_in, proposal_in}
use Rattle.wire.specs.Meaning.{vote_of, proposal_of, agreed_of}
use Rattle.wire.specs.declared.votes.Vote as held
use Rattle.wire.specs.declared.votes.Proposal as offered

pub length-vote : (v : Vote) → length (vote_bytes v) ≡ 64
unfolding vote_bytes
length-vote v = simp (length-append, length_digits)

pub length_proposal : (o : Proposal) → length (proposal_bytes o) ≡ 48
unfolding proposal_bytes
length_proposal o = simp (length-append, length_digits)

pub under-part : (i k : ℕ) (bs : List ℕ) → under 256 bs ≡ true → under 256 (part i k bs) ≡ true
under-part i k bs u = under-take 256 k (drop i bs) (under_drop 256 i bs u)

pub part_below : (i k : ℕ) (bs : List ℕ) → under 256 bs ≡ true → le_number (part i k bs) < 256 ^ k
part_below i k bs u =
    number_below_pow 256 k (part i k bs) (omega arith) (under-part i k bs u) (omega (arith, length-take k (drop i bs)))

pub vote_fits : (bs : List ℕ) → under 256 bs ≡ true → readable (got_vote (vote_in bs)) ≡ true
unfolding readable vote_in
vote_fits bs u =
    and_from _ _
    (and_from _ _ (lt-ltb _ _ (part_below 0 8 bs u)) (lt-ltb _ _ (part_below 8 8 bs u)))
    (and_from _ _ (and_from _ _ (lt-ltb _ _ (part_below 16 8 bs u)) (lt-ltb _ _ (part_below 56 8 bs u)))
    (lt-ltb _ _ (part_below 24 32 bs u)))

pub proposal_fits : (bs : List ℕ) → under 256 bs ≡ true → readable (got_proposal (proposal_in bs)) ≡ true
unfolding readable proposal_in
proposal_fits bs u =
    and_from _ _
    (and_from _ _ (lt-ltb _ _ (part_below 0 8 bs u)) (lt-ltb _ _ (part_below 8 8 bs u)))
    (lt-ltb _ _ (part_below 16 32 bs u))

pub block_fits : (i : ℕ) (bs : List ℕ) → under 256 bs ≡ true → readable (got_block (le_number (part i 32 bs))) ≡ true
unfolding readable
block_fits i bs u = lt-ltb _ _ (part_below i 32 bs u)

pub place_fits : (n : ℕ) → n < 2 ^ 64 → readable (unreadable n) ≡ true
unfolding readable
place_fits n low = lt-ltb _ _ low

pub timeout_fits : readable timeout ≡ true
unfolding readable
timeout_fits = refl

-- what is said, piece by piece
pub one_said : (v : Vote) → said_bytes (v ∷ []) ≡ le_bytes 8 1 ++ vote_bytes v
one_said v = ap (λ l. le_bytes 8 1 ++ l) (append-nil (vote_bytes v))

pub two_said : (v w : Vote) → said_bytes (v ∷ w ∷ []) ≡ le_bytes 8 2 ++ vote_bytes v ++ vote_bytes w
two_said v w =
    ap (λ l. le_bytes 8 2 ++ (vote_bytes v ++ l)) (append-nil (vote_bytes w))
    ∙ sym (append_assoc (le_bytes 8 2) (vote_bytes v) (vote_bytes w))

pub length-votes : (vs : List Vote) → length (flat_map vote_bytes vs) ≡ 64 * length vs
length-votes [] = refl
length-votes (v ∷ vs) =
    length-append (vote_bytes v) (flat_map vote_bytes vs) ∙ omega (arith, length-vote v, length-votes vs)

pub length-said : (vs : List Vote) → length (said_bytes vs) ≡ 8 + 64 * length vs
length-said vs =
    length-append (le_bytes 8 (length vs)) (flat_map vote_bytes vs)
    ∙ (λ i. length_digits 256 8 (length vs) i + length-votes vs i)

-- what is agreed on is none or one
pub length-agreed : (o : Option Value) → length (agreed_bytes (agreed_of o)) ≡ 1 + 32 * length (agreed_of o)
length-agreed None = refl
length-agreed (Some x) = ap suc (length_digits 256 32 _)

-- what the code holds fits its bytes
pub value_fits : (x : Value) → ltb (value_of x) value_bound ≡ true
value_fits x = lt-ltb _ _ (value_below x.limbs x.four x.fit)

pub held-vote_fits : (v : held.Vote) → v.kind < 2 ^ 64 → v.period < 2 ^ 64 → v.step < 2 ^ 64 → v.from < 2 ^ 64 →
    readable (got_vote (vote_of v)) ≡ true
unfolding readable
held-vote_fits v k p s f =
    and_from _ _
    (and_from _ _ (lt-ltb _ _ k) (lt-ltb _ _ p))
    (and_from _ _ (and_from _ _ (lt-ltb _ _ s) (lt-ltb _ _ f)) (value_fits v.value))

pub held_proposal_fits : (o : offered.Proposal) → o.period < 2 ^ 64 → o.rank < 2 ^ 64 →
    readable (got_proposal (proposal_of o)) ≡ true
unfolding readable
held_proposal_fits o p r = and_from _ _ (and_from _ _ (lt-ltb _ _ p) (lt-ltb _ _ r)) (value_fits o.value)

pub held_block_fits : (x : Value) → readable (got_block (value_of x)) ≡ true
unfolding readable
held_block_fits x = value_fits x

-- what the code holds, or read, fits
pub ruleset fits = (held-vote_fits, held_proposal_fits, held_block_fits, timeout_fits, place_fits)

-- how many bytes
pub ruleset sizes = (length-vote, length_proposal, length_digits, length-said, length-agreed, length-append)
