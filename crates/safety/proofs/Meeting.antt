-- How many members pass a test, and that two quorums of members have an honest one in common.
use Rattle.std.proofs.Common.{◌≡◌, ℕ, zero, suc, ◌+◌, ◌*◌, ◌<◌, ◌≤◌, Bool, true, false, cond, ◌⊎◌, refl, inl, inr}
use Rattle.std.proofs.Common.{arith}
use Rattle.std.proofs.lemmas.Bool.{both_ways, cases_eq}
use Rattle.protocol.specs.Vote.{quorum}
use Rattle.protocol.specs.Network.{how_many}
use Rattle.protocol.specs.Promises.{QuorumsMeet}

-- an honest member that passes both tests
abbrev pub Meet : ℕ → (faulty q r : ℕ → Bool) → Type 0
Meet n faulty q r = (i : ℕ) × ((i < n) × (faulty i ≡ false) × (q i ≡ true) × (r i ≡ true))

pub wider : (n : ℕ) (faulty q r : ℕ → Bool) → Meet n faulty q r → Meet (suc n) faulty q r
wider n faulty q r m = (m.0, (omega (arith, m.1.0), m.1.1, m.1.2, m.1.3))

-- one more member: it is the one, or it adds no more to the two quorums than it takes
meet_more : (n a b c : ℕ) (faulty q r : ℕ → Bool) (f g h : Bool) → faulty n ≡ f → q n ≡ g → r n ≡ h →
    suc n + (cond f 1 0 + a) < (cond g 1 0 + b) + (cond h 1 0 + c) →
    (n + a < b + c → Meet n faulty q r) → Meet (suc n) faulty q r
meet_more n a b c faulty q r false true true ef eg eh lt rest = (n, (omega arith, ef, eg, eh))
meet_more n a b c faulty q r false true false ef eg eh lt rest = wider n faulty q r (rest (omega arith))
meet_more n a b c faulty q r false false true ef eg eh lt rest = wider n faulty q r (rest (omega arith))
meet_more n a b c faulty q r false false false ef eg eh lt rest = wider n faulty q r (rest (omega arith))
meet_more n a b c faulty q r true true true ef eg eh lt rest = wider n faulty q r (rest (omega arith))
meet_more n a b c faulty q r true true false ef eg eh lt rest = wider n faulty q r (rest (omega arith))
meet_more n a b c faulty q r true false true ef eg eh lt rest = wider n faulty q r (rest (omega arith))
meet_more n a b c faulty q r true false false ef eg eh lt rest = wider n faulty q r (rest (omega arith))

pub meet : (n : ℕ) (faulty q r : ℕ → Bool) → n + how_many n faulty < how_many n q + how_many n r → Meet n faulty q r
unfolding how_many
meet zero faulty q r lt = absurd (omega arith)
meet (suc n) faulty q r lt =
    meet_more n (how_many n faulty) (how_many n q) (how_many n r) faulty q r (faulty n) (q n) (r n) refl refl refl lt
    (meet n faulty q r)

-- two quorums are more than all members and the faulty ones once more
pub enough_for_two : (n f a b : ℕ) → 1 ≤ n → 3 * f < n → quorum n ≤ a → quorum n ≤ b → n + f < a + b
enough_for_two n f a b some few qa qb = omega arith

pub quorums_meet : QuorumsMeet
quorums_meet n faulty q r some few qa qb = meet n faulty q r (enough_for_two n _ _ _ some few qa qb)

-- more members pass a wider test, ...
pub how_many_grows : (n : ℕ) (f g : ℕ → Bool) → ((i : ℕ) → f i ≡ true → g i ≡ true) → how_many n f ≤ how_many n g
unfolding how_many
how_many_grows zero f g sub = omega arith
how_many_grows (suc n) f g sub = go (f n) (g n) (sub n) (how_many_grows n f g sub)
  where
    go : (x y : Bool) → (x ≡ true → y ≡ true) → how_many n f ≤ how_many n g →
        cond x 1 0 + how_many n f ≤ cond y 1 0 + how_many n g
    go true true s h = omega arith
    go true false s h = absurd (both_ways false refl (s refl))
    go false true s h = omega arith
    go false false s h = omega arith

-- ... and one more at least if some member passes the wider one alone
pub how_many_more : (n j : ℕ) (f g : ℕ → Bool) → ((i : ℕ) → f i ≡ true → g i ≡ true) → j < n → f j ≡ false →
    g j ≡ true → suc (how_many n f) ≤ how_many n g
unfolding how_many
how_many_more zero j f g sub lt off on = absurd (omega arith)
how_many_more (suc n) j f g sub lt off on = go (cases_eq j n) (λ below. how_many_more n j f g sub below off on)
  where
    last : (x y : Bool) → x ≡ false → y ≡ true → how_many n f ≤ how_many n g →
        suc (cond x 1 0 + how_many n f) ≤ cond y 1 0 + how_many n g
    last true y ex ey h = absurd (both_ways true ex refl)
    last false false ex ey h = absurd (both_ways false refl ey)
    last false true ex ey h = omega arith

    before : (x y : Bool) → (x ≡ true → y ≡ true) → suc (how_many n f) ≤ how_many n g →
        suc (cond x 1 0 + how_many n f) ≤ cond y 1 0 + how_many n g
    before true true s h = omega arith
    before true false s h = absurd (both_ways false refl (s refl))
    before false true s h = omega arith
    before false false s h = omega arith

    go : (j ≡ n) ⊎ (j ≡ n → ⊥) → (j < n → suc (how_many n f) ≤ how_many n g) →
        suc (cond (f n) 1 0 + how_many n f) ≤ cond (g n) 1 0 + how_many n g
    go (inl e) less = last (f n) (g n) (rw e at off) (rw e at on) (how_many_grows n f g sub)
    go (inr ne) less = before (f n) (g n) (sub n) (less (omega arith))
