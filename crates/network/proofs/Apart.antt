-- Honest members have seats of their own, so their memory lies apart.
use Rattle.std.proofs.Common.{◌≡◌, ℕ, zero, suc, ◌+◌, ◌*◌, ◌<◌, ◌≤◌, Bool, true, false, cond, not, List, sym, refl, ap}
use Rattle.std.proofs.Common.{[], ◌∷◌, length, add-one, map, length-append, ◌∙◌, inl, inr, le_trans, mul-le-mul_right}
use Rattle.std.proofs.Common.{suc-mul, arith, get_or, subst, ◌++◌}
use Rattle.std.specs.List.{filter, range_with_len, sum_by}
use Rattle.std.proofs.lemmas.Nat.{mul-le}
use Rattle.std.proofs.lemmas.List.{map-id, get_or_append_left, get_or_at}
use Rattle.std.proofs.lemmas.List.FromFn.{filter_of_map_range_with_len_more, sum_by-map-range_with_len_more}
use Rattle.std.proofs.lemmas.Bool.{cases_order, cases_Bool}
use Rattle.protocol.specs.Vote.{Limits}
use Rattle.protocol.specs.Network.{how_many}
use Rattle.protocol.specs.Programs.{memory_size}
use Rattle.protocol.specs.Promises.{all}
use Rattle.limits.specs.Limits.{limits_of}
use Rattle.limits.specs.declared.bounds.Limits as code
use Rattle.network.specs.Parts.{OnlyPart}
use Rattle.network.specs.Seats.{seat, start_of, memory_of, room_for}
use Rattle.network.proofs.Spans.{part_apart}

-- one number more
pub seat_more : (faulty : ℕ → Bool) (n : ℕ) → seat faulty (suc n) ≡ cond (not (faulty n)) 1 0 + seat faulty n
unfolding how_many
seat_more faulty n = refl

pub seat-honest : (faulty : ℕ → Bool) (n : ℕ) → faulty n ≡ false → seat faulty (suc n) ≡ suc (seat faulty n)
seat-honest faulty n h = seat_more faulty n ∙ ap (λ (b : Bool). cond (not b) 1 0 + seat faulty n) h ∙ omega arith

pub seat_faulty : (faulty : ℕ → Bool) (n : ℕ) → faulty n ≡ true → seat faulty (suc n) ≡ seat faulty n
seat_faulty faulty n h = seat_more faulty n ∙ ap (λ (b : Bool). cond (not b) 1 0 + seat faulty n) h ∙ omega arith

-- a chain over the numbers below n counts those that pass
one_more : (b : Bool) (n : ℕ) → length (cond b (n ∷ []) []) ≡ cond b 1 0
one_more true n = refl
one_more false n = refl

more_pass : (p : ℕ → Bool) (n : ℕ) → filter p (map (λ i. i) (range_with_len 0 (suc n)))
    ≡ filter p (map (λ i. i) (range_with_len 0 n)) ++ cond (p n) (n ∷ []) []
more_pass p n = ap (λ (k : ℕ). filter p (map (λ i. i) (range_with_len 0 k))) (sym (add-one n))
    ∙ filter_of_map_range_with_len_more p (λ i. i) 0 n n (omega arith)

counted : (p : ℕ → Bool) (n : ℕ) → length (filter p (map (λ i. i) (range_with_len 0 n))) ≡ how_many n p
unfolding how_many
counted p zero = refl
counted p (suc n) =
    let below : List ℕ = filter p (map (λ i. i) (range_with_len 0 n)) in
    let long = ap length (more_pass p n) ∙ length-append below (cond (p n) (n ∷ []) []) in
    omega (arith, long, one_more (p n) n, counted p n)

pub how_many_pass : (p : ℕ → Bool) (n : ℕ) → length (filter p (range_with_len 0 n)) ≡ how_many n p
how_many_pass p n = ap (λ (xs : List ℕ). length (filter p xs)) (sym (map-id (range_with_len 0 n))) ∙ counted p n

-- a chain that adds 1 for each that passes
pub how_many_sum : (p : ℕ → Bool) (n : ℕ) → sum_by (λ i. cond (p i) 1 0) (range_with_len 0 n) ≡ how_many n p
unfolding how_many
how_many_sum p zero = refl
how_many_sum p (suc n) =
    ap (λ (k : ℕ). sum_by (λ i. cond (p i) 1 0) (range_with_len 0 k)) (sym (add-one n))
    ∙ ap (sum_by (λ i. cond (p i) 1 0)) (sym (map-id (range_with_len 0 (n + 1))))
    ∙ sum_by-map-range_with_len_more (λ i. cond (p i) 1 0) (λ i. i) 0 n n (omega arith)
    ∙ ap (λ (xs : List ℕ). sum_by (λ i. cond (p i) 1 0) xs + cond (p n) 1 0) (map-id (range_with_len 0 n))
    ∙ omega (arith, how_many_sum p n)

pub how_many_few : (p : ℕ → Bool) (n : ℕ) → how_many n p ≤ n
unfolding how_many
how_many_few p zero = omega arith
how_many_few p (suc n) = elim (cases_Bool (p n)) [
  | inl e ↦ rw e (omega (arith, how_many_few p n))
  | inr e ↦ rw e (omega (arith, how_many_few p n))
]

-- the number at place k of those that pass: it passes, and k lower ones do
abbrev pub Picked : (ℕ → Bool) → ℕ → ℕ → ℕ → Type 0
Picked p n k m = (m < n) × ((p m ≡ true) × (how_many m p ≡ k))

picked_from_map : (p : ℕ → Bool) (n k d : ℕ) → k < length (filter p (map (λ i. i) (range_with_len 0 n))) →
    Picked p n k (get_or (filter p (map (λ i. i) (range_with_len 0 n))) k d)
picked_from_map p zero k d h = absurd (omega (arith, h))
picked_from_map p (suc n) k d h =
    let below : List ℕ = filter p (map (λ i. i) (range_with_len 0 n)) in
    let more = more_pass p n in
    subst (λ (xs : List ℕ). Picked p (suc n) k (get_or xs k d)) (sym more)
    (elim (cases_order k (length below)) [
      | inl e ↦ last below e (subst (λ (xs : List ℕ). k < length xs) more h) (sym (counted p n))
      | inr (inl lt) ↦
          let was = picked_from_map p n k d lt in
          subst (Picked p (suc n) k) (sym (get_or_append_left below (cond (p n) (n ∷ []) []) d k lt))
          (omega (arith, was.0), was.1)
      | inr (inr gt) ↦
          absurd (omega (
            arith,
            h,
            ap length more,
            length-append below (cond (p n) (n ∷ []) []),
            one_more (p n) n,
            few (p n),
          ))
    ])
  where
    few : (b : Bool) → cond b 1 0 ≤ 1
    few true = omega arith
    few false = omega arith

    last : (below : List ℕ) → k ≡ length below → k < length (below ++ cond (p n) (n ∷ []) []) →
        how_many n p ≡ length below → Picked p (suc n) k (get_or (below ++ cond (p n) (n ∷ []) []) k d)
    last below e long many =
        elim (cases_Bool (p n)) [
          | inl t ↦ rw t (subst (Picked p (suc n) k) (sym (get_or_at below n [] d k (sym e)))
              (omega arith, (t, many ∙ sym e)))
          | inr f ↦
              absurd (omega (
                arith,
                e,
                long,
                length-append below (cond (p n) (n ∷ []) []),
                ap (λ (b : Bool). length (cond b (n ∷ []) [])) f,
              ))
        ]

pub picked_at : (p : ℕ → Bool) (n k d : ℕ) → k < length (filter p (range_with_len 0 n)) →
    Picked p n k (get_or (filter p (range_with_len 0 n)) k d)
picked_at p n k d h =
    subst (λ (xs : List ℕ). k < length (filter p xs) → Picked p n k (get_or (filter p xs) k d))
    (map-id (range_with_len 0 n)) (picked_from_map p n k d) h

seat_grows : (faulty : ℕ → Bool) (i j : ℕ) → i ≤ j → seat faulty i ≤ seat faulty j
seat_grows faulty i zero h = let e : i ≡ zero = omega arith in rw e (omega arith)
seat_grows faulty i (suc j) h =
    elim (cases_order i (suc j)) [
      | inl e ↦ rw e (omega arith)
      | inr (inl lt) ↦ let less : seat faulty i ≤ seat faulty j = seat_grows faulty i j (omega arith) in
          omega (arith, seat_more faulty j)
      | inr (inr gt) ↦ absurd (omega arith)
    ]

-- one with a higher number sits behind an honest one
pub seat_behind : (faulty : ℕ → Bool) (i j : ℕ) → faulty i ≡ false → i < j → suc (seat faulty i) ≤ seat faulty j
seat_behind faulty i j h lt = omega (arith, seat-honest faulty i h, seat_grows faulty (suc i) j lt)

-- all are honest or faulty
pub others : (faulty : ℕ → Bool) (n : ℕ) → how_many n faulty + seat faulty n ≡ n
unfolding how_many
others faulty zero = refl
others faulty (suc n) =
    elim (cases_Bool (faulty n)) [
      | inl t ↦ rw t (omega (arith, others faulty n))
      | inr f ↦ rw f (omega (arith, others faulty n))
    ]

-- the memory of an honest member lies before that of any with a higher number
pub start_behind : (l : Limits) (faulty : ℕ → Bool) (i j : ℕ) → faulty i ≡ false → i < j →
    start_of l faulty i + memory_size l ≤ start_of l faulty j
start_behind l faulty i j h lt =
    omega (
      arith,
      suc-mul (seat faulty i) (memory_size l),
      mul-le-mul_right {m = suc (seat faulty i)} {n = seat faulty j} (memory_size l) (seat_behind faulty i j h lt),
    )

-- the memory of an honest member lies within that of all, which is as long as it was
pub room_left : (l : Limits) (faulty : ℕ → Bool) (i n was start size : ℕ) → start ≡ start_of l faulty i →
    size ≡ memory_size l → faulty i ≡ false → i < l.members → room_for l faulty ≤ was → n ≡ was → start + size ≤ n
room_left l faulty i n was start size is-start is-size h low room same =
    rw (is-start, is-size) (le_trans (start_behind l faulty i l.members h low) (rw same room))

-- where memory begins, of the size of one member times those before
pub start_is : (l : Limits) (faulty : ℕ → Bool) (i n size : ℕ) → n ≡ seat faulty i → size ≡ memory_size l →
    n * size ≡ start_of l faulty i
start_is l faulty i n size is-n is-size = ap (λ (k : ℕ). k * size) is-n ∙ ap (λ (k : ℕ). seat faulty i * k) is-size

-- so many numbers are few
pub size_small : (k : code.Limits) → memory_size (limits_of all k) ≤ 296256
size_small k =
    let slots : 2 * k.steps + 2 ≤ 18 = omega (arith, k.few_steps) in
    let periods : k.periods * (2 * k.steps + 2) ≤ 576 = mul-le _ _ 32 18 k.few_periods slots in
    let members : k.members * (k.periods * (2 * k.steps + 2)) ≤ 36864 = mul-le _ _ 64 576 k.few_members
    periods in
    omega (arith, members, k.few_periods, k.few_blocks)

pub span_fits : (k : code.Limits) (seat : ℕ) → seat ≤ 64 →
    seat * memory_size (limits_of all k) + memory_size (limits_of all k) ≤ 19256640
span_fits k seat h = omega (arith, mul-le seat (memory_size (limits_of all k)) 64 296256 h (size_small k), size_small k)

-- a change of one honest member's memory leaves that of the others
pub memory_apart : (l : Limits) (faulty : ℕ → Bool) (i j : ℕ) (xs ys : List ℕ) → faulty i ≡ false → faulty j ≡ false →
    (j ≡ i → ⊥) →
    OnlyPart (start_of l faulty i) (start_of l faulty i + memory_size l) xs ys →
    memory_of l faulty j ys ≡ memory_of l faulty j xs
memory_apart l faulty i j xs ys hi hj apart only =
    part_apart (start_of l faulty i) (start_of l faulty i + memory_size l) (start_of l faulty j)
    (start_of l faulty j + memory_size l) xs ys only
    (elim (cases_order i j) [
      | inl e ↦ absurd (apart (sym e))
      | inr (inl lt) ↦ inr (start_behind l faulty i j hi lt)
      | inr (inr gt) ↦ inl (start_behind l faulty j i hj gt)
    ])
