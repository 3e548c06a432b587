-- The place at which bytes cease to be an event is the first at which none can go on. Assumes nothing.
use Rattle.std.proofs.Common.{◌≡◌, ℕ, zero, suc, ◌-◌, ◌<◌, ◌≤◌, true, List, [], ◌∷◌, ◌++◌, length, get_or, take}
use Rattle.std.proofs.Common.{replicate, sym, refl, ap, ◌∙◌, subst, append-nil, arith, length-append}
use lib.ListN.{length-replicate}
use Rattle.std.proofs.lemmas.List.{take_all, get_or_append_left, get_or-take, length-take-le}
use Rattle.std.proofs.lemmas.Bool.{false≢true}
use Rattle.values.specs.Digits.{under}
use Rattle.values.proofs.Digits.{length_digits, under-take, under-append}
use Rattle.protocol.specs.Member.{Event, got_vote, got_proposal, got_block, timeout, unreadable, is_event}
use Rattle.protocol.specs.Programs.{readable}
use Rattle.wire.specs.Bytes.{event_bytes, event_in}
use Rattle.wire.specs.Statements.{Begins, Ceases, EventsPlace}
use Rattle.wire.proofs.Fields.{length-vote, length_proposal, timeout_fits}
use Rattle.wire.proofs.EventIn.{Sizes, of_vote, of_proposal, of_block, of_timeout, event_cases, event_fits}
use Rattle.wire.proofs.EventsBack.{event-sized, events_read_back, events_one_spelling}

-- a first byte says how many bytes there are
one_size : (t n m : ℕ) → Sizes t n → Sizes t m → n ≡ m
one_size t n m of_vote of_vote = refl
one_size t n m of_proposal of_proposal = refl
one_size t n m of_block of_block = refl
one_size t n m of_timeout of_timeout = refl

sizes_bound : (t n : ℕ) → Sizes t n → (t ≤ 3) × ((0 < n) × (n ≤ 65))
sizes_bound t n of_vote = (omega arith, (omega arith, omega arith))
sizes_bound t n of_proposal = (omega arith, (omega arith, omega arith))
sizes_bound t n of_block = (omega arith, (omega arith, omega arith))
sizes_bound t n of_timeout = (omega arith, (omega arith, omega arith))

sizes_of : (e : Event) → is_event e ≡ true → Sizes (get_or (event_bytes e) 0 0) (length (event_bytes e))
unfolding is_event
sizes_of (got_vote v) is = let P : ℕ → Type 0 = λ n. Sizes 0 (suc n) in subst P (sym (length-vote v)) of_vote
sizes_of (got_proposal o) is = let P : ℕ → Type 0 = λ n. Sizes 1 (suc n) in
    subst P (sym (length_proposal o)) of_proposal
sizes_of (got_block x) is = let P : ℕ → Type 0 = λ n. Sizes 2 (suc n) in subst P (sym (length_digits 256 32 x)) of_block
sizes_of timeout is = of_timeout
sizes_of (unreadable n) is = absurd (false≢true is)

-- as many bytes as their first says are an event
sized-event : (bs : List ℕ) (t n : ℕ) → Sizes t n → get_or bs 0 0 ≡ t → length bs ≡ n → is_event (event_in bs) ≡ true
unfolding is_event
sized-event bs t n of_vote first long = ap is_event (event-sized bs 0 65 _ (omega arith) first refl long)
sized-event bs t n of_proposal first long = ap is_event (event-sized bs 1 49 _ (omega arith) first refl long)
sized-event bs t n of_block first long = ap is_event (event-sized bs 2 33 _ (omega arith) first refl long)
sized-event bs t n of_timeout first long = ap is_event (event-sized bs 3 1 _ (omega arith) first refl long)

-- so bytes that such bytes begin with begin an event
begins_whole : (bs all rest : List ℕ) (n : ℕ) → Sizes (get_or all 0 0) n → length all ≡ n → under 256 all ≡ true →
    all ≡ bs ++ rest → Begins bs
begins_whole bs all rest n size long u is =
    let bound = sizes_bound _ n size in
    let event = sized-event all _ n size refl long in
    (event_in all, (rest, (event, event_fits all u (omega arith), events_one_spelling all u event ∙ is)))

begins_none : Begins []
unfolding is_event
begins_none = (timeout, (3 ∷ [], (refl, timeout_fits, refl)))

under-zeros : (k : ℕ) → under 256 (replicate k 0) ≡ true
unfolding under
under-zeros zero = refl
under-zeros (suc k) = under-zeros k

-- bytes that begin an event have a first byte and a length of one
begins_size : (bs : List ℕ) → 0 < length bs → Begins bs → (n : ℕ) × (Sizes (get_or bs 0 0) n × (length bs ≤ n))
begins_size bs some (e, (rest, (is, fits, bytes))) =
    let size = sizes_of e is in
    let first : get_or (event_bytes e) 0 0 ≡ get_or bs 0 0 =
    ap (λ l. get_or l 0 0) bytes ∙ get_or_append_left bs rest 0 0 some in
    let P : ℕ → Type 0 = λ t. Sizes t (length (event_bytes e)) in
    (length (event_bytes e), (subst P first size, omega (arith, ap length bytes, length-append bs rest)))

module _ (bs : List ℕ) (u : under 256 bs ≡ true) where
  -- no event's bytes are unreadable
  none_whole : (n : ℕ) → event_in bs ≡ unreadable n → (e : Event) → is_event e ≡ true → readable e ≡ true →
      event_bytes e ≡ bs → ⊥
  unfolding is_event
  none_whole n bad e is fits bytes =
      let same : e ≡ unreadable n = sym (events_read_back e is fits) ∙ ap event_in bytes ∙ bad in
      false≢true (sym (ap is_event same) ∙ is)

  ceases_short : (n : ℕ) → Sizes (get_or bs 0 0) n → 0 < length bs → length bs < n → Begins (take (length bs) bs)
  ceases_short n size some short =
      let zeros = replicate (n - length bs) 0 in
      let first : get_or bs 0 0 ≡ get_or (bs ++ zeros) 0 0 = sym (get_or_append_left bs zeros 0 0 some) in
      let P : ℕ → Type 0 = λ t. Sizes t n in
      let long : length (bs ++ zeros) ≡ n =
      length-append bs zeros ∙ omega (arith, length-replicate {A = ℕ} (n - length bs) 0) in
      rw (take_all (length bs) bs (omega arith))
      (begins_whole bs (bs ++ zeros) zeros n (subst P first size) long (under-append 256 bs zeros u (under-zeros _))
      refl)

  ceases_long : (n : ℕ) → Sizes (get_or bs 0 0) n → n < length bs → Begins (take n bs) × (Begins (take (suc n) bs) → ⊥)
  ceases_long n size more =
      let bound = sizes_bound _ n size in
      let P : ℕ → Type 0 = λ t. Sizes t n in
      let first : get_or bs 0 0 ≡ get_or (take n bs) 0 0 = sym (get_or-take n bs 0 0 (omega arith)) in
      let first' : get_or (take (suc n) bs) 0 0 ≡ get_or bs 0 0 = get_or-take (suc n) bs 0 0 (omega arith) in
      let long' : length (take (suc n) bs) ≡ suc n = length-take-le (suc n) bs (omega arith) in
      let long : length (take n bs) ≡ n = length-take-le n bs (omega arith) in (
        begins_whole (take n bs) (take n bs) [] n (subst P first size) long (under-take 256 n bs u)
            (sym (append-nil _)),
        λ b.
            let s = begins_size (take (suc n) bs) (omega arith) b in
            let Q : ℕ → Type 0 = λ t. Sizes t s.0 in
            let same = one_size _ n s.0 size (subst Q first' s.1.0) in
            omega (arith, s.1.1),
      )

pub events_place : EventsPlace
events_place bs n u bad =
    event_cases bs (λ e. e ≡ unreadable n → Ceases bs n)
    (λ none is.
    let zero : 0 ≡ n = cc in
    let P : ℕ → Type 0 = λ k. Ceases bs k in
    subst P zero
    (record {
      within = omega arith;
      before = begins_none;
      there = λ some. absurd (omega arith);
      none = none_whole bs u n bad;
    }))
    (λ some other is.
    let zero : 0 ≡ n = cc in
    let P : ℕ → Type 0 = λ k. Ceases bs k in
    let first : get_or (take 1 bs) 0 0 ≡ get_or bs 0 0 = get_or-take 1 bs 0 0 (omega arith) in
    let one : length (take 1 bs) ≡ 1 = length-take-le 1 bs (omega arith) in
    subst P zero
    (record {
      within = omega arith;
      before = begins_none;
      there = λ _ b.
          let s = begins_size (take 1 bs) (omega arith) b in
          omega (arith, (sizes_bound _ _ s.1.0).0);
      none = none_whole bs u n bad;
    }))
    (λ m size some short is.
    let same : length bs ≡ n = cc in
    let P : ℕ → Type 0 = λ k. Ceases bs k in
    subst P same
    (record {
      within = omega arith;
      before = ceases_short bs u m size some short;
      there = λ on. absurd (omega arith);
      none = none_whole bs u n bad;
    }))
    (λ m size more is.
    let same : m ≡ n = cc in
    let P : ℕ → Type 0 = λ k. Ceases bs k in
    let long = ceases_long bs u m size more in
    subst P same
    (record { within = omega arith; before = long.0; there = λ _. long.1; none = none_whole bs u n bad }))
    (λ _ _ is. let z : ◌≡◌ {A = ℕ} 0 1 = cc in absurd (omega arith))
    (λ _ _ is. let z : ◌≡◌ {A = ℕ} 0 1 = cc in absurd (omega arith))
    (λ _ _ is. let z : ◌≡◌ {A = ℕ} 0 1 = cc in absurd (omega arith))
    (λ _ _ is. let z : ◌≡◌ {A = ℕ} 0 1 = cc in absurd (omega arith))
    bad
