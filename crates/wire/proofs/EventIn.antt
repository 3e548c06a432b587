-- The event in bytes, by their first. Assumes nothing.
use Rattle.std.proofs.Common.{◌≡◌, ℕ, ◌^◌, ◌<◌, true, false, eqb, List, length, get_or}
use Rattle.std.proofs.Common.{ap, ◌∙◌, arith}
use Rattle.std.proofs.lemmas.Bool.{cond-false, cond_both, eqb-true, eqb-false}
use Rattle.std.proofs.lemmas.Bool.Decides.{nat_tests}
use Rattle.values.specs.Digits.{under, le_number}
use Rattle.protocol.specs.Member.{Event, got_vote, got_proposal, got_block, timeout, unreadable}
use Rattle.protocol.specs.Programs.{readable}
use Rattle.wire.specs.Bytes.{sized, event_by, event_in, part, vote_in, proposal_in}
use Rattle.wire.proofs.Sized.{sized_cases}
use Rattle.wire.proofs.Fields.{under-part, vote_fits, proposal_fits, block_fits, place_fits, timeout_fits}

-- the first byte of each event, and how many bytes it has in all
pub data Sizes : ℕ → ℕ → Type 0 where
  of_vote : Sizes 0 65
  of_proposal : Sizes 1 49
  of_block : Sizes 2 33
  of_timeout : Sizes 3 1

module _ (bs : List ℕ) where
  pub event_at : (t : ℕ) → eqb (length bs) 0 ≡ false → get_or bs 0 0 ≡ t → event_in bs ≡ event_by t bs
  unfolding event_in
  event_at t some is = cond-false _ _ _ some ∙ ap (λ n. event_by n bs) is

  -- another first byte
  pub event-rest : (t : ℕ) → 3 < t → event_by t bs ≡ unreadable 0
  event-rest t more = grind (arith, nat_tests)

  -- what holds of each way in which bytes are read
  pub event_cases : (P : Event → Type 0) →
      (length bs ≡ 0 → P (unreadable 0)) →
      (0 < length bs → 3 < get_or bs 0 0 → P (unreadable 0)) →
      ((n : ℕ) → Sizes (get_or bs 0 0) n → 0 < length bs → length bs < n → P (unreadable (length bs))) →
      ((n : ℕ) → Sizes (get_or bs 0 0) n → n < length bs → P (unreadable n)) →
      (get_or bs 0 0 ≡ 0 → length bs ≡ 65 → P (got_vote (vote_in (part 1 64 bs)))) →
      (get_or bs 0 0 ≡ 1 → length bs ≡ 49 → P (got_proposal (proposal_in (part 1 48 bs)))) →
      (get_or bs 0 0 ≡ 2 → length bs ≡ 33 → P (got_block (le_number (part 1 32 bs)))) →
      (get_or bs 0 0 ≡ 3 → length bs ≡ 1 → P timeout) →
      P (event_in bs)
  unfolding event_in
  event_cases P empty unknown short long vote proposal block time =
      cond_both _ _ _ P (λ h. empty (eqb-true _ _ h))
      (λ h.
      let some : 0 < length bs = omega (arith, eqb-false _ _ h) in
      let one : (t n : ℕ) (e : Event) → get_or bs 0 0 ≡ t → Sizes t n → (length bs ≡ n → P e) →
      P (sized unreadable n bs e) =
      λ t n e is size whole.
      let size' : Sizes (get_or bs 0 0) n = rw is size in
      sized_cases P unreadable n bs e (short n size' some) (long n size') whole in
      cond_both _ _ _ P (λ p. let is = eqb-true _ _ p in one 0 65 _ is of_vote (vote is))
      (λ p. cond_both _ _ _ P (λ q. let is = eqb-true _ _ q in one 1 49 _ is of_proposal (proposal is))
      (λ q. cond_both _ _ _ P (λ r. let is = eqb-true _ _ r in one 2 33 _ is of_block (block is))
      (λ r. cond_both _ _ _ P (λ s. let is = eqb-true _ _ s in one 3 1 _ is of_timeout (time is))
      (λ s. unknown some (omega (arith, eqb-false _ _ p, eqb-false _ _ q, eqb-false _ _ r, eqb-false _ _ s)))))))

  -- what is read fits its bytes
  pub event_fits : under 256 bs ≡ true → length bs < 2 ^ 64 → readable (event_in bs) ≡ true
  event_fits u short =
      event_cases (λ e. readable e ≡ true)
      (λ _. place_fits 0 (omega arith))
      (λ _ _. place_fits 0 (omega arith))
      (λ _ _ _ _. place_fits _ short)
      (λ n _ more. place_fits n (omega arith))
      (λ _ _. vote_fits _ (under-part 1 64 bs u))
      (λ _ _. proposal_fits _ (under-part 1 48 bs u))
      (λ _ _. block_fits 1 bs u)
      (λ _ _. timeout_fits)
