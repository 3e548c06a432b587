-- A memory of zeros, and the header of a new member.
use Rattle.std.proofs.Common.{◌≡◌, ℕ, suc, ◌+◌, ◌-◌, ◌<◌, ◌≤◌, true, List, [], ◌∷◌, length, get_or, take, drop}
use Rattle.std.proofs.Common.{sym, refl, ◌∙◌, subst, inr, ⊎_elim, arith, length-take, get_or-drop, get_or-take}
use Rattle.std.specs.List.{between}
use Rattle.std.proofs.lemmas.List.{get_or_past}
use Rattle.std.proofs.lemmas.Bool.{and_from, lt-ltb, cases_lt}
use Rattle.protocol.specs.Vote.{Limits, word_bound}
use Rattle.protocol.specs.Member.{new_member}
use Rattle.protocol.specs.Programs.{all_words, member_after}
use Rattle.protocol.specs.Promises.{all}
use Rattle.limits.specs.Limits.{limits_of}
use Rattle.limits.specs.declared.bounds.Limits as sizes
use Rattle.member.specs.Answered.{Carries}
use Rattle.member.specs.Calls.{taking_all, OfNumbers, Opening}
use Rattle.cells.specs.Cells.{Only}
use Rattle.tally.specs.Votes.{Holds}
use Rattle.cells.specs.Proposals.{Proposes}
use Rattle.cells.specs.Blocks.{blocks_in}
use Rattle.tally.proofs.Heard.{holds_none}
use Rattle.cells.proofs.Best.{proposes_none}
use Rattle.cells.proofs.Here.{here_none}
use Rattle.moves.specs.Parts.{part, of_votes, of_proposals, of_blocks, of_rest, votes_end, proposals_end, blocks_end}
use Rattle.moves.specs.Parts.{Blank}

-- each number of a list fits eight bytes
pub words_by_places : (xs : List ℕ) → ((i : ℕ) → get_or xs i 0 < word_bound) → all_words xs ≡ true
unfolding all_words
words_by_places [] h = refl
words_by_places (x ∷ xs) h = and_from _ _ (lt-ltb x word_bound (h 0)) (words_by_places xs (λ i. h (suc i)))

-- the parts of a blank memory whose header was written hold nothing
module _ (l : Limits) (mem mid new : List ℕ) (blank : Blank l mem mid) (only : Only 0 64 mid new) where
  zero_in : (i j k : ℕ) → 64 ≤ i → j ≤ blocks_end l → get_or (between i j new) k 0 ≡ 0
  zero_in i j k low high =
      ⊎_elim
      (λ (h : k < j - i). get_or-take (j - i) (drop i new) k 0 h ∙ get_or-drop i new k 0
      ∙ only (i + k) (inr (omega arith)) ∙ blank.zeros (i + k) (omega arith))
      (λ (h : j - i ≤ k). get_or_past (take (j - i) (drop i new)) k 0 (simp length-take (omega arith)))
      (cases_lt k (j - i))

  pub no_votes : Holds l (part of_votes l new) []
  no_votes = holds_none l (part of_votes l new) (λ k. zero_in 64 (votes_end l) k (omega arith) (omega arith))

  pub no_proposals : Proposes l (part of_proposals l new) []
  no_proposals = proposes_none l (part of_proposals l new)
      (λ k. zero_in (votes_end l) (proposals_end l) k (omega arith) (omega arith))

  pub no_blocks : blocks_in (part of_blocks l new) 0 ≡ []
  no_blocks = here_none (part of_blocks l new)

-- a member was opened, whatever stage its limits are of
pub opening : (members periods steps blocks i : ℕ) (sizes : sizes.Limits) (mem new : List ℕ) →
    ((sizes.members ≡ members) × (sizes.periods ≡ periods) × (sizes.steps ≡ steps) × (sizes.blocks ≡ blocks)) →
    i < members →
    Carries (limits_of all sizes) i new (new_member i) →
    part of_rest (limits_of all sizes) new ≡ part of_rest (limits_of all sizes) mem → length new ≡ length mem →
    all_words new ≡ true →
    Opening members periods steps blocks i mem new
unfolding member_after
opening members periods steps blocks i sizes mem new made low carries rest long words = record {
  member = low;
  is = λ l h. record {
    takes = h.takes;
    carries = subst (λ (k : Limits). Carries k i new (new_member i)) (same l h)
        carries;
  };
  rest = λ l h. subst (λ (k : Limits). part of_rest k new ≡ part of_rest k mem) (same l h) rest;
  long = long;
  words = words;
}
  where
    same : (l : Limits) → OfNumbers members periods steps blocks l → limits_of all sizes ≡ taking_all l
    same l h =
        let m : sizes.members ≡ l.members = made.0 ∙ sym h.members in
        let p : sizes.periods ≡ l.periods = made.1 ∙ sym h.periods in
        let s : sizes.steps ≡ l.steps = made.2 ∙ sym h.steps in
        let b : sizes.blocks ≡ l.blocks = made.3 ∙ sym h.blocks in
        λ j. record { takes = all; members = m j; periods = p j; steps = s j; blocks = b j }
