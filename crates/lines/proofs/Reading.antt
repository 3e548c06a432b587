-- What the words of a line say, and that other words say nothing.
use Rattle.std.proofs.Common.{◌≡◌, ℕ, ◌^◌, ◌<◌, true, List, [], ◌∷◌, Some, None, codes, Option, ap, ◌∙◌, arith}
use Rattle.std.proofs.Common.{MatchOption}
use Rattle.std.proofs.lemmas.Bool.{and_parts, ltb-true}
use Rattle.text.specs.Words.{words}
use Rattle.protocol.specs.Vote.{Vote, Proposal}
use Rattle.protocol.specs.Member.{Event, got_vote, got_proposal, got_block, timeout, unreadable}
use Rattle.protocol.specs.Programs.{readable}
use Rattle.text.specs.Decimals.{spelled}
use Rattle.lines.specs.Fields.{Last}
use Rattle.lines.specs.Events.{vote_words, proposal_words, event_words}
use Rattle.lines.proofs.Spaces.{one_word, only_word, some_word}

-- the only word is a number, if the whole text is
pub last_from_whole : {A : Type 0} (bound : ℕ) (of : A → ℕ) (text : List ℕ) (r : Option A) →
    MatchOption r ((n : ℕ) → n < bound → text ≡ spelled n → ⊥) (λ x. text ≡ spelled (of x)) → Last bound of text r
last_from_whole bound of text (Some x) h = ap words h ∙ one_word (of x)
last_from_whole bound of text None h = λ n small e. h n small (only_word text (spelled n) e)

-- two ways to say the words are the same, at the first and at those after it
module _ {a b : List ℕ} {ws us vs : List (List ℕ)} where
  pub first_word : ws ≡ a ∷ us → ws ≡ b ∷ vs → a ≡ b
  first_word p q = cc

  pub after_word : ws ≡ a ∷ us → ws ≡ b ∷ vs → us ≡ vs
  after_word p q = cc

-- VALUE FROM are left after three words of a vote
pub value-from : {a b c : List ℕ} {ws ws₁ ws₂ ws₃ : List (List ℕ)} (v : Vote) →
    ws ≡ a ∷ ws₁ → ws₁ ≡ b ∷ ws₂ → ws₂ ≡ c ∷ ws₃ → ws ≡ vote_words v →
    ws₃ ≡ spelled v.value ∷ (spelled v.from ∷ [])
value-from v p q r e = cc

-- KIND PERIOD STEP VALUE FROM fit their fields
pub vote_fits : (v : Vote) → readable (got_vote v) ≡ true →
    (v.kind < 2 ^ 64) × (v.period < 2 ^ 64) × (v.step < 2 ^ 64) × (v.value < 2 ^ 256) × (v.from < 2 ^ 64)
unfolding readable
vote_fits v fits =
    let parts = and_parts _ _ fits in
    let first = and_parts _ _ parts.0 in
    let last = and_parts _ _ parts.1 in
    let some = and_parts _ _ last.0 in (
      ltb-true _ _ first.0,
      ltb-true _ _ first.1,
      ltb-true _ _ some.0,
      ltb-true _ _ last.1,
      ltb-true _ _ some.1,
    )

-- so do PERIOD RANK VALUE
pub proposal_fits : (o : Proposal) → readable (got_proposal o) ≡ true →
    (o.period < 2 ^ 64) × (o.rank < 2 ^ 64) × (o.value < 2 ^ 256)
unfolding readable
proposal_fits o fits =
    let parts = and_parts _ _ fits in
    let first = and_parts _ _ parts.0 in
    (ltb-true _ _ first.0, ltb-true _ _ first.1, ltb-true _ _ parts.1)

pub block_fits : (x : ℕ) → readable (got_block x) ≡ true → x < 2 ^ 256
unfolding readable
block_fits x fits = ltb-true _ _ fits

-- What a line does not say, by the name that is its first word, and the words after that.
abbrev pub NoVote : List (List ℕ) → Type 0
NoVote ws = (v : Vote) → readable (got_vote v) ≡ true → ws ≡ vote_words v → ⊥

abbrev pub NoProposal : List (List ℕ) → Type 0
NoProposal ws = (o : Proposal) → readable (got_proposal o) ≡ true → ws ≡ proposal_words o → ⊥

abbrev pub NoBlock : List (List ℕ) → Type 0
NoBlock ws = (x : ℕ) → x < 2 ^ 256 → ws ≡ spelled x ∷ [] → ⊥

pub no_event : (name rest : List ℕ) (ws : List (List ℕ)) → ws ≡ name ∷ words rest →
    (name ≡ codes "vote" → NoVote (words rest)) → (name ≡ codes "offer" → NoProposal (words rest)) →
    (name ≡ codes "block" → NoBlock (words rest)) →
    (e : Event) → readable e ≡ true → ws ≡ event_words e → ⊥
no_event name rest ws is no-vote no-proposal no_block (got_vote v) fits e = no-vote (cc) v fits (cc)
no_event name rest ws is no-vote no-proposal no_block (got_proposal o) fits e = no-proposal (cc) o fits (cc)
no_event name rest ws is no-vote no-proposal no_block (got_block x) fits e = no_block (cc) x (block_fits x fits) (cc)
no_event name rest ws is no-vote no-proposal no_block timeout fits e = some_word rest (cc)
no_event name rest ws is no-vote no-proposal no_block (unreadable n) fits e =
    let z : ◌≡◌ {A = ℕ} 0 1 = cc in omega arith
