-- When the proposals' part of memory holds the best proposal of each period. Assumes nothing: these are definitions.
use Rattle.std.specs.Prelude.{◌≡◌, ℕ, ◌+◌, ◌-◌, ◌*◌, ◌≤◌, cond, List, [], ◌∷◌, ◌==◌, slice_index}
use Rattle.protocol.specs.Vote.{Proposal, Limits}
use Rattle.protocol.specs.Promises.{all}
use Rattle.limits.specs.Limits.{limits_of}
use Rattle.wire.specs.Meaning.{proposal_of}
use Rattle.cells.specs.Cells.{value_at}
use Rattle.cells.specs.declared.valid.ValidProposal.{ValidProposal}

-- how many numbers the proposals take
abbrev pub proposals_size : Limits → ℕ
proposals_size l = 8 * l.periods

abbrev pub Proposals : Type 0
Proposals = List Proposal

-- where a period's proposal lies: eight numbers, of which the first is 0 if there is none, then the rank, then four of
-- the value, and two that are not used
abbrev pub seat : ℕ → ℕ
seat p = 8 * (p - 1)

abbrev pub proposal_at : List ℕ → ℕ → List Proposal
proposal_at part p =
    cond (slice_index part (seat p) == 0) []
    (record { period = p; rank = slice_index part (seat p + 1); value = value_at part (seat p + 2) } ∷ [])

-- the proposal for a period, none or one
unfoldable pub best_for : ℕ → List Proposal → List Proposal
best_for p [] = []
best_for p (o ∷ os) = cond (o.period == p) (o ∷ []) (best_for p os)

-- the part has of each period the proposal that the list has
abbrev pub Proposes : Limits → List ℕ → List Proposal → Type 0
Proposes l part os = (p : ℕ) → 1 ≤ p → p ≤ l.periods → proposal_at part p ≡ best_for p os

-- the protocol's proposal of one in range, and its limits
abbrev pub valid_proposal : ValidProposal → Proposal
valid_proposal o = proposal_of o.proposal

abbrev pub proposal_limits : ValidProposal → Limits
proposal_limits o = limits_of all o.limits
