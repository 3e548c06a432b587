-- A member that stands in its memory, after a change of one part.
use Rattle.std.proofs.Common.{◌≡◌, ℕ, List, ◌∷◌, sym, refl, ap, ◌∙◌, subst}
use Rattle.protocol.specs.Promises.{all}
use Rattle.protocol.specs.Vote as protocol
use Rattle.protocol.specs.Vote.{Vote, Proposal}
use Rattle.protocol.specs.Member.{Member, with_vote, with_proposals}
use Rattle.limits.specs.Limits.{limits_of}
use Rattle.limits.specs.declared.bounds.Limits.{Limits}
use Rattle.tally.specs.Votes.{Holds}
use Rattle.cells.specs.Proposals.{Proposes}
use Rattle.cells.specs.Blocks.{blocks_in}
use Rattle.moves.specs.Moves.{Same}
use Rattle.moves.specs.Parts.{Part, part, of_header, of_votes, of_proposals, of_blocks, OnlyIn}
use Rattle.moves.specs.Stands.{lim, Stands}
use Rattle.moves.specs.declared.state.Member as code

module _ (x : code.Member) (mem new : List ℕ) (m : Member) (h : Stands x mem m) where
  -- with the votes and proposals that its memory has now, where the blocks stayed
  stands : (vs : List Vote) (os : List Proposal) → Holds (lim x) (part of_votes (lim x) new) vs →
      Proposes (lim x) (part of_proposals (lim x) new) os →
      part of_blocks (lim x) new ≡ part of_blocks (lim x) mem →
      Stands x new (record m { votes = vs; proposals = os })
  stands vs os votes proposals blocks = record {
    me = h.me;
    period = h.period;
    step = h.step;
    start = h.start;
    free = h.free;
    certain = h.certain;
    agreed = h.agreed;
    votes = votes;
    proposals = proposals;
    blocks = ap (λ (xs : List ℕ). blocks_in xs x.blocks) blocks ∙ h.blocks;
  }

  pub votes_stay : part of_votes (lim x) new ≡ part of_votes (lim x) mem →
      Holds (lim x) (part of_votes (lim x) new) m.votes
  votes_stay same = subst (λ (xs : List ℕ). Holds (lim x) xs m.votes) (sym same) h.votes

  pub proposals_stay : part of_proposals (lim x) new ≡ part of_proposals (lim x) mem →
      Proposes (lim x) (part of_proposals (lim x) new) m.proposals
  proposals_stay same = subst (λ (xs : List ℕ). Proposes (lim x) xs m.proposals) (sym same) h.proposals

  -- it heard a vote
  pub heard : (v : Vote) → Holds (lim x) (part of_votes (lim x) new) (v ∷ m.votes) → OnlyIn of_votes (lim x) mem new →
      Stands x new (with_vote v m)
  heard v votes only =
      stands (v ∷ m.votes) m.proposals votes (proposals_stay (only of_proposals refl)) (only of_blocks refl)

  -- it keeps proposals
  pub kept_best : (os : List Proposal) → Proposes (lim x) (part of_proposals (lim x) new) os →
      OnlyIn of_proposals (lim x) mem new →
      Stands x new (with_proposals os m)
  kept_best os proposals only = stands m.votes os (votes_stay (only of_votes refl)) proposals (only of_blocks refl)

  -- its header was written
  pub headed : OnlyIn of_header (lim x) mem new → Stands x new m
  headed only =
      stands m.votes m.proposals (votes_stay (only of_votes refl)) (proposals_stay (only of_proposals refl))
      (only of_blocks refl)

-- a member with the same limits asks for the same of its memory
module _ (x y : code.Member) (same : Same x y) where
  pub same_lim : lim y ≡ lim x
  same_lim = ap (limits_of all) same.limits

  pub same_only : (p : Part) (mem new : List ℕ) → OnlyIn p (lim y) mem new → OnlyIn p (lim x) mem new
  same_only p mem new h = subst (λ (l : Limits). OnlyIn p (limits_of all l) mem new) same.limits h

-- one change after another of one part
pub only_twice : (p : Part) (l : protocol.Limits) (a b c : List ℕ) → OnlyIn p l a b → OnlyIn p l b c → OnlyIn p l a c
only_twice p l a b c f g q other = g q other ∙ f q other

pub same_twice : (x y z : code.Member) → Same x y → Same y z → Same x z
same_twice x y z f g = record { limits = g.limits ∙ f.limits; me = g.me ∙ f.me }
