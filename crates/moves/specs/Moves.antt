-- Words of the contracts of a member's moves. Assumes nothing: these are definitions.
use Rattle.std.specs.Prelude.{◌≡◌, ℕ, suc, Bool, true, false, cond, ◌&&◌, List, [], ◌∷◌, Some, None, Option, nat_le}
use Rattle.protocol.specs.Vote as protocol
use Rattle.protocol.specs.Vote.{cert, slot_taken, has_quorum}
use Rattle.protocol.specs.Member.{is_some, own, in_period, vote_in_range, certified_in, agree_on, having_agreed}
use Rattle.protocol.specs.Member.{silent, with_vote, at_step, soft_value, say_soft, chosen, next_vote}
use Rattle.protocol.specs.Member as protocol_member
use Rattle.values.specs.declared.value.Value.{Value}
use Rattle.values.specs.Values.{value_of}
use Rattle.wire.specs.declared.votes.Vote.{Vote}
use Rattle.wire.specs.declared.votes.Kind.{Kind}
use Rattle.wire.specs.declared.votes.Kind.TheVariants.{Soft, Cert, Next, NextNone}
use Rattle.wire.specs.Meaning.{vote_of}
use Rattle.tally.specs.Votes.{certified_by}
use Rattle.moves.specs.Stands.{Stands}
use Rattle.moves.specs.declared.state.Member.{Member}

-- the protocol's member
abbrev pub OfMember : Type 0
OfMember = protocol_member.Member

-- a move leaves a member's limits and number
pub record Same (x y : Member) : Type 0 where
  pub limits : y.limits ≡ x.limits
  pub me : y.me ≡ x.me

-- a vote that may be missing as none or one of the protocol's
abbrev pub voted : Option Vote → List protocol.Vote
voted None = []
voted (Some v) = vote_of v ∷ []

-- a vote that may be missing is in range
abbrev pub InRange : protocol.Limits → Option Vote → Type 0
InRange l None = Unit {0}
InRange l (Some v) = vote_in_range l (vote_of v) ≡ true

-- a vote of a member's own, in its period
abbrev pub own_vote : Member → ℕ → ℕ → ℕ → protocol.Vote
own_vote x k s v = record { kind = k; period = x.period; step = s; value = v; from = x.me }

-- its slot for being certain is free, where it may come to that
abbrev pub MayBeCertain : OfMember → Type 0
MayBeCertain m = (x : ℕ) → m.step ≡ 1 → m.certain ≡ false → slot_taken (own m cert 0 x) m.votes ≡ false

-- onward with this start, if the vote is of the member's period or a later one and has a quorum
abbrev pub on_to : protocol.Limits → protocol.Vote → List ℕ → Bool → OfMember → OfMember
on_to l v start free m =
    cond (nat_le m.period v.period && has_quorum l v.kind v.period v.step v.value m.votes)
    (in_period (suc v.period) start free m) m

-- if it has not agreed and this is a cert vote with a quorum whose block is here, it agrees on its value
abbrev pub agree_by : protocol.Limits → protocol.Vote → OfMember → OfMember
agree_by l v m = cond (is_some m.agreed) m (agree_on (certified_in l (v ∷ []) m.votes m.blocks) m)

unfoldable pub agree_each : protocol.Limits → List protocol.Vote → OfMember → OfMember
agree_each l [] m = m
agree_each l (v ∷ vs) m = agree_each l vs (agree_by l v m)

-- if it has not agreed and in some period a quorum is certain of this value, it agrees on it
abbrev pub agree_block : protocol.Limits → ℕ → OfMember → OfMember
agree_block l x m = cond (is_some m.agreed) m (cond (certified_by l x l.periods m.votes) (having_agreed x m) m)

-- WHEN TIME IS UP

-- a kind and a value to go on with: a value, or none
abbrev pub GoesOn : Kind → Value → Type 0
GoesOn Soft x = ⊥
GoesOn Cert x = ⊥
GoesOn Next x = Unit {0}
GoesOn NextNone x = value_of x ≡ 0

-- the member and its memory after its soft vote, if it said one
pub record SaidSoft (x : Member) (mem : List ℕ) (said : Option Vote) (m : OfMember) : Type 0 where
  pub stands : Stands x mem (say_soft (soft_value m) (silent (at_step 1 m))).member
  pub out : voted said ≡ (say_soft (soft_value m) (silent (at_step 1 m))).out

-- and after a vote to go on
pub record SaidNext (l : protocol.Limits) (x : Member) (mem : List ℕ) (said : Vote) (m : OfMember) : Type 0 where
  pub stands : Stands x mem (with_vote (next_vote m (suc m.step) (chosen l m)) (at_step (suc m.step) m))
  pub vote : vote_of said ≡ next_vote m (suc m.step) (chosen l m)
