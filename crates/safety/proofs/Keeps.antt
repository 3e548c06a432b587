-- What one member keeps, whatever comes: what it heard, what it said and why, and where it stands.
use Rattle.std.proofs.Common.{◌≡◌, ℕ, suc, ◌<◌, ◌≤◌, Bool, true, false, ◌⊎◌, List, [], ◌∷◌, refl, inl, arith}
use Rattle.std.proofs.lemmas.Bool.{both_ways}
use Rattle.protocol.specs.Vote.{soft, cert, next, next_none, Vote, Proposal, Limits, value_bound, has_quorum}
use Rattle.protocol.specs.Member.{Member, new_member, is_in}
use Rattle.protocol.specs.Network.{all_different}
use Rattle.protocol.proofs.Ranges.{Ranged}
use Rattle.safety.proofs.Votes.{In, in_none}
use Rattle.safety.proofs.Agreement.{CameWith, CameFree}
use Rattle.safety.proofs.Counting.{Fair}

-- THE PARTS

-- a quorum that it heard
abbrev pub Heard : Limits → List Vote → (k p s x : ℕ) → Type 0
Heard l vs k p s x = has_quorum l k p s x vs ≡ true

-- one place of a member: a slot, and to go on with a value and with none is one
pub record OnePlace (v w : Vote) : Type 0 where
  pub period : v.period ≡ w.period
  pub step : v.step ≡ w.step
  pub kind : (v.kind ≡ w.kind) ⊎ ((next ≤ v.kind) × (next ≤ w.kind))

-- why a vote was said, by what was heard
pub record Reason (l : Limits) (vs : List Vote) (v : Vote) : Type 0 where
  pub soft_because : v.kind ≡ soft → CameFree (Heard l vs) v.period ⊎ CameWith (Heard l vs) v.period v.value
  pub cert_because : v.kind ≡ cert → Heard l vs soft v.period 0 v.value
  pub next_because : v.kind ≡ next →
      Heard l vs soft v.period 0 v.value ⊎ CameWith (Heard l vs) v.period v.value
  pub none_because : v.kind ≡ next_none → CameFree (Heard l vs) v.period

-- a vote lies behind a place in the run
pub record Behind (period step : ℕ) (certain : Bool) (v : Vote) : Type 0 where
  pub not_later : v.period ≤ period
  pub soft_behind : v.kind ≡ soft → v.period ≡ period → 1 ≤ step
  pub cert_behind : v.kind ≡ cert → v.period ≡ period → (certain ≡ true) × (1 ≤ step)
  pub next_behind : next ≤ v.kind → v.period ≡ period → v.step ≤ step

-- how it came to its period
pub record Came (l : Limits) (vs : List Vote) (p : ℕ) (start : List ℕ) (free : Bool) : Type 0 where
  pub if_free : free ≡ true → (start ≡ []) × CameFree (Heard l vs) p
  pub else_with : free ≡ false → (x : ℕ) × (start ≡ x ∷ []) × CameWith (Heard l vs) p x × (x < value_bound)

-- all that was heard is fair and in range
pub record HeardWell (l : Limits) (vs : List Vote) : Type 0 where
  pub fair : Fair l.members vs
  pub in_range : (v : Vote) → In v vs → Ranged l v

-- what member i said: a reason for each, one vote in a place, and who is certain goes on so
pub record SaidWell (l : Limits) (i : ℕ) (vs : List Vote) : Type 0 where
  pub reason : (v : Vote) → In v vs → v.from ≡ i → Reason l vs v
  pub one_thing : (v w : Vote) → In v vs → In w vs → v.from ≡ i → w.from ≡ i → OnePlace v w → v ≡ w
  pub certain_on : (v w : Vote) → In v vs → In w vs → v.from ≡ i → w.from ≡ i →
      v.kind ≡ cert → next ≤ w.kind → v.period ≡ w.period → (w.kind ≡ next) × (w.value ≡ v.value)

-- what it agreed on: none, or one with its block and a quorum that is certain of it
abbrev pub Agreed : Limits → List Vote → List ℕ → List ℕ → Type 0
Agreed l vs bs xs =
    (xs ≡ []) ⊎ ((a p : ℕ) × (xs ≡ a ∷ []) × (is_in a bs ≡ true) × Heard l vs cert p 0 a)

-- proposals of values in range
abbrev pub Small : List Proposal → Type 0
Small [] = Unit {0}
Small (o ∷ os) = (o.value < value_bound) × Small os

-- where it stands is within the limits, or just past them
pub record Within (l : Limits) (period step : ℕ) : Type 0 where
  pub from_1 : 1 ≤ period
  pub periods : period ≤ suc l.periods
  pub steps : step ≤ suc l.steps

-- WHAT A MEMBER KEEPS
pub record Keeps (l : Limits) (i : ℕ) (m : Member) : Type 0 where
  pub me : m.me ≡ i
  pub within : Within l m.period m.step
  pub heard : HeardWell l m.votes
  pub own : SaidWell l i m.votes
  pub behind : (v : Vote) → In v m.votes → v.from ≡ i → Behind m.period m.step m.certain v
  pub came : Came l m.votes m.period m.start m.free
  -- of what it is certain in this period there is a quorum still, and the block
  pub certain_now : (v : Vote) → In v m.votes → v.from ≡ i → v.kind ≡ cert → v.period ≡ m.period →
      Heard l m.votes soft m.period 0 v.value × (is_in v.value m.blocks ≡ true)
  pub agreed : Agreed l m.votes m.blocks m.agreed
  pub proposals : Small m.proposals

pub new_keeps : (l : Limits) (i : ℕ) → Keeps l i (new_member i)
unfolding all_different
new_keeps l i =
    record {
      me = refl;
      within = record { from_1 = omega arith; periods = omega arith; steps = omega arith };
      heard = record {
        fair = record { different = refl; of_members = λ v h. absurd (in_none v h) };
        in_range = λ v h. absurd (in_none v h);
      };
      own = record {
        reason = λ v h. absurd (in_none v h);
        one_thing = λ v w h. absurd (in_none v h);
        certain_on = λ v w h. absurd (in_none v h);
      };
      behind = λ v h. absurd (in_none v h);
      came = record { if_free = λ _. (refl, inl refl); else_with = λ h. absurd (both_ways true h refl) };
      certain_now = λ v h. absurd (in_none v h);
      agreed = inl refl;
      proposals = tt;
    }
