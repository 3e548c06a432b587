-- When a member agrees, by one vote or one block.
use Rattle.std.proofs.Common.{◌≡◌, ℕ, Bool, true, false, cond, ◌&&◌, eqb, List, [], ◌∷◌, is_some as option_is_some}
use Rattle.std.proofs.Common.{Some, None, Option, sym, refl, ap, ◌∙◌, ap₂, arith}
use Rattle.std.proofs.lemmas.Bool.{and_from, and_left, and_right, eq-eqb, ne_eqb, cond-true, cond-false}
use Rattle.protocol.specs.Vote.{cert, Vote, Limits, has_quorum}
use Rattle.protocol.specs.Member.{is_some, is_in, Member, vote_in_range, certified_in, agree_on, having_agreed}
use Rattle.protocol.proofs.Ranges.{ranged}
use Rattle.values.specs.declared.value.Value.{Value}
use Rattle.cells.specs.Cells.{listed}
use Rattle.tally.specs.Votes.{certified_by}
use Rattle.wire.specs.declared.votes.Vote as code
use Rattle.wire.specs.Meaning.{vote_of}
use Rattle.moves.specs.Moves.{voted, agree_by, agree_each, agree_block}

pub listed_some : (o : Option Value) → is_some (listed o) ≡ option_is_some o
unfolding is_some
listed_some None = refl
listed_some (Some v) = refl

-- whether a member has agreed, by what the code has
pub has_agreed : (o : Option Value) (xs : List ℕ) → listed o ≡ xs → is_some xs ≡ option_is_some o
has_agreed o xs e = ap is_some (sym e) ∙ listed_some o

module _ (l : Limits) (v : Vote) (m : Member) where
  abbrev certifies : Bool
  certifies = eqb v.kind cert && (has_quorum l cert v.period 0 v.value m.votes && is_in v.value m.blocks)

  -- one that has agreed keeps to it
  pub by_agreed : is_some m.agreed ≡ true → agree_by l v m ≡ m
  by_agreed h = cond-true _ _ _ h

  by_nothing : certifies ≡ false → agree_by l v m ≡ m
  unfolding certified_in agree_on
  by_nothing h =
      either (is_some m.agreed) (ap (λ (xs : List ℕ). agree_on xs m) (cond-false certifies (v.value ∷ []) [] h))
    where
      either : (b : Bool) {y : Member} → y ≡ m → cond b m y ≡ m
      either true e = refl
      either false e = e

  pub by_another_kind : (v.kind ≡ cert → ⊥) → agree_by l v m ≡ m
  by_another_kind h = by_nothing (and_left _ _ (ne_eqb v.kind cert h))

  pub by_too_few : has_quorum l cert v.period 0 v.value m.votes ≡ false → agree_by l v m ≡ m
  by_too_few h = by_nothing (and_right (eqb v.kind cert) _ (and_left _ _ h))

  pub by_no_block : is_in v.value m.blocks ≡ false → agree_by l v m ≡ m
  by_no_block h =
      by_nothing (and_right (eqb v.kind cert) _ (and_right (has_quorum l cert v.period 0 v.value m.votes) _ h))

  pub by_agrees : is_some m.agreed ≡ false → v.kind ≡ cert → has_quorum l cert v.period 0 v.value m.votes ≡ true →
      is_in v.value m.blocks ≡ true → agree_by l v m ≡ having_agreed v.value m
  unfolding certified_in agree_on
  by_agrees none kind quorum block =
      cond-false (is_some m.agreed) m (agree_on (certified_in l (v ∷ []) m.votes m.blocks) m) none
      ∙ ap (λ (xs : List ℕ). agree_on xs m)
      (cond-true certifies (v.value ∷ []) [] (and_from _ _ (eq-eqb v.kind cert kind) (and_from _ _ quorum block)))

-- a quorum for a cert vote in range is one of its slot
pub cert-quorum : (l : Limits) (v : Vote) (vs : List Vote) → vote_in_range l v ≡ true → v.kind ≡ cert →
    has_quorum l v.kind v.period v.step v.value vs ≡ has_quorum l cert v.period 0 v.value vs
cert-quorum l v vs range kind =
    ap₂ (λ (k s : ℕ). has_quorum l k v.period s v.value vs) kind ((ranged l v range).first_step (omega arith))

-- by the votes said: none, or one
pub each_none : (l : Limits) (m : Member) (o : Option code.Vote) → o ≡ None → agree_each l (voted o) m ≡ m
unfolding agree_each
each_none l m o e = ap (λ (p : Option code.Vote). agree_each l (voted p) m) e

pub each_one : (l : Limits) (m : Member) (o : Option code.Vote) (v : code.Vote) → o ≡ Some v →
    agree_each l (voted o) m ≡ agree_by l (vote_of v) m
unfolding agree_each
each_one l m o v e = ap (λ (p : Option code.Vote). agree_each l (voted p) m) e

module _ (l : Limits) (x : ℕ) (m : Member) where
  pub block_agreed : is_some m.agreed ≡ true → agree_block l x m ≡ m
  block_agreed h = cond-true _ _ _ h

  pub block_nothing : certified_by l x l.periods m.votes ≡ false → agree_block l x m ≡ m
  block_nothing h = either (is_some m.agreed) (cond-false _ _ _ h)
    where
      either : (b : Bool) {y : Member} → y ≡ m → cond b m y ≡ m
      either true e = refl
      either false e = e

  pub block_agrees : is_some m.agreed ≡ false → certified_by l x l.periods m.votes ≡ true →
      agree_block l x m ≡ having_agreed x m
  block_agrees none h = cond-false _ _ _ none ∙ cond-true _ _ _ h
