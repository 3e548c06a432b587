-- The moves after an event, one after the other, are what the protocol makes of it.
use Rattle.std.proofs.Common.{◌≡◌, ℕ, suc, true, false, ◌&&◌, eqb, List, [], ◌∷◌, ◌++◌, Option, sym, refl, ap, ◌∙◌}
use Rattle.std.proofs.Common.{subst, ap₂, arith}
use Rattle.std.proofs.lemmas.Bool.{or_from, and_right, ne_eqb, cond_both}
use Rattle.protocol.specs.Vote.{soft, cert, next, next_none, Vote, Limits, same_slot, slot_taken}
use Rattle.protocol.specs.Member.{Member, got_vote, got_block, timeout, own, silent, with_vote, with_blocks, at_step}
use Rattle.protocol.specs.Member.{add_block, chosen, onward, certainly, soft_value, say_soft, next_vote, first_or_zero}
use Rattle.protocol.specs.Member.{does}
use Rattle.tally.specs.Votes.{all_in_range}
use Rattle.wire.specs.declared.votes.Vote as code-vote
use Rattle.wire.specs.Meaning.{vote_of}
use Rattle.moves.specs.Events.{Ready, Did}
use Rattle.moves.specs.Moves.{voted, MayBeCertain, agree_by, agree_each, agree_block, SaidSoft, SaidNext}
use Rattle.moves.specs.Stands.{lim, Stands}
use Rattle.moves.specs.declared.state.Member as code
use Rattle.moves.proofs.Arrive.{vote-out, vote-member, supplied, block_out, block_member, first_said, first_out}
use Rattle.moves.proofs.Arrive.{first_member, later_out, later_member}
use Rattle.moves.proofs.Onward.{goes, gone, by_its_kind}

-- another vote in front leaves a slot free that is not its own
pub free_behind : (w v : Vote) (vs : List Vote) → (same_slot w v && eqb w.from v.from) ≡ false →
    slot_taken w vs ≡ false →
    slot_taken w (v ∷ vs) ≡ false
unfolding slot_taken
free_behind w v vs h k = or_from _ _ h k

-- after a vote of another member it may still come to be certain
pub may_vote : (l : Limits) (m : Member) (v : Vote) → Ready l m → (v.from ≡ m.me → ⊥) →
    MayBeCertain (onward l v (silent (with_vote v m))).member
may_vote l m v ready other =
    subst MayBeCertain (sym (by_its_kind l v (with_vote v m)))
    (cond_both (goes l v (with_vote v m) v.kind) (gone l v (with_vote v m) v.kind) (with_vote v m) MayBeCertain
    (λ e x step certain. absurd (omega (arith, step)))
    (λ e x step certain.
    free_behind (own m cert 0 x) v m.votes (and_right _ _ (ne_eqb m.me v.from (λ h. other (sym h))))
    (ready.fresh.cert_slot x certain)))

-- a move by a member whose limits are l
module _ (l : Limits) (y z : code.Member) (e : lim y ≡ l) (mem new : List ℕ) where
  certain_at : (said : Option code-vote.Vote) (m : Member) →
      (Stands z new (certainly (lim y) (silent m)).member) × (voted said ≡ (certainly (lim y) (silent m)).out) →
      (Stands z new (certainly l (silent m)).member) × (voted said ≡ (certainly l (silent m)).out)
  certain_at said m h =
      subst (λ (k : Limits). (Stands z new (certainly k (silent m)).member)
      × (voted said ≡ (certainly k (silent m)).out)) e h

  each_at : (vs ws : List Vote) (m : Member) → vs ≡ ws → Stands z new (agree_each (lim y) vs m) →
      Stands z new (agree_each l ws m)
  each_at vs ws m same h =
      subst (λ (us : List Vote). Stands z new (agree_each l us m)) same
      (subst (λ (k : Limits). Stands z new (agree_each k vs m)) e h)

  by_at : (v : Vote) (m : Member) → Stands z new (agree_by (lim y) v m) → Stands z new (agree_by l v m)
  by_at v m h = subst (λ (k : Limits). Stands z new (agree_by k v m)) e h

  block_at : (x : ℕ) (m : Member) → Stands z new (agree_block (lim y) x m) → Stands z new (agree_block l x m)
  block_at x m h = subst (λ (k : Limits). Stands z new (agree_block k x m)) e h

  on_at : (v w : Vote) (m : Member) → v ≡ w → Stands z new (onward (lim y) v (silent m)).member →
      Stands z new (onward l w (silent m)).member
  on_at v w m same h =
      subst (λ (u : Vote). Stands z new (onward l u (silent m)).member) same
      (subst (λ (k : Limits). Stands z new (onward k v (silent m)).member) e h)

-- what a call of `certainly`, `agree_by_own` and the others ensures
abbrev Certain : code.Member → List ℕ → code.Member → List ℕ → Option code-vote.Vote → Type 0
Certain y mem z new said =
    (m : Member) → Stands y mem m → MayBeCertain m →
    (Stands z new (certainly (lim y) (silent m)).member) × (voted said ≡ (certainly (lim y) (silent m)).out)

abbrev AgreedOwn : code.Member → code.Member → List ℕ → Option code-vote.Vote → Type 0
AgreedOwn y z mem said = (m : Member) → Stands y mem m → Stands z mem (agree_each (lim y) (voted said) m)

-- certain, and agreed by what was said of that
module _ (l : Limits) (y₁ y₂ y₃ : code.Member) (e₁ : lim y₁ ≡ l) (e₂ : lim y₂ ≡ l) (mem new : List ℕ)
    (said : Option code-vote.Vote)
    (certain : Certain y₁ mem y₂ new said) (agreed : AgreedOwn y₂ y₃ new said) (m : Member) (h : Stands y₁ mem m)
    (may : MayBeCertain m) where
  pub said-certain : voted said ≡ (certainly l (silent m)).out
  said-certain = (certain_at l y₁ y₂ e₁ mem new said m (certain m h may)).1

  pub then_agreed : Stands y₃ new (agree_each l (certainly l (silent m)).out (certainly l (silent m)).member)
  then_agreed =
      each_at l y₂ y₃ e₂ new new (voted said) (certainly l (silent m)).out (certainly l (silent m)).member said-certain
      (agreed _ (certain_at l y₁ y₂ e₁ mem new said m (certain m h may)).0)

-- A VOTE
pub vote_done : (x y₁ y₂ y₃ y₄ : code.Member) (e₁ : lim y₁ ≡ lim x) (e₂ : lim y₂ ≡ lim x) (e₃ : lim y₃ ≡ lim x)
    (mem new : List ℕ) (said : Option code-vote.Vote) (v : Vote) →
    ((m : Member) → Stands x mem m → Stands y₁ mem (onward (lim x) v (silent m)).member) →
    Certain y₁ mem y₂ new said → AgreedOwn y₂ y₃ new said →
    ((m : Member) → Stands y₃ new m → Stands y₄ new (agree_by (lim y₃) v m)) →
    (m : Member) → Ready (lim x) m → (v.from ≡ m.me → ⊥) → Stands x mem (with_vote v m) →
    Did y₄ new (voted said) (does (lim x) m (got_vote v))
vote_done x y₁ y₂ y₃ y₄ e₁ e₂ e₃ mem new said v on certain agreed by m ready other h =
    let l : Limits = lim x in
    let m₂ : Member = (onward l v (silent (with_vote v m))).member in
    let may : MayBeCertain m₂ = may_vote l m v ready other in
    record {
      stands = subst (λ (k : Member). Stands y₄ new k) (sym (vote-member l m v ready.open_minded ready.none))
          (by_at l y₃ y₄ e₃ new new v _
          (by _ (then_agreed l y₁ y₂ y₃ e₁ e₂ mem new said certain agreed m₂ (on _ h) may)));
      out = said-certain l y₁ y₂ y₃ e₁ e₂ mem new said certain agreed m₂ (on _ h) may ∙ sym (vote-out l m v);
    }

-- A BLOCK
pub block_done : (x y₁ y₂ y₃ y₄ : code.Member) (e₁ : lim y₁ ≡ lim x) (e₂ : lim y₂ ≡ lim x) (e₃ : lim y₃ ≡ lim x)
    (mem new : List ℕ) (said : Option code-vote.Vote) (v : ℕ) →
    Certain y₁ mem y₂ new said → AgreedOwn y₂ y₃ new said →
    ((m : Member) → Stands y₃ new m → Stands y₄ new (agree_block (lim y₃) v m)) →
    (m : Member) → Ready (lim x) m → Stands y₁ mem (with_blocks (add_block v m.blocks) m) →
    Did y₄ new (voted said) (does (lim x) m (got_block v))
block_done x y₁ y₂ y₃ y₄ e₁ e₂ e₃ mem new said v certain agreed by m ready h =
    let l : Limits = lim x in
    let m₂ : Member = with_blocks (add_block v m.blocks) m in
    let may : MayBeCertain m₂ = λ y step none. ready.fresh.cert_slot y none in
    let there : Stands y₂ new (supplied l m v).member = (certain_at l y₁ y₂ e₁ mem new said m₂ (certain m₂ h may)).0 in
    let range : all_in_range l (supplied l m v).member.votes ≡ true =
    subst (λ (k : Limits). all_in_range k (supplied l m v).member.votes ≡ true) e₂ there.votes.in_range in
    record {
      stands = subst (λ (k : Member). Stands y₄ new k)
          (sym (block_member l m v x.limits.some_member ready.open_minded ready.none range))
          (block_at l y₃ y₄ e₃ new new v _
          (by _ (then_agreed l y₁ y₂ y₃ e₁ e₂ mem new said certain agreed m₂ h may)));
      out = said-certain l y₁ y₂ y₃ e₁ e₂ mem new said certain agreed m₂ h may ∙ sym (block_out l m v);
    }

-- TIME
-- after its soft vote it may come to be certain
may_soft : (l : Limits) (m : Member) (xs : List ℕ) → Ready l m →
    MayBeCertain (say_soft xs (silent (at_step 1 m))).member
unfolding say_soft
may_soft l m [] ready y step none = ready.fresh.cert_slot y none
may_soft l m (x ∷ xs) ready y step none =
    free_behind (own m cert 0 y) (own m soft 0 x) m.votes refl (ready.fresh.cert_slot y none)

pub first_done : (x y₁ y₂ y₃ : code.Member) (e₁ : lim y₁ ≡ lim x) (e₂ : lim y₂ ≡ lim x)
    (mem new : List ℕ) (first said : Option code-vote.Vote) →
    Certain y₁ mem y₂ new said → AgreedOwn y₂ y₃ new said →
    (m : Member) → Ready (lim x) m → m.step ≡ 0 → SaidSoft y₁ mem first m →
    Did y₃ new (voted first ++ voted said) (does (lim x) m timeout)
first_done x y₁ y₂ y₃ e₁ e₂ mem new first said certain agreed m ready step h =
    let l : Limits = lim x in
    let may : MayBeCertain (first_said m).member = may_soft l m (soft_value m) ready in
    record {
      stands = subst (λ (k : Member). Stands y₃ new k) (sym (first_member l m step ready.open_minded ready.none))
          (then_agreed l y₁ y₂ y₃ e₁ e₂ mem new said certain agreed (first_said m).member h.stands may);
      out = ap₂ (λ (us vs : List Vote). us ++ vs) h.out
          (said-certain l y₁ y₂ y₃ e₁ e₂ mem new said certain agreed (first_said m).member h.stands may)
          ∙ sym (first_out l m step);
    }

-- the slot of its next vote to go on is free
pub next_slot : (l : Limits) (m : Member) (xs : List ℕ) → Ready l m →
    slot_taken (next_vote m (suc m.step) xs) m.votes ≡ false
unfolding next_vote
next_slot l m (x ∷ xs) ready = ready.fresh.step_slots next (suc m.step) x (omega arith) (omega arith)
next_slot l m [] ready =
    cond_both m.free (own m next_none (suc m.step) 0) (own m next (suc m.step) (first_or_zero m.start))
    (λ (w : Vote). slot_taken w m.votes ≡ false)
    (λ e. ready.fresh.step_slots next_none (suc m.step) 0 (omega arith) (omega arith))
    (λ e. ready.fresh.step_slots next (suc m.step) (first_or_zero m.start) (omega arith) (omega arith))

pub later_done : (x y₁ y₂ : code.Member) (e₁ : lim y₁ ≡ lim x) (mem : List ℕ) (vote : code-vote.Vote) →
    ((m : Member) → Stands y₁ mem m → Stands y₂ mem (onward (lim y₁) (vote_of vote) (silent m)).member) →
    (m : Member) (s : ℕ) → Ready (lim x) m → m.step ≡ suc s → SaidNext (lim x) y₁ mem vote m →
    Did y₂ mem (vote_of vote ∷ []) (does (lim x) m timeout)
later_done x y₁ y₂ e₁ mem vote on m s ready step h =
    let l : Limits = lim x in
    let v : Vote = next_vote m (suc (suc s)) (chosen l m) in
    let same : vote_of vote ≡ v = h.vote ∙ ap (λ (n : ℕ). next_vote m (suc n) (chosen l m)) step in
    let there : Stands y₁ mem (with_vote v (at_step (suc (suc s)) m)) =
    subst (λ (n : ℕ). Stands y₁ mem (with_vote (next_vote m (suc n) (chosen l m)) (at_step (suc n) m))) step h.stands in
    record {
      stands = subst (λ (k : Member). Stands y₂ mem k) (sym (later_member l m s step ready.open_minded ready.none))
          (on_at l y₁ y₂ e₁ mem mem (vote_of vote) v (with_vote v (at_step (suc (suc s)) m)) same (on _ there));
      out = ap (λ (w : Vote). w ∷ []) same ∙ sym (later_out l m s step);
    }
