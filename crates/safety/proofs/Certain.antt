-- When a member is certain: it said so in this period, and at step 1 it says so as soon as a value is chosen.
use Rattle.std.proofs.Common.{◌≡◌, ℕ, suc, true, false, not, ◌&&◌, eqb, List, [], ◌∷◌, refl, arith}
use Rattle.std.proofs.lemmas.Bool.{and_from, eq-eqb, both_ways, not_from_false}
use Rattle.protocol.specs.Vote.{cert, Vote, Limits}
use Rattle.protocol.specs.Member.{Member, Event, got_vote, got_proposal, got_block, timeout, unreadable, Outcome}
use Rattle.protocol.specs.Member.{silent, own, with_vote, with_blocks, add_block, at_step, is_some, chosen, chosen_in}
use Rattle.protocol.specs.Member.{certified, say, say_soft, soft_value, next_vote, on_timeout, onward, onward_all}
use Rattle.protocol.specs.Member.{say_cert, certainly, agree_on, settle, does, refusal, not_refused}
use Rattle.protocol.specs.Programs.{member_after}
use Rattle.safety.proofs.Votes.{In, in_here, in_later}
use Rattle.safety.proofs.Single.{Rules, onward_all_keeps, settle_keeps, either, onward_keeps}

-- IT SAID SO

abbrev pub CertainSaid : Member → Type 0
CertainSaid m = m.certain ≡ true → (x : ℕ) × In (own m cert 0 x) m.votes

abbrev SaidIt : Outcome → Type 0
SaidIt d = CertainSaid d.member

said_more : (v : Vote) (m : Member) → CertainSaid m → CertainSaid (with_vote v m)
said_more v m k c = let (x, at) = k c in (x, in_later _ v m.votes at)

said_rules : (l : Limits) → Rules l SaidIt
unfolding say_cert agree_on
said_rules l =
    record {
      by_onward = λ v d k. onward_keeps l SaidIt v d (λ _ _ _ c. absurd (both_ways false refl c)) k;
      by_certainly = λ d k. either SaidIt _ _ d (λ _. cert_keeps (chosen l d.member) d k) (λ _. k);
      by_agree = λ d k.
          either CertainSaid (is_some d.member.agreed) d.member (agree_on (certified l d.member) d.member)
          (λ _. k) (λ _. agree_keeps (certified l d.member) d.member k);
    }
  where
    cert_keeps : (xs : List ℕ) (d : Outcome) → SaidIt d → SaidIt (say_cert xs d)
    cert_keeps [] d k = k
    cert_keeps (x ∷ xs) d k = λ _. (x, in_here (own d.member cert 0 x) d.member.votes)

    agree_keeps : (xs : List ℕ) (m : Member) → CertainSaid m → CertainSaid (agree_on xs m)
    agree_keeps [] m k = k
    agree_keeps (x ∷ xs) m k = k

said-soft : (xs : List ℕ) (d : Outcome) → SaidIt d → SaidIt (say_soft xs d)
unfolding say_soft
said-soft [] d k = k
said-soft (x ∷ xs) d k = said_more _ d.member k

does-said : (l : Limits) (m : Member) (e : Event) → CertainSaid m → CertainSaid (does l m e).member
unfolding does
does-said l m (got_vote v) k =
    settle_keeps l SaidIt (said_rules l) (onward l v (silent (with_vote v m)))
    ((said_rules l).by_onward v (silent (with_vote v m)) (said_more v m k))
does-said l m (got_proposal o) k = k
does-said l m (got_block x) k =
    settle_keeps l SaidIt (said_rules l) (silent (with_blocks (add_block x m.blocks) m)) k
does-said l m timeout k =
    settle_keeps l SaidIt (said_rules l) (on_timeout l m)
    (either SaidIt (eqb m.step 0) (say_soft (soft_value m) (silent (at_step 1 m)))
    (say (next_vote m (suc m.step) (chosen l m)) (silent (at_step (suc m.step) m)))
    (λ _. said-soft (soft_value m) (silent (at_step 1 m)) k)
    (λ _. said_more (next_vote m (suc m.step) (chosen l m)) (at_step (suc m.step) m) k))
does-said l m (unreadable n) k = k

pub member_after-said : (l : Limits) (i : ℕ) (es : List Event) → CertainSaid (member_after l i es)
unfolding member_after
member_after-said l i [] = λ c. absurd (both_ways false refl c)
member_after-said l i (e ∷ es) =
    let m : Member = member_after l i es in
    either CertainSaid (eqb (refusal l m e) not_refused) (does l m e).member m
    (λ _. does-said l m e (member_after-said l i es)) (λ _. member_after-said l i es)

-- IT SAYS SO AT ONCE

abbrev pub NothingChosen : Limits → Member → Type 0
NothingChosen l m = m.step ≡ 1 → m.certain ≡ false → chosen l m ≡ []

abbrev SaidAtOnce : Limits → Outcome → Type 0
SaidAtOnce l d = NothingChosen l d.member

certainly-says : (l : Limits) (d : Outcome) → SaidAtOnce l (certainly l d)
unfolding say_cert
certainly-says l d =
    either (SaidAtOnce l) (eqb d.member.step 1 && not d.member.certain) (say_cert (chosen l d.member) d) d
    (λ _. says (chosen l d.member) refl)
    (λ no_time one not_yet. absurd (both_ways _ no_time (and_from _ _ (eq-eqb _ _ one) (not_from_false _ not_yet))))
  where
    says : (xs : List ℕ) → chosen l d.member ≡ xs → SaidAtOnce l (say_cert xs d)
    says [] e = λ _ _. e
    says (x ∷ xs) e = λ _ not_yet. absurd (both_ways true not_yet refl)

at_once_rules : (l : Limits) → Rules l (SaidAtOnce l)
unfolding agree_on
at_once_rules l =
    record {
      by_onward = λ v d k. onward_keeps l (SaidAtOnce l) v d (λ _ _ _ one. absurd (omega arith)) k;
      by_certainly = λ d k. certainly-says l d;
      by_agree = λ d k.
          either (NothingChosen l) (is_some d.member.agreed) d.member
          (agree_on (certified l d.member) d.member)
          (λ _. k) (λ _. agree_keeps (certified l d.member) d.member k);
    }
  where
    agree_keeps : (xs : List ℕ) (m : Member) → NothingChosen l m → NothingChosen l (agree_on xs m)
    agree_keeps [] m k = k
    agree_keeps (x ∷ xs) m k = k

settle-says : (l : Limits) (d : Outcome) → SaidAtOnce l (settle l d)
settle-says l d =
    let e : Outcome = certainly l d in
    (at_once_rules l).by_agree (onward_all l e.out e)
    (onward_all_keeps l (SaidAtOnce l) (at_once_rules l) e.out e (certainly-says l d))

does-says : (l : Limits) (m : Member) (e : Event) → NothingChosen l m → NothingChosen l (does l m e).member
unfolding does
does-says l m (got_vote v) k = settle-says l (onward l v (silent (with_vote v m)))
does-says l m (got_proposal o) k = k
does-says l m (got_block x) k = settle-says l (silent (with_blocks (add_block x m.blocks) m))
does-says l m timeout k = settle-says l (on_timeout l m)
does-says l m (unreadable n) k = k

pub member_after-says : (l : Limits) (i : ℕ) (es : List Event) → NothingChosen l (member_after l i es)
unfolding member_after chosen_in
member_after-says l i [] = λ _ _. refl
member_after-says l i (e ∷ es) =
    let m : Member = member_after l i es in
    either (NothingChosen l) (eqb (refusal l m e) not_refused) (does l m e).member m
    (λ _. does-says l m e (member_after-says l i es)) (λ _. member_after-says l i es)
