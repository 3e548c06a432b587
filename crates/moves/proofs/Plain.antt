-- What comes of each event, with the rules that cannot apply to it left out; and what the rules make of an outcome that
-- has said something already.
use Rattle.std.proofs.Common.{◌≡◌, ℕ, suc, Bool, true, false, cond, not, ◌&&◌, eqb, leb, List, [], ◌∷◌, ◌++◌, refl, ap}
use Rattle.std.proofs.Common.{◌∙◌, arith}
use Rattle.std.proofs.lemmas.Bool.{and_left, ne_eqb, cond-false, cond_both}
use Rattle.protocol.specs.Vote.{next, Vote, Limits, has_quorum}
use Rattle.protocol.specs.Member.{Member, Outcome, got_vote, got_block, timeout, silent, with_vote, with_blocks}
use Rattle.protocol.specs.Member.{add_block, at_step, chosen, say, say_soft, soft_value, next_vote, onward, onward_all}
use Rattle.protocol.specs.Member.{say_cert, certainly, agree, settle, does}
use Rattle.safety.proofs.Single.{gone_on}

-- NOTHING SAID LEADS ON

-- no vote of the list is one to go on
abbrev pub Calm : Limits → List Vote → Type 0
Calm l vs = (d : Outcome) → onward_all l vs d ≡ d

onward_all-append : (l : Limits) (us vs : List Vote) (d : Outcome) →
    onward_all l (us ++ vs) d ≡ onward_all l vs (onward_all l us d)
unfolding onward_all
onward_all-append l [] vs d = refl
onward_all-append l (u ∷ us) vs d = onward_all-append l us vs (onward l u d)

abbrev Settled : Limits → Outcome → Type 0
Settled l d = onward_all l d.out d ≡ d

cert_settled : (l : Limits) (d : Outcome) (xs : List ℕ) → Calm l d.out → Settled l (say_cert xs d)
unfolding onward_all say_cert
cert_settled l d [] calm = calm d
cert_settled l d (x ∷ xs) calm = onward_all-append l d.out _ _ ∙ calm _

pub settle_calm : (l : Limits) (d : Outcome) → Calm l d.out → settle l d ≡ agree l (certainly l d)
settle_calm l d calm =
    ap (agree l)
    (cond_both (eqb d.member.step 1 && not d.member.certain) (say_cert (chosen l d.member) d) d (Settled l)
    (λ _. cert_settled l d (chosen l d.member) calm) (λ _. calm d))

-- AFTER A VOTE, AFTER A BLOCK

onward-silent : (l : Limits) (v : Vote) (m : Member) → (onward l v (silent m)).out ≡ []
onward-silent l v m = cond_both _ _ (silent m) (λ d. d.out ≡ []) (λ _. refl) (λ _. refl)

calm_none : (l : Limits) (vs : List Vote) → vs ≡ [] → Calm l vs
unfolding onward_all
calm_none l vs e d = rw e

pub vote_plain : (l : Limits) (m : Member) (v : Vote) →
    does l m (got_vote v) ≡ agree l (certainly l (onward l v (silent (with_vote v m))))
unfolding does
vote_plain l m v =
    let d : Outcome = onward l v (silent (with_vote v m)) in
    settle_calm l d (calm_none l d.out (onward-silent l v (with_vote v m)))

pub block_plain : (l : Limits) (m : Member) (x : ℕ) →
    does l m (got_block x) ≡ agree l (certainly l (silent (with_blocks (add_block x m.blocks) m)))
unfolding does
block_plain l m x = settle_calm l (silent (with_blocks (add_block x m.blocks) m)) (calm_none l [] refl)

-- WHEN TIME IS UP

-- at a step that is known
abbrev Timed : Limits → Member → ℕ → Outcome
Timed l m n =
    settle l (cond (eqb n 0) (say_soft (soft_value m) (silent (at_step 1 m)))
    (say (next_vote m (suc n) (chosen l m)) (silent (at_step (suc n) m))))

soft_calm : (l : Limits) (xs : List ℕ) (m : Member) → Calm l (say_soft xs (silent m)).out
unfolding onward_all say_soft
soft_calm l [] m d = refl
soft_calm l (x ∷ xs) m d = refl

pub first_plain : (l : Limits) (m : Member) → m.step ≡ 0 →
    does l m timeout ≡ agree l (certainly l (say_soft (soft_value m) (silent (at_step 1 m))))
unfolding does
first_plain l m e =
    ap (Timed l m) e
    ∙ settle_calm l (say_soft (soft_value m) (silent (at_step 1 m))) (soft_calm l (soft_value m) (at_step 1 m))

pub not_certain : (l : Limits) (d : Outcome) → (d.member.step ≡ 1 → ⊥) → certainly l d ≡ d
not_certain l d other = cond-false _ _ d (and_left _ _ (ne_eqb _ _ other))

-- from step 2 on it is not certain, and goes on if its own vote makes a quorum
pub later_plain : (l : Limits) (m : Member) (s : ℕ) → m.step ≡ suc s →
    does l m timeout
    ≡ agree l (onward l (next_vote m (suc (suc s)) (chosen l m))
    (say (next_vote m (suc (suc s)) (chosen l m)) (silent (at_step (suc (suc s)) m))))
unfolding does onward_all
later_plain l m s e =
    let d : Outcome = say (next_vote m (suc (suc s)) (chosen l m)) (silent (at_step (suc (suc s)) m)) in
    ap (Timed l m) e
    ∙ ap (settle l) (cond-false (eqb (suc s) 0) _ d (ne_eqb _ _ (omega arith)))
    ∙ ap (λ (f : Outcome). agree l (onward_all l f.out f)) (not_certain l d (omega arith))

-- WHAT WAS SAID BEFORE STANDS BEFORE

cert-member : (xs : List ℕ) (m : Member) (o : List Vote) →
    (say_cert xs (record { member = m; out = o })).member ≡ (say_cert xs (silent m)).member
unfolding say_cert
cert-member [] m o = refl
cert-member (x ∷ xs) m o = refl

append-none : (o : List Vote) → o ≡ o ++ []
append-none [] = refl
append-none (v ∷ vs) = ap (λ ws. v ∷ ws) (append-none vs)

cert-out : (xs : List ℕ) (m : Member) (o : List Vote) →
    (say_cert xs (record { member = m; out = o })).out ≡ o ++ (say_cert xs (silent m)).out
unfolding say_cert
cert-out [] m o = append-none o
cert-out (x ∷ xs) m o = refl

pub certainly-member : (l : Limits) (m : Member) (o : List Vote) →
    (certainly l (record { member = m; out = o })).member ≡ (certainly l (silent m)).member
certainly-member l m o = go (eqb m.step 1 && not m.certain)
  where
    said : Outcome
    said = record { member = m; out = o }

    go : (b : Bool) →
        (cond b (say_cert (chosen l m) said) said).member ≡ (cond b (say_cert (chosen l m) (silent m))
        (silent m)).member
    go true = cert-member (chosen l m) m o
    go false = refl

pub certainly-out : (l : Limits) (m : Member) (o : List Vote) →
    (certainly l (record { member = m; out = o })).out ≡ o ++ (certainly l (silent m)).out
certainly-out l m o = go (eqb m.step 1 && not m.certain)
  where
    said : Outcome
    said = record { member = m; out = o }

    go : (b : Bool) →
        (cond b (say_cert (chosen l m) said) said).out ≡ o ++ (cond b (say_cert (chosen l m) (silent m)) (silent m)).out
    go true = cert-out (chosen l m) m o
    go false = append-none o

pub onward-member : (l : Limits) (v : Vote) (m : Member) (o : List Vote) →
    (onward l v (record { member = m; out = o })).member ≡ (onward l v (silent m)).member
onward-member l v m o =
    go ((leb next v.kind && leb m.period v.period)
    && has_quorum l v.kind v.period v.step v.value m.votes)
  where
    said : Outcome
    said = record { member = m; out = o }

    go : (b : Bool) → (cond b (gone_on v said) said).member ≡ (cond b (gone_on v (silent m)) (silent m)).member
    go true = refl
    go false = refl

pub onward-out : (l : Limits) (v : Vote) (m : Member) (o : List Vote) →
    (onward l v (record { member = m; out = o })).out ≡ o
onward-out l v m o =
    cond_both {A = Outcome} _ _ (record { member = m; out = o }) (λ d. d.out ≡ o) (λ _. refl) (λ _. refl)

pub agree-member : (l : Limits) (d e : Outcome) → d.member ≡ e.member → (agree l d).member ≡ (agree l e).member
agree-member l d e same = ap (λ (m : Member). (agree l (silent m)).member) same
