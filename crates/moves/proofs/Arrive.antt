-- What comes of each event, with what it newly agrees on told by the votes and the block that are new.
use Rattle.std.proofs.Common.{◌≡◌, ℕ, suc, ◌≤◌, Bool, true, false, cond, not, ◌&&◌, eqb, List, [], ◌∷◌, ◌++◌, sym, refl}
use Rattle.std.proofs.Common.{ap, ◌∙◌, inl, inr}
use Rattle.std.proofs.lemmas.Bool.{and_left, cond-false, cond_both}
use Rattle.protocol.specs.Vote.{soft, cert, next, next_none, Vote, Limits}
use Rattle.protocol.specs.Member.{Member, Outcome, got_vote, got_block, timeout, is_some, is_in, silent, with_vote}
use Rattle.protocol.specs.Member.{with_blocks, add_block, at_step, having_agreed, own, chosen, certified_in, certified}
use Rattle.protocol.specs.Member.{say_soft, soft_value, first_or_zero, next_vote, onward, say_cert, certainly, agree_on}
use Rattle.protocol.specs.Member.{agree, does}
use Rattle.safety.proofs.Chosen.{is-certified, certified_at_most_one}
use Rattle.safety.proofs.Single.{onward_keeps}
use Rattle.tally.specs.Votes.{all_in_range, certified_by}
use Rattle.moves.specs.Moves.{agree_by, agree_each, agree_block}
use Rattle.moves.proofs.Plain.{vote_plain, block_plain, first_plain, later_plain, certainly-member, certainly-out}
use Rattle.moves.proofs.Plain.{onward-member, onward-out, agree-member}
use Rattle.moves.proofs.Newly.{certified_found, certified-new, certified_known, certified_block}

-- AGREEING ON EACH OF SOME VOTES

append_more : (us : List Vote) (v : Vote) (vs : List Vote) → (us ++ (v ∷ [])) ++ vs ≡ us ++ (v ∷ vs)
append_more [] v vs = refl
append_more (u ∷ us) v vs = ap (λ ws. u ∷ ws) (append_more us v vs)

each_append : (l : Limits) (us : List Vote) (v : Vote) (m : Member) →
    agree_each l (us ++ (v ∷ [])) m ≡ agree_by l v (agree_each l us m)
unfolding agree_each
each_append l [] v m = refl
each_append l (u ∷ us) v m = each_append l us v (agree_by l u m)

-- once it has agreed, that is that
each_agreed : (l : Limits) (vs : List Vote) (x : ℕ) (m : Member) →
    agree_each l vs (having_agreed x m) ≡ having_agreed x m
unfolding agree_each is_some
each_agreed l [] x m = refl
each_agreed l (v ∷ vs) x m = each_agreed l vs x m

-- before, one vote after the other is as all at once
each_on : (l : Limits) (vs : List Vote) (m : Member) → m.agreed ≡ [] →
    agree_each l vs m ≡ agree_on (certified_in l vs m.votes m.blocks) m
unfolding agree_each agree_on certified_in is_some
each_on l [] m e = refl
each_on l (v ∷ vs) m e =
    ap (λ (xs : List ℕ). agree_each l vs (cond (is_some xs) m (agree_on one m))) e
    ∙ go (is-certified l m.votes m.blocks v) (each_on l vs m e)
  where
    one : List ℕ
    one = certified_in l (v ∷ []) m.votes m.blocks

    rest : List ℕ
    rest = certified_in l vs m.votes m.blocks

    go : (b : Bool) → agree_each l vs m ≡ agree_on rest m →
        agree_each l vs (agree_on (cond b (v.value ∷ []) []) m) ≡ agree_on (cond b (v.value ∷ []) rest) m
    go true same = each_agreed l vs v.value m
    go false same = same

-- if it has not agreed, it agrees on the certified value
agree_open : (l : Limits) (m : Member) → m.agreed ≡ [] → (agree l (silent m)).member ≡ agree_on (certified l m) m
unfolding is_some
agree_open l m e = ap (λ (xs : List ℕ). cond (is_some xs) m (agree_on (certified l m) m)) e

-- and if nothing was certified before, only by the votes that are new
agree-new : (l : Limits) (m : Member) (ns vs : List Vote) → m.agreed ≡ [] → m.votes ≡ ns ++ vs →
    certified_in l vs vs m.blocks ≡ [] → (agree l (silent m)).member ≡ agree_each l ns m
agree-new l m ns vs e all before =
    agree_open l m e
    ∙ ap (λ (xs : List ℕ). agree_on xs m)
    (ap (λ (us : List Vote). certified_in l us us m.blocks) all
    ∙ certified-new l ns vs m.blocks before
    ∙ ap (λ (us : List Vote). certified_in l ns us m.blocks) (sym all))
    ∙ sym (each_on l ns m e)

-- WHAT THE RULES KEEP

-- a rule leaves the blocks and what was agreed on, and says `ns`
record Adds (ns : List Vote) (m n : Member) : Type 0 where
  votes : n.votes ≡ ns ++ m.votes
  blocks : n.blocks ≡ m.blocks
  agreed : n.agreed ≡ m.agreed

cert_adds : (xs : List ℕ) (m : Member) → Adds (say_cert xs (silent m)).out m (say_cert xs (silent m)).member
unfolding say_cert
cert_adds [] m = record { votes = refl; blocks = refl; agreed = refl }
cert_adds (x ∷ xs) m = record { votes = refl; blocks = refl; agreed = refl }

certainly_adds : (l : Limits) (m : Member) → Adds (certainly l (silent m)).out m (certainly l (silent m)).member
certainly_adds l m =
    cond_both (eqb m.step 1 && not m.certain) (say_cert (chosen l m) (silent m)) (silent m)
    (λ d. Adds d.out m d.member)
    (λ _. cert_adds (chosen l m) m) (λ _. record { votes = refl; blocks = refl; agreed = refl })

onward_adds : (l : Limits) (v : Vote) (m : Member) → Adds [] m (onward l v (silent m)).member
onward_adds l v m =
    onward_keeps l (λ d. Adds [] m d.member) v (silent m)
    (λ _ _ _. record { votes = refl; blocks = refl; agreed = refl })
    (record { votes = refl; blocks = refl; agreed = refl })

-- A VOTE COMES

-- the member when the vote was heard and led on, and what it is then certain of
abbrev pub heard : Limits → Member → Vote → Outcome
heard l m v = certainly l (silent (onward l v (silent (with_vote v m))).member)

vote_heard : (l : Limits) (m : Member) (v : Vote) → does l m (got_vote v) ≡ agree l (heard l m v)
vote_heard l m v =
    vote_plain l m v
    ∙ ap (λ (o : List Vote). agree l (certainly l (record { member = n; out = o }))) (onward-out l v (with_vote v m) [])
  where
    n : Member
    n = (onward l v (silent (with_vote v m))).member

pub vote-out : (l : Limits) (m : Member) (v : Vote) → (does l m (got_vote v)).out ≡ (heard l m v).out
vote-out l m v = ap (λ (d : Outcome). d.out) (vote_heard l m v)

pub vote-member : (l : Limits) (m : Member) (v : Vote) → m.agreed ≡ [] → certified l m ≡ [] →
    (does l m (got_vote v)).member ≡ agree_by l v (agree_each l (heard l m v).out (heard l m v).member)
vote-member l m v e before =
    let n : Member = (onward l v (silent (with_vote v m))).member in
    let d : Outcome = heard l m v in
    let on : Adds [] (with_vote v m) n = onward_adds l v (with_vote v m) in
    let said : Adds d.out n d.member = certainly_adds l n in
    let all : d.member.votes ≡ (d.out ++ (v ∷ [])) ++ m.votes =
    said.votes ∙ ap (λ (us : List Vote). d.out ++ us) on.votes ∙ sym (append_more d.out v m.votes) in
    let blocks : d.member.blocks ≡ m.blocks = said.blocks ∙ on.blocks in
    ap (λ (f : Outcome). f.member) (vote_heard l m v)
    ∙ agree-new l d.member (d.out ++ (v ∷ [])) m.votes (said.agreed ∙ on.agreed ∙ e) all
    (ap (λ (bs : List ℕ). certified_in l m.votes m.votes bs) blocks ∙ before)
    ∙ each_append l d.out v d.member

-- A BLOCK COMES

-- the member when the block is here, and what it is then certain of
abbrev pub supplied : Limits → Member → ℕ → Outcome
supplied l m x = certainly l (silent (with_blocks (add_block x m.blocks) m))

pub block_out : (l : Limits) (m : Member) (x : ℕ) → (does l m (got_block x)).out ≡ (supplied l m x).out
block_out l m x = ap (λ (d : Outcome). d.out) (block_plain l m x)

-- if no new vote certifies anything, the block alone may, and only if it was not here
block_certified : (l : Limits) (ns vs : List Vote) (bs : List ℕ) (x : ℕ) → 1 ≤ l.members →
    certified_in l vs vs bs ≡ [] → all_in_range l (ns ++ vs) ≡ true →
    certified_in l ns (ns ++ vs) (add_block x bs) ≡ [] →
    certified_in l (ns ++ vs) (ns ++ vs) (add_block x bs) ≡ cond (certified_by l x l.periods (ns ++ vs)) (x ∷ []) []
block_certified l ns vs bs x one before good =
    cond_both (is_in x bs) bs (x ∷ bs) Brings
    (λ here none.
    let same : certified_in l us us bs ≡ [] = certified-new l ns vs bs before ∙ none in
    same ∙ sym (cond-false _ (x ∷ []) [] (certified_known l us bs x l.periods one here same)))
    (λ _ none. certified_block l ns vs bs x before good one none)
  where
    us : List Vote
    us = ns ++ vs

    Brings : List ℕ → Type 0
    Brings cs =
        certified_in l ns us cs ≡ [] → certified_in l us us cs ≡ cond (certified_by l x l.periods us) (x ∷ []) []

-- if it agrees by what it said, the block adds nothing
block_after : (l : Limits) (m : Member) (x : ℕ) (ns vs : List Vote) → m.agreed ≡ [] → m.votes ≡ ns ++ vs →
    (certified_in l ns (ns ++ vs) m.blocks ≡ [] →
    certified_in l (ns ++ vs) (ns ++ vs) m.blocks ≡ cond (certified_by l x l.periods (ns ++ vs)) (x ∷ []) []) →
    (agree l (silent m)).member ≡ agree_block l x (agree_each l ns m)
unfolding agree_on is_some
block_after l m x ns vs e all brings =
    agree_open l m e
    ∙ ap (λ (us : List Vote). agree_on (certified_in l us us m.blocks) m) all
    ∙ elim (certified_at_most_one l (ns ++ vs) m.blocks ns) [
      | inl none ↦
          ap (λ (xs : List ℕ). agree_on xs m) (brings none)
          ∙ by_block (certified_by l x l.periods (ns ++ vs))
          ∙ ap by_votes (sym all)
          ∙ ap (λ (xs : List ℕ). agree_block l x (agree_on xs m)) (sym none)
      | inr (y, f) ↦
          ap (λ (xs : List ℕ). agree_on xs m) (certified_found l ns vs m.blocks y f)
          ∙ ap (λ (xs : List ℕ). agree_block l x (agree_on xs m)) (sym f)
    ]
    ∙ ap (λ (us : List Vote). agree_block l x (agree_on (certified_in l ns us m.blocks) m)) (sym all)
    ∙ ap (agree_block l x) (sym (each_on l ns m e))
  where
    by_votes : List Vote → Member
    by_votes us = cond (is_some m.agreed) m (cond (certified_by l x l.periods us) (having_agreed x m) m)

    by_block : (b : Bool) →
        agree_on (cond b (x ∷ []) []) m ≡ cond (is_some m.agreed) m (cond b (having_agreed x m) m)
    by_block true = ap (λ (xs : List ℕ). cond (is_some xs) m (having_agreed x m)) (sym e)
    by_block false = ap (λ (xs : List ℕ). cond (is_some xs) m m) (sym e)

pub block_member : (l : Limits) (m : Member) (x : ℕ) → 1 ≤ l.members → m.agreed ≡ [] → certified l m ≡ [] →
    all_in_range l (supplied l m x).member.votes ≡ true →
    (does l m (got_block x)).member ≡ agree_block l x (agree_each l (supplied l m x).out (supplied l m x).member)
block_member l m x one e before good =
    let n : Member = with_blocks (add_block x m.blocks) m in
    let d : Outcome = supplied l m x in
    let said : Adds d.out n d.member = certainly_adds l n in
    ap (λ (f : Outcome). f.member) (block_plain l m x)
    ∙ block_after l d.member x d.out m.votes (said.agreed ∙ e) said.votes
    (rw said.blocks (block_certified l d.out m.votes m.blocks x one before (rw said.votes at good)))

-- TIME IS UP

-- no vote that is not certain is certified
not_cert : (l : Limits) (v : Vote) (m : Member) → eqb v.kind cert ≡ false → certified l m ≡ [] →
    certified l (with_vote v m) ≡ []
unfolding certified_in
not_cert l v m other before =
    certified-new l (v ∷ []) m.votes m.blocks before ∙ cond-false _ (v.value ∷ []) [] (and_left _ _ other)

-- the member after its first vote, and what it is then certain of
abbrev pub first_said : Member → Outcome
first_said m = say_soft (soft_value m) (silent (at_step 1 m))

abbrev pub first_certain : Limits → Member → Outcome
first_certain l m = certainly l (silent (first_said m).member)

soft_keeps : (l : Limits) (xs : List ℕ) (m : Member) → certified l m ≡ [] →
    certified l (say_soft xs (silent m)).member ≡ []
unfolding say_soft
soft_keeps l [] m before = before
soft_keeps l (x ∷ xs) m before = not_cert l (own m soft 0 x) m refl before

soft-agreed : (xs : List ℕ) (m : Member) → (say_soft xs (silent m)).member.agreed ≡ m.agreed
unfolding say_soft
soft-agreed [] m = refl
soft-agreed (x ∷ xs) m = refl

pub first_out : (l : Limits) (m : Member) → m.step ≡ 0 →
    (does l m timeout).out ≡ (first_said m).out ++ (first_certain l m).out
first_out l m at =
    ap (λ (d : Outcome). d.out) (first_plain l m at) ∙ certainly-out l (first_said m).member (first_said m).out

-- a soft vote is never certified, so only that it is certain counts
pub first_member : (l : Limits) (m : Member) → m.step ≡ 0 → m.agreed ≡ [] → certified l m ≡ [] →
    (does l m timeout).member ≡ agree_each l (first_certain l m).out (first_certain l m).member
first_member l m at e before =
    let n : Member = (first_said m).member in
    let d : Outcome = first_certain l m in
    let said : Adds d.out n d.member = certainly_adds l n in
    ap (λ (f : Outcome). f.member) (first_plain l m at)
    ∙ agree-member l (certainly l (first_said m)) d (certainly-member l n (first_said m).out)
    ∙ agree-new l d.member d.out n.votes (said.agreed ∙ soft-agreed (soft_value m) (at_step 1 m) ∙ e)
    said.votes (rw said.blocks (soft_keeps l (soft_value m) (at_step 1 m) before))

-- the vote with which it goes on, at a step after the first
abbrev pub later_vote : Limits → Member → ℕ → Vote
later_vote l m s = next_vote m (suc (suc s)) (chosen l m)

next_other : (m : Member) (s : ℕ) (xs : List ℕ) → eqb (next_vote m s xs).kind cert ≡ false
unfolding next_vote
next_other m s (x ∷ xs) = refl
next_other m s [] =
    cond_both m.free (own m next_none s 0) (own m next s (first_or_zero m.start))
    (λ v. eqb v.kind cert ≡ false) (λ _. refl) (λ _. refl)

pub later_out : (l : Limits) (m : Member) (s : ℕ) → m.step ≡ suc s →
    (does l m timeout).out ≡ later_vote l m s ∷ []
later_out l m s at =
    let v : Vote = later_vote l m s in
    ap (λ (d : Outcome). d.out) (later_plain l m s at)
    ∙ onward-out l v (with_vote v (at_step (suc (suc s)) m)) (v ∷ [])

-- a vote to go on is never certified, so nothing new is agreed on
pub later_member : (l : Limits) (m : Member) (s : ℕ) → m.step ≡ suc s → m.agreed ≡ [] → certified l m ≡ [] →
    (does l m timeout).member
    ≡ (onward l (later_vote l m s) (silent (with_vote (later_vote l m s) (at_step (suc (suc s)) m)))).member
unfolding agree_each
later_member l m s at e before =
    let v : Vote = later_vote l m s in
    let n : Member = with_vote v (at_step (suc (suc s)) m) in
    let d : Outcome = onward l v (silent n) in
    let on : Adds [] n d.member = onward_adds l v n in
    ap (λ (f : Outcome). f.member) (later_plain l m s at)
    ∙ agree-member l (onward l v (record { member = n; out = v ∷ [] })) d (onward-member l v n (v ∷ []))
    ∙ agree-new l d.member [] n.votes (on.agreed ∙ e) on.votes
    (rw on.blocks (not_cert l v (at_step (suc (suc s)) m) (next_other m (suc (suc s)) (chosen l m)) before))
