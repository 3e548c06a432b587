-- Going on to a later period, by the kind of a vote.
use Rattle.std.proofs.Common.{◌≡◌, ℕ, suc, ◌+◌, ◌<◌, ◌≤◌, Bool, true, false, cond, ◌&&◌, eqb, leb, List, [], ◌∷◌, sym}
use Rattle.std.proofs.Common.{refl, ap, ◌∙◌, add-one}
use Rattle.std.proofs.lemmas.Bool.{and_from, and_left, and_right, le-leb, lt-leb, cond-true, cond-false}
use Rattle.protocol.specs.Vote.{next, next_none, Vote, Limits, has_quorum}
use Rattle.protocol.specs.Member.{Member, Outcome, in_period, silent, onward}
use Rattle.moves.specs.Moves.{on_to}

module _ (l : Limits) (v : Vote) (start : List ℕ) (free : Bool) (m : Member) where
  abbrev quorum_now : Bool
  quorum_now = has_quorum l v.kind v.period v.step v.value m.votes

  pub on_to_goes : m.period ≤ v.period → quorum_now ≡ true →
      on_to l v start free m ≡ in_period (v.period + 1) start free m
  on_to_goes h q =
      cond-true _ _ _ (and_from _ _ (le-leb m.period v.period h) q)
      ∙ ap (λ (p : ℕ). in_period p start free m) (sym (add-one v.period))

  pub on_to_late : v.period < m.period → on_to l v start free m ≡ m
  on_to_late h = cond-false _ _ _ (and_left _ _ (lt-leb m.period v.period h))

  pub on_to-few : quorum_now ≡ false → on_to l v start free m ≡ m
  on_to-few q = cond-false _ _ _ (and_right _ _ q)

member_of : (b : Bool) (d e : Outcome) → (cond b d e).member ≡ cond b d.member e.member
member_of true d e = refl
member_of false d e = refl

module _ (l : Limits) (v : Vote) (m : Member) where
  -- what onward does with a vote, were it of kind k
  abbrev pub goes : ℕ → Bool
  goes k = (leb next k && leb m.period v.period) && has_quorum l v.kind v.period v.step v.value m.votes

  abbrev pub gone : ℕ → Member
  gone k = in_period (suc v.period) (cond (eqb k next) (v.value ∷ []) []) (eqb k next_none) m

  pub by_its_kind : (onward l v (silent m)).member ≡ cond (goes v.kind) (gone v.kind) m
  by_its_kind = member_of (goes v.kind) (silent (gone v.kind)) (silent m)

  -- a soft or cert vote leads nowhere
  pub onward-stays : leb next v.kind ≡ false → (onward l v (silent m)).member ≡ m
  onward-stays h =
      by_its_kind ∙ cond-false (goes v.kind) (gone v.kind) m (and_left _ _ (and_left _ _ h))

  pub onward-next : v.kind ≡ next → (onward l v (silent m)).member ≡ on_to l v (v.value ∷ []) false m
  onward-next h = by_its_kind ∙ ap (λ (k : ℕ). cond (goes k) (gone k) m) h

  pub onward-none : v.kind ≡ next_none → (onward l v (silent m)).member ≡ on_to l v [] true m
  onward-none h = by_its_kind ∙ ap (λ (k : ℕ). cond (goes k) (gone k) m) h
