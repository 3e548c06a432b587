-- What std writes of numbers, with spaces between them, is the text of a line.
use Rattle.std.proofs.Common.{◌≡◌, ℕ, ◌^◌, ◌<◌, List, [], ◌∷◌, ◌++◌, codes, decimal, refl, ap, ◌∙◌, append_assoc}
use Rattle.std.proofs.Common.{append-nil, Ok, Result}
use Rattle.std.specs.Fmt.{WritesOnOk}
use Rattle.std.specs.declared.fmt.Formatter.{Formatter}
use Rattle.std.specs.declared.fmt.Error.{Error}
use Rattle.std.proofs.Output.{has_written_of_eq, has_written_append}
use Rattle.protocol.specs.Vote.{Vote, Proposal}
use Rattle.protocol.specs.Member.{got_vote, got_proposal, got_block, timeout}
use Rattle.lines.specs.Between.{between, followed}
use Rattle.text.specs.Decimals.{spelled}
use Rattle.lines.specs.Events.{event_text}
use Rattle.lines.specs.Answers.{agreed_text, refused_text}
use Rattle.text.proofs.Spelled.{shown_number}

module _ {W : Type 0} {took : W → List ℕ → W → Type 0} where
  -- what is written, under another name
  pub same_written : {f g : Formatter W} {a b : List ℕ} (r : Result (Unit {0}) Error) → a ≡ b →
      WritesOnOk took f r a g → WritesOnOk took f r b g
  same_written r is h plain ok = has_written_of_eq took _ _ _ _ is (h plain ok)

  -- one text after another
  pub both_written : {f g h : Formatter W} {a b c : List ℕ} (r : Result (Unit {0}) Error) → a ++ b ≡ c →
      WritesOnOk took f (Ok tt) a g → WritesOnOk took g r b h → WritesOnOk took f r c h
  both_written r is front rest plain ok =
      let first = front plain refl in
      has_written_of_eq took _ _ _ _ is (has_written_append took _ _ _ _ _ first (rest first.plain ok))

pub vote_shown : (v : Vote) → v.kind < 2 ^ 64 → v.period < 2 ^ 64 → v.step < 2 ^ 64 → v.from < 2 ^ 64 →
    codes "vote " ++ (decimal v.kind ++ (32 ∷ (decimal v.period ++ (32 ∷ (decimal v.step
    ++ (32 ∷ (spelled v.value ++ (32 ∷ decimal v.from)))))))) ≡ event_text (got_vote v)
unfolding between
vote_shown v k p s f =
    λ i. codes "vote " ++ (shown_number v.kind k i ++ (32 ∷ (shown_number v.period p i
    ++ (32 ∷ (shown_number v.step s i ++ (32 ∷ (spelled v.value ++ (32 ∷ shown_number v.from f i))))))))

pub proposal_shown : (o : Proposal) → o.period < 2 ^ 64 → o.rank < 2 ^ 64 →
    codes "offer " ++ (decimal o.period ++ (32 ∷ (decimal o.rank ++ (32 ∷ spelled o.value))))
    ≡ event_text (got_proposal o)
unfolding between
proposal_shown o p r =
    λ i. codes "offer " ++ (shown_number o.period p i ++ (32 ∷ (shown_number o.rank r i
    ++ (32 ∷ spelled o.value))))

pub block_shown : (x : ℕ) → codes "block " ++ spelled x ≡ event_text (got_block x)
unfolding between
block_shown x = refl

pub time_shown : codes "time" ≡ event_text timeout
unfolding between
time_shown = refl

pub none_shown : codes "agreed none" ≡ agreed_text []
unfolding between
none_shown = refl

pub agreed_shown : (x : ℕ) → codes "agreed " ++ spelled x ≡ agreed_text (x ∷ [])
unfolding between
agreed_shown x = refl

pub refused_shown : (number r n : ℕ) → number ≡ r → number < 2 ^ 64 → n < 2 ^ 64 →
    codes "refused " ++ (decimal number ++ (32 ∷ decimal n)) ≡ refused_text r n
unfolding between
refused_shown number r n is small fits =
    (λ i. codes "refused " ++ (shown_number number small i ++ (32 ∷ shown_number n fits i)))
    ∙ ap (λ (x : ℕ). codes "refused " ++ (spelled x ++ (32 ∷ spelled n))) is

-- texts with a separator after each
pub none-followed : (sep : List ℕ) → [] ≡ followed sep []
unfolding followed
none-followed sep = refl

pub one_followed : (sep a : List ℕ) → a ++ sep ≡ followed sep (a ∷ [])
unfolding followed
one_followed sep a = simp append-nil

pub two_followed : (sep a b : List ℕ) → (a ++ sep) ++ (b ++ sep) ≡ followed sep (a ∷ (b ∷ []))
unfolding followed
two_followed sep a b = simp (append-nil, append_assoc)

-- one text has no separator
pub one_between : (sep l : List ℕ) → l ≡ between sep (l ∷ [])
unfolding between
one_between sep l = refl

-- a text after them
pub followed_then : (sep : List ℕ) (ws : List (List ℕ)) (l : List ℕ) →
    followed sep ws ++ l ≡ between sep (ws ++ (l ∷ []))
unfolding followed between
followed_then sep [] l = refl
followed_then sep (w ∷ []) l = simp (append-nil, append_assoc)
followed_then sep (w ∷ (v ∷ vs)) l =
    append_assoc w (sep ++ followed sep (v ∷ vs)) l
    ∙ ap (λ (x : List ℕ). w ++ x)
    (append_assoc sep (followed sep (v ∷ vs)) l ∙ ap (λ (x : List ℕ). sep ++ x) (followed_then sep (v ∷ vs) l))
