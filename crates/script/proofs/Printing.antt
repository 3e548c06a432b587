-- What std writes of numbers, between the texts of a play, is the text of its lines.
use Rattle.std.proofs.Common.{◌≡◌, ℕ, ◌^◌, ◌<◌, true, List, [], ◌∷◌, ◌++◌, codes, decimal, sym, refl, ap, ◌∙◌}
use Rattle.std.proofs.Common.{append_assoc, Result}
use Rattle.std.proofs.lemmas.Bool.{false≢true}
use Rattle.protocol.specs.Member.{Event, got_vote, got_proposal, got_block, timeout, unreadable, is_event, says}
use Rattle.wire.specs.declared.answers.Answer.{Answer}
use Rattle.network.specs.declared.errors.DeliverError.{DeliverError}
use Rattle.lines.specs.Between.{between}
use Rattle.text.specs.Decimals.{spelled}
use Rattle.lines.specs.Events.{event_text}
use Rattle.lines.specs.Answers.{agreed_text, answer_line}
use Rattle.text.proofs.Spelled.{shown_number}
use Rattle.lines.proofs.Printing.{one_between}
use Rattle.script.specs.Shown.{delivery_text, member_text, outcome_text, played_text}

-- a delivery is its number, a space, and the line of its event
delivery_is : (i : ℕ) (e : Event) → is_event e ≡ true → delivery_text i e ≡ spelled i ++ (32 ∷ event_text e)
unfolding between is_event
delivery_is i (got_vote v) is = refl
delivery_is i (got_proposal o) is = refl
delivery_is i (got_block x) is = refl
delivery_is i timeout is = refl
delivery_is i (unreadable n) is = absurd (false≢true is)

pub played_shown : (i : ℕ) (e : Event) (after : List ℕ) → i < 2 ^ 64 → is_event e ≡ true →
    decimal i ++ (32 ∷ (event_text e ++ after)) ≡ delivery_text i e ++ after
played_shown i e after small is =
    ap (λ (x : List ℕ). x ++ (32 ∷ (event_text e ++ after))) (shown_number i small)
    ∙ sym (append_assoc (spelled i) (32 ∷ event_text e) after)
    ∙ ap (λ (x : List ℕ). x ++ after) (sym (delivery_is i e is))

-- the line and a colon, and then what came of it
pub played_is : (i : ℕ) (e : Event) (o : Result Answer DeliverError) (text : List ℕ) → i < 2 ^ 64 →
    is_event e ≡ true → text ≡ outcome_text o →
    (decimal i ++ (32 ∷ (event_text e ++ codes ": "))) ++ text ≡ played_text i e o
played_is i e o text small is same =
    ap (λ (x : List ℕ). x ++ text) (played_shown i e (codes ": ") small is)
    ∙ append_assoc (delivery_text i e) (codes ": ") text
    ∙ ap (λ (x : List ℕ). delivery_text i e ++ (codes ": " ++ x)) same

pub member_shown : (i p s : ℕ) (xs : List ℕ) → i < 2 ^ 64 → p < 2 ^ 64 → s < 2 ^ 64 →
    codes "member " ++ (decimal i ++ (codes ": period " ++ (decimal p ++ (codes ", step " ++ (decimal s
    ++ (codes ", " ++ answer_line (says [] xs))))))) ≡ member_text i p s xs
member_shown i p s xs i-fits p-fits s-fits =
    λ k. codes "member " ++ (shown_number i i-fits k ++ (codes ": period " ++ (shown_number p p-fits k
    ++ (codes ", step " ++ (shown_number s s-fits k
    ++ (codes ", " ++ sym (one_between (codes "; ") (agreed_text xs)) k))))))
