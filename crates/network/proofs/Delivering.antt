-- An event that is delivered to an honest member of a network that runs.
use Rattle.std.proofs.Common.{◌≡◌, ℕ, ◌+◌, ◌<◌, Bool, true, false, ◌||◌, List, Ok, Err, Result, sym, refl, ap, ◌∙◌}
use Rattle.std.proofs.Common.{subst, Some, None, Option, MatchOption, arith, ◌≤◌}
use mathlib.Core.Logic.{∥∥₁_map}
use Rattle.std.specs.List.{between}
use Rattle.protocol.specs.Vote.{Vote, Limits}
use Rattle.protocol.specs.Member.{Event}
use Rattle.protocol.specs.Network.{FewFaulty}
use Rattle.protocol.specs.Programs.{memory_size}
use Rattle.protocol.specs.Promises.{all}
use Rattle.limits.specs.Limits.{limits_of}
use Rattle.limits.specs.declared.bounds.Limits as code
use Rattle.wire.specs.declared.answers.Answer.{Answer}
use Rattle.wire.specs.Meaning.{answer_of, agreed_of}
use Rattle.values.specs.Values.{value_of}
use Rattle.values.specs.declared.value.Value.{Value}
use Rattle.member.specs.Calls.{ByCall, BySaid}
use Rattle.member.specs.declared.calls.NotOpen.{NotOpen}
use Rattle.network.specs.Calls.{Delivered, NotAgreed, AgreedBy, AgreedOn}
use Rattle.network.specs.Memory.{heard_in, may_come, may_happen, Agreement}
use Rattle.network.specs.Parts.{OnlyPart}
use Rattle.network.specs.Running.{Running}
use Rattle.network.specs.Seats.{start_of, memory_of}
use Rattle.network.proofs.Agreeing.{said_heard, happens-there, agreement}
use Rattle.network.proofs.Apart.{memory_apart}
use Rattle.network.proofs.Running.{stepped, runs_on, says_then, refused_then, stays}
use Rattle.network.proofs.Showing.{open_there, number_of_run, flag_of_run, list_of_run}
use Rattle.network.proofs.Spans.{span_is}

-- agreement of a network that runs
pub agreement-stands : (k : code.Limits) (faulty : ℕ → Bool) (mem : List ℕ) → FewFaulty (limits_of all k) faulty →
    ∥ Running (limits_of all k) faulty mem ∥₁ → Agreement (limits_of all k) faulty mem
agreement-stands k faulty mem few run = record {
  one_agreed = λ i j a b li lj gi gj ea eb. number_of_run run
      (λ r. (agreement k faulty mem few r).one_agreed i j a b li lj gi gj ea eb);
  one_certified = λ p q a b vs us c d. number_of_run run
      (λ r. (agreement k faulty mem few r).one_certified p q a b vs us c d);
  agreed_certified = λ i p a b vs li gi e c. number_of_run run
      (λ r. (agreement k faulty mem few r).agreed_certified i p a b vs li gi e c);
}

-- what one honest member agreed on is what all did who agreed; or none agreed
pub agreed_on : (k : code.Limits) (faulty : ℕ → Bool) (mem : List ℕ) → Agreement (limits_of all k) faulty mem →
    (r : Option Value) → MatchOption r
    ((i : ℕ) → 0 ≤ i → i < k.members → NotAgreed (limits_of all k) faulty mem i)
    (λ x. (i : ℕ) × AgreedBy (limits_of all k) faulty mem i (value_of x)) →
    AgreedOn (limits_of all k) faulty mem (agreed_of r)
agreed_on k faulty mem stands None none = λ i low. none i (omega arith) low low
agreed_on k faulty mem stands (Some x) (i, by) = (
  (i, by),
  λ j y other. stands.one_agreed j i y (value_of x) other.member by.member other.honest by.honest other.is by.is,
)

-- A VOTE THAT CAN COME

-- what an honest member's memory says of a vote in its name
pub said_comes : (k : code.Limits) (faulty : ℕ → Bool) (mem : List ℕ)
    (run : ∥ Running (limits_of all k) faulty mem ∥₁) (v : Vote) (b : Bool) →
    v.from < k.members → faulty v.from ≡ false →
    BySaid (memory_of (limits_of all k) faulty v.from mem) v (Ok b) →
    b ≡ may_come (limits_of all k) faulty mem v
said_comes k faulty mem run v b low good said =
    let l : Limits = limits_of all k in
    let part : List ℕ = memory_of l faulty v.from mem in
    flag_of_run run (λ r. said_heard l v.from part (r.state.member v.from) v b (r.held v.from low good) refl
    (said l v.from)) ∙ ap (λ (t : Bool). t || heard_in l part v) (sym good)

-- AN EVENT THAT COMES

-- in the words of where the member's memory lies
module _ (l : Limits) (faulty : ℕ → Bool) (i start end : ℕ) (is-start : start ≡ start_of l faulty i)
    (is-end : end ≡ start + memory_size l) where
  pub at_span : (xs : List ℕ) → between start end xs ≡ memory_of l faulty i xs
  at_span xs = span_is start end (start_of l faulty i) (memory_size l) xs xs is-start is-end refl

  pub called-there : (mem new : List ℕ) (e : Event) (r : Result Answer NotOpen) →
      ByCall (between start end mem) e (between start end new) r →
      ByCall (memory_of l faulty i mem) e (memory_of l faulty i new) r
  called-there mem new e r h =
      subst (λ (xs : List ℕ). ByCall xs e (memory_of l faulty i new) r) (at_span mem)
      (subst (λ (xs : List ℕ). ByCall (between start end mem) e xs r) (at_span new) h)

  pub only-there : (mem new : List ℕ) → OnlyPart start end mem new →
      OnlyPart (start_of l faulty i) (start_of l faulty i + memory_size l) mem new
  only-there mem new h =
      subst (λ (a : ℕ). OnlyPart a (a + memory_size l) mem new) is-start
      (subst (λ (b : ℕ). OnlyPart start b mem new) is-end h)

  -- the same of memory by other names, before and after
  pub called-then : (was mem new now : List ℕ) (e : Event) (r : Result Answer NotOpen) → was ≡ mem → new ≡ now →
      ByCall (between start end was) e (between start end new) r →
      ByCall (memory_of l faulty i mem) e (memory_of l faulty i now) r
  called-then was mem new now e r before after h =
      called-there mem now e r
      (subst (λ (xs : List ℕ). ByCall (between start end xs) e (between start end now) r) before
      (subst (λ (xs : List ℕ). ByCall (between start end was) e (between start end xs) r) after h))

  pub only-then : (was mem new now : List ℕ) → was ≡ mem → new ≡ now → OnlyPart start end was new →
      OnlyPart (start_of l faulty i) (start_of l faulty i + memory_size l) mem now
  only-then was mem new now before after h =
      only-there mem now
      (subst (λ (xs : List ℕ). OnlyPart start end xs now) before (subst (OnlyPart start end was) after h))

-- the event came to member i, and its memory was changed as the call says
module _ (k : code.Limits) (faulty : ℕ → Bool) (mem new : List ℕ) (few : FewFaulty (limits_of all k) faulty)
    (run : ∥ Running (limits_of all k) faulty mem ∥₁) (i : ℕ) (low : i < k.members) (good : faulty i ≡ false)
    (e : Event) (can : may_happen (limits_of all k) faulty mem e ≡ true)
    (only : OnlyPart (start_of (limits_of all k) faulty i)
    (start_of (limits_of all k) faulty i + memory_size (limits_of all k)) mem new) where
  abbrev l : Limits
  l = limits_of all k

  others : (j : ℕ) → j < l.members → faulty j ≡ false → (j ≡ i → ⊥) →
      memory_of l faulty j new ≡ memory_of l faulty j mem
  others j lj gj apart = memory_apart l faulty i j mem new good gj apart only

  pub runs_then : (r : Result Answer NotOpen) → ByCall (memory_of l faulty i mem) e (memory_of l faulty i new) r →
      ∥ Running l faulty new ∥₁
  runs_then (Ok a) called =
      ∥∥₁_map run (λ r. runs_on l faulty mem new r i low good e (answer_of a) called others
      (happens-there k faulty mem few r e can))
  runs_then (Err n) none = absurd (open_there l faulty mem run i low good none.0)

  pub delivered : (a : Answer) → ByCall (memory_of l faulty i mem) e (memory_of l faulty i new) (Ok a) →
      Delivered l faulty i mem new e (answer_of a)
  delivered a called = record {
    member = low;
    honest = good;
    can = can;
    stepped = λ r. stepped l faulty mem new r i low good e (answer_of a) called others
        (happens-there k faulty mem few r e can);
    says = λ vs xs is. list_of_run run
        (λ r. says_then l faulty mem new r i low good e (answer_of a) called others vs xs is);
    refused = λ r n is. list_of_run run
        (λ h. refused_then l faulty mem new h i low good e (answer_of a) called others r n is);
    others = others;
    stays = λ j x lj gj was. list_of_run run
        (λ r. stays l faulty mem new r i low good e (answer_of a) called others j x lj gj was);
    agreement = agreement-stands k faulty new few (runs_then (Ok a) called);
  }
