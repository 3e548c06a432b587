-- A call of the member that memory holds, whatever events it holds.
use Rattle.std.proofs.Common.{◌≡◌, ℕ, ◌<◌, true, List, ◌∷◌, length, sym, refl, ap, ◌∙◌}
use Rattle.std.proofs.Common.{subst}
use Rattle.protocol.specs.Vote.{Limits}
use Rattle.protocol.specs.Member.{Member, Event, unreadable, refused, is_event, place, refusal, answer, after}
use Rattle.protocol.specs.Programs.{member_after, all_words}
use Rattle.protocol.specs.Promises.{all}
use Rattle.safety.specs.Alone.{Fresh}
use Rattle.safety.proofs.Lone.{own_fresh, agrees_at_once, in_its_place}
use Rattle.tally.specs.Votes.{Holds}
use Rattle.cells.specs.Proposals.{Proposes}
use Rattle.cells.specs.Blocks.{blocks_in}
use Rattle.wire.specs.declared.answers.Answer as code-answer
use Rattle.wire.specs.Meaning.{answer_of}
use Rattle.member.specs.Answered.{Carries, Answered}
use Rattle.member.specs.Calls.{taking_all, Kept, Called, Looks}
use Rattle.moves.specs.Events.{Lone}
use Rattle.member.specs.Header.{Header}
use Rattle.moves.specs.Parts.{part, of_votes, of_proposals, of_blocks, of_rest}
use Rattle.moves.specs.Stands.{lim, Stands}
use Rattle.moves.specs.declared.state.Member as code
use Rattle.member.proofs.Takes.{all_taken, same_refusal, same_answer, same_after, same_member}

-- two members by value with one header are the same to their memory
module _ (mem : List ℕ) (x y : code.Member) (hx : Header mem x) (hy : Header mem y) where
  same_limits : lim x ≡ lim y
  same_limits =
      let members : x.limits.members ≡ y.limits.members = sym hx.asks.members ∙ hy.asks.members in
      let periods : x.limits.periods ≡ y.limits.periods = sym hx.asks.periods ∙ hy.asks.periods in
      let steps : x.limits.steps ≡ y.limits.steps = sym hx.asks.steps ∙ hy.asks.steps in
      let blocks : x.limits.blocks ≡ y.limits.blocks = sym hx.asks.blocks ∙ hy.asks.blocks in
      λ i. record { takes = all; members = members i; periods = periods i; steps = steps i; blocks = blocks i }

  pub loaded : (m : Member) → Stands y mem m → Stands x mem m
  loaded m h = record {
    me = sym hx.me ∙ hy.me ∙ h.me;
    period = sym hx.place.period ∙ hy.place.period ∙ h.period;
    step = sym hx.place.step ∙ hy.place.step ∙ h.step;
    start = sym hx.start ∙ hy.start ∙ h.start;
    free = sym hx.place.free ∙ hy.place.free ∙ h.free;
    certain = sym hx.place.certain ∙ hy.place.certain ∙ h.certain;
    agreed = sym hx.agreed ∙ hy.agreed ∙ h.agreed;
    votes = subst (λ (l : Limits). Holds l (part of_votes l mem) m.votes) (sym same_limits) h.votes;
    proposals = subst (λ (l : Limits). Proposes l (part of_proposals l mem) m.proposals) (sym same_limits) h.proposals;
    blocks = ap (λ (n : ℕ). blocks_in (part of_blocks (lim x) mem) n) (sym hx.place.blocks ∙ hy.place.blocks)
        ∙ ap (λ (l : Limits). blocks_in (part of_blocks l mem) y.blocks) same_limits ∙ h.blocks;
  }

-- what is true of a member alone after any events
alone : (l : Limits) (i : ℕ) (es : List Event) → i < l.members → Lone l (member_after l i es)
alone l i es h = record {
  fresh = subst (λ (j : ℕ). Fresh l j (member_after l i es)) (sym (in_its_place l i es h).me) (own_fresh l i es h);
  none = agrees_at_once l i es h;
}

-- what memory holds, at the stage that takes every event
module _ (mem : List ℕ) (x : code.Member) (hx : Header mem x) (l : Limits) (i : ℕ) (es : List Event)
    (k : Kept l i es mem) where
  abbrev m₀ : Member
  m₀ = member_after (taking_all l) i es

  is_l : lim x ≡ taking_all l
  is_l = same_limits mem x k.carries.member hx k.carries.header ∙ k.carries.limits

  is_i : x.me ≡ i
  is_i = sym hx.me ∙ k.carries.header.me ∙ k.carries.me

  is_m : m₀ ≡ member_after l i es
  is_m = same_member l all l.takes all_taken k.takes i es

  low : i < (taking_all l).members
  low = subst (λ (j : Limits). i < j.members) is_l (subst (λ (j : ℕ). j < x.limits.members) is_i x.member)

  stands₀ : Stands x mem m₀
  stands₀ = subst (λ (m : Member). Stands x mem m) (sym is_m)
      (loaded mem x k.carries.member hx k.carries.header (member_after l i es) k.carries.stands)

  lone₀ : Lone (lim x) m₀
  lone₀ = subst (λ (j : Limits). Lone j m₀) (sym is_l) (alone (taking_all l) i es low)

  -- what was answered, in the words of the limits given
  module _ (new : List ℕ) (e : Event) (a : code-answer.Answer) (ans : Answered x mem new m₀ e a) where
    answer-is : answer_of a ≡ answer l (member_after l i es) e
    answer-is =
        ans.is ∙ ap (λ (j : Limits). answer j m₀ e) is_l ∙ same_answer l all l.takes all_taken k.takes m₀ e
        ∙ ap (λ (m : Member). answer l m e) is_m

    after_is : after (taking_all l) m₀ e ≡ member_after l i (e ∷ es)
    unfolding member_after
    after_is = same_after l all l.takes all_taken k.takes m₀ e ∙ ap (λ (m : Member). after l m e) is_m

    kept_then : Kept l i (e ∷ es) new
    kept_then = record {
      takes = k.takes;
      carries = subst (λ (m : Member). Carries (taking_all l) i new m) after_is
          (subst (λ (j : ℕ). Carries (taking_all l) j new (after (taking_all l) m₀ e)) is_i
          (subst (λ (j : Limits). Carries j x.me new (after j m₀ e)) is_l ans.carries));
    }

    refusal_is : refusal (lim x) m₀ e ≡ refusal l (member_after l i es) e
    refusal_is =
        ap (λ (j : Limits). refusal j m₀ e) is_l ∙ same_refusal l all l.takes all_taken k.takes m₀ e
        ∙ ap (λ (m : Member). refusal l m e) is_m

    rest-is : part of_rest l new ≡ part of_rest l mem
    rest-is = subst (λ (j : Limits). part of_rest j new ≡ part of_rest j mem) is_l ans.rest

-- an event that can be read
pub called : (mem new : List ℕ) (x : code.Member) (e : Event) (a : code-answer.Answer) → Header mem x →
    ((m : Member) → Header mem x → Stands x mem m → Lone (lim x) m → Answered x mem new m e a) →
    length new ≡ length mem → all_words new ≡ true → Called mem e new (answer_of a)
called mem new x e a hx ans long words = record {
  is = λ l i es k. answer-is mem x hx l i es k new e a (at l i es k);
  kept = λ l i es k. kept_then mem x hx l i es k new e a (at l i es k);
  refused = λ l i es k h. (at l i es k).kept (subst (λ (n : ℕ). 0 < n)
      (sym (refusal_is mem x hx l i es k new e a (at l i es k))) h);
  rest = λ l i es k. rest-is mem x hx l i es k new e a (at l i es k);
  long = long;
  words = λ h. words;
}
  where
    at : (l : Limits) (i : ℕ) (es : List Event) (k : Kept l i es mem) →
        Answered x mem new (member_after (taking_all l) i es) e a
    at l i es k = ans _ hx (stands₀ mem x hx l i es k) (lone₀ mem x hx l i es k)

-- bytes that are no event
pub called-unreadable : (mem : List ℕ) (n : ℕ) → Called mem (unreadable n) mem (refused 1 n)
unfolding is_event place member_after
called-unreadable mem n = record {
  is = λ l i es k. refl;
  kept = λ l i es k. record { takes = k.takes; carries = k.carries };
  refused = λ l i es k h. refl;
  rest = λ l i es k. refl;
  long = refl;
  words = λ h. h;
}

-- what is seen of it
pub looks : (mem : List ℕ) (x : code.Member) → Header mem x → Looks mem x
looks mem x hx l i es k = loaded mem x k.carries.member hx k.carries.header (member_after l i es) k.carries.stands
