-- What is read off the memory of honest members is what the protocol's network has.
use Rattle.std.proofs.Common.{◌≡◌, ℕ, ◌<◌, ◌≤◌, Bool, true, false, ◌&&◌, List, [], ◌∷◌, sym, refl, ap, ◌∙◌, subst, inl}
use Rattle.std.proofs.Common.{inr, not-le_of_lt}
use Rattle.std.proofs.lemmas.Bool.{cases_Bool, and_parts, and_from, and_left, or_cases, or_from, or_left, or_right}
use Rattle.std.proofs.lemmas.Bool.{eq-eqb, both_ways}
use Rattle.protocol.specs.Vote.{Vote, Limits, is_vote_in}
use Rattle.protocol.specs.Member.{Member, Event, got_vote, got_proposal, got_block, timeout, unreadable, vote_in_range}
use Rattle.protocol.specs.Network.{Network, FewFaulty, can_come, can_happen, all_can_come, Certificate}
use Rattle.protocol.specs.Programs.{member_after}
use Rattle.protocol.specs.Promises.{all, GoodLimits}
use Rattle.protocol.proofs.Ranges.{ranged}
use Rattle.limits.specs.Limits.{limits_of}
use Rattle.limits.specs.declared.bounds.Limits as code
use Rattle.safety.proofs.Stands.{one_certified, one_agreed, agreed-has_both, said-is-own}
use Rattle.tally.specs.Votes.{heard_at, entry_of, is_only, Holds}
use Rattle.tally.proofs.Heard.{heard_voted, not_heard}
use Rattle.tally.proofs.Index.{slot_good}
use Rattle.member.specs.Calls.{taking_all, Kept, SaidIt}
use Rattle.moves.specs.Parts.{part, of_votes}
use Rattle.network.specs.Memory.{agreed_in, heard_in, may_come, may_happen, all_may_come, Certifies, Agreement}
use Rattle.network.specs.Running.{Held, Running}
use Rattle.network.specs.Seats.{memory_of}

-- the limits of the code, as the protocol's
pub good-limits : (k : code.Limits) → GoodLimits all (limits_of all k)
good-limits k = record {
  some_member = k.some_member;
  few_members = k.few_members;
  some_period = k.some_period;
  few_periods = k.few_periods;
  some_step = k.some_step;
  few_steps = k.few_steps;
  some_block = k.some_block;
  few_blocks = k.few_blocks;
  stage = λ _. refl;
}

pub held-agreed : (l : Limits) (i : ℕ) (mem : List ℕ) (m : Member) → Held l i mem m → agreed_in mem ≡ m.agreed
held-agreed l i mem m h =
    h.kept.carries.header.agreed ∙ h.kept.carries.stands.agreed ∙ ap (λ (x : Member). x.agreed) h.is

-- votes that a part of memory holds, looked up by their entry
looked_up : (l : Limits) (mem : List ℕ) (vs : List Vote) (v : Vote) → Holds l (part of_votes l mem) vs →
    heard_in l mem v ≡ is_vote_in v vs
looked_up l mem vs v h =
    elim (cases_Bool (vote_in_range l v)) [
      | inl good ↦ ap (λ (b : Bool). b && is_only v.value (heard_at (part of_votes l mem) (entry_of l v))) good
          ∙ ap (is_only v.value)
          (h.entries v.kind v.period v.step v.from (slot_good l v good) (ranged l v good).member)
          ∙ heard_voted v vs h.different
      | inr bad ↦ ap (λ (b : Bool). b && is_only v.value (heard_at (part of_votes l mem) (entry_of l v))) bad
          ∙ sym (not_heard l v vs h.in_range bad)
    ]

pub held_heard : (l : Limits) (i : ℕ) (mem : List ℕ) (m : Member) (v : Vote) → Held (taking_all l) i mem m →
    heard_in (taking_all l) mem v ≡ is_vote_in v m.votes
held_heard l i mem m v h =
    let carries = h.kept.carries in
    looked_up (taking_all l) mem (member_after (taking_all l) i h.events).votes v
    (subst (λ (k : Limits). Holds k (part of_votes k mem) (member_after (taking_all l) i h.events).votes)
    carries.limits
    carries.stands.votes)
    ∙ ap (λ (x : Member). is_vote_in v x.votes) h.is

-- a number that is nobody's said nothing
pub nobody_said : (l : Limits) (faulty : ℕ → Bool) (mem : List ℕ) (v : Vote) → faulty v.from ≡ false →
    l.members ≤ v.from →
    may_come l faulty mem v ≡ false
nobody_said l faulty mem v good high =
    or_from _ _ good (and_left (vote_in_range l v)
    (is_only v.value (heard_at (part of_votes l (memory_of l faulty v.from mem)) (entry_of l v)))
    (elim (cases_Bool (vote_in_range l v)) [ inl h ↦ absurd (not-le_of_lt (ranged l v h).member high) | inr h ↦ h ]))

-- what the call on its memory says of a vote
pub said_heard : (l : Limits) (i : ℕ) (mem : List ℕ) (m : Member) (v : Vote) (b : Bool) →
    Held (taking_all l) i mem m → v.from ≡ i →
    ((es : List Event) → Kept (taking_all l) i es mem → b ≡ SaidIt v (member_after (taking_all l) i es)) →
    b ≡ heard_in (taking_all l) mem v
said_heard l i mem m v b h from said =
    let there : Member = member_after (taking_all l) i h.events in
    let me : v.from ≡ there.me = from ∙ sym h.kept.carries.me ∙ h.kept.carries.stands.me in
    said h.events h.kept ∙ ap (λ (t : Bool). t && is_vote_in v there.votes) (eq-eqb v.from there.me me)
    ∙ ap (λ (x : Member). is_vote_in v x.votes) h.is ∙ sym (held_heard l i mem m v h)

-- of a network that runs
module _ (k : code.Limits) (faulty : ℕ → Bool) (mem : List ℕ) (few : FewFaulty (limits_of all k) faulty)
    (run : Running (limits_of all k) faulty mem) where
  abbrev l : Limits
  l = limits_of all k

  abbrev w : Network
  w = run.state

  agreed-is : (i : ℕ) → i < l.members → faulty i ≡ false → agreed_in (memory_of l faulty i mem) ≡ (w.member i).agreed
  agreed-is i low good = held-agreed l i (memory_of l faulty i mem) (w.member i) (run.held i low good)

  -- what stands in an honest member's memory was said
  said-there : (v : Vote) → faulty v.from ≡ false → heard_in l (memory_of l faulty v.from mem) v ≡ true →
      is_vote_in v w.said ≡ true
  said-there v good h =
      let low : v.from < l.members = (ranged l v (and_parts _ _ h).0).member in
      said-is-own all l faulty w (good-limits k) few run.reachable v.from v low good refl
      ∙ sym (held_heard l v.from (memory_of l faulty v.from mem) (w.member v.from) v
      (run.held v.from low good)) ∙ h

  pub comes : (v : Vote) → may_come l faulty mem v ≡ true → can_come faulty w v ≡ true
  comes v h =
      elim (cases_Bool (faulty v.from)) [
        | inl bad ↦ or_left (faulty v.from) (is_vote_in v w.said) bad
        | inr good ↦ or_right (faulty v.from) (is_vote_in v w.said)
            (elim (or_cases _ _ h) [ inl bad ↦ absurd (both_ways _ good bad) | inr at ↦ said-there v good at ])
      ]

  pub happens-there : (e : Event) → may_happen l faulty mem e ≡ true → can_happen faulty w e ≡ true
  unfolding can_happen
  happens-there (got_vote v) h = comes v h
  happens-there (got_proposal o) h = refl
  happens-there (got_block x) h = refl
  happens-there timeout h = refl
  happens-there (unreadable n) h = refl

  all_come : (vs : List Vote) → all_may_come l faulty mem vs ≡ true → all_can_come l faulty w vs ≡ true
  unfolding all_may_come all_can_come
  all_come [] h = refl
  all_come (v ∷ vs) h =
      let parts = and_parts _ _ h in
      let here = and_parts _ _ parts.0 in
      and_from _ _ (and_from _ _ here.0 (comes v here.1)) (all_come vs parts.1)

  certificate : (p x : ℕ) (vs : List Vote) → Certifies l faulty mem p x vs → Certificate l faulty w p x vs
  certificate p x vs c = record {
    alike = c.alike;
    different = c.different;
    possible = all_come vs c.possible;
    enough = c.enough;
  }

  pub agreement : Agreement l faulty mem
  agreement = record {
    one_agreed = λ i j a b li lj gi gj ea eb. one_agreed all l faulty w (good-limits k) few run.reachable i j a b
        li lj gi gj
        (sym (agreed-is i li gi) ∙ ea) (sym (agreed-is j lj gj) ∙ eb);
    one_certified = λ p q a b vs us c d. one_certified all l faulty w (good-limits k) few run.reachable p q a b vs us
        (certificate p a vs c) (certificate q b us d);
    agreed_certified = λ i p a b vs li gi e c.
        let both = (agreed-has_both all l faulty w (good-limits k) few run.reachable i a li gi
        (sym (agreed-is i li gi) ∙ e)).1 in
        one_certified all l faulty w (good-limits k) few run.reachable both.0 p a b both.1.0 vs both.1.1
        (certificate p b vs c);
  }
