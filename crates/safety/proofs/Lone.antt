-- The facts of one member alone after any events.
use Rattle.std.proofs.Common.{◌≡◌, ℕ, ◌≤◌, Bool, true, false, sym, refl, ◌∙◌, arith}
use Rattle.std.proofs.lemmas.Bool.{both_ways}
use Rattle.protocol.specs.Vote.{soft, cert, Vote, Limits, slot_taken}
use Rattle.protocol.specs.Member.{Member, own}
use Rattle.protocol.specs.Programs.{member_after}
use Rattle.safety.specs.Alone.{HeardOnce, HeardInRange, InItsPlace, Fresh, OwnFresh, OneValueHeard, Begins}
use Rattle.safety.specs.Alone.{AgreesAtOnce, CertainIsSaid, CertainAtOnce}
use Rattle.protocol.proofs.Votes.{SamePlace}
use Rattle.protocol.proofs.Ranges.{range_test}
use Rattle.safety.proofs.Votes.{slot_free, slot_has}
use Rattle.safety.proofs.Counting.{quorum_one}
use Rattle.safety.proofs.Keeps.{Keeps, Behind}
use Rattle.safety.proofs.Certain.{member_after-said, member_after-says}
use Rattle.safety.proofs.Events.{member_after_keeps, member_after_leaves_nothing}

pub heard_once : HeardOnce
heard_once l i es member = (member_after_keeps l i es member).heard.fair.different

pub heard_in_range : HeardInRange
heard_in_range l i es member v h = range_test l v ((member_after_keeps l i es member).heard.in_range v h)

pub in_its_place : InItsPlace
in_its_place l i es member =
    let k : Keeps l i (member_after l i es) = member_after_keeps l i es member in
    record { me = k.me; from_1 = k.within.from_1; periods = k.within.periods; steps = k.within.steps }

-- nothing of its own stands in a slot that is not behind it
pub not_behind : (l : Limits) (i : ℕ) (m : Member) (v : Vote) → Keeps l i m → v.from ≡ i →
    ((w : Vote) → SamePlace v w → Behind m.period m.step m.certain w → ⊥) → slot_taken v m.votes ≡ false
not_behind l i m v k mine none =
    slot_free v m.votes (λ w h s. none w s (k.behind w h (sym s.from ∙ mine)))

pub keeps_fresh : (l : Limits) (i : ℕ) (m : Member) → Keeps l i m → Fresh l i m
keeps_fresh l i m k =
    record {
      soft_slot = λ x start. not_behind l i m (own m soft 0 x) k k.me
          (λ w s b. let past : 1 ≤ m.step = b.soft_behind (sym s.kind) (sym s.period) in omega arith);
      cert_slot = λ x not_yet. not_behind l i m (own m cert 0 x) k k.me
          (λ w s b. both_ways _ not_yet (b.cert_behind (sym s.kind) (sym s.period)).0);
      step_slots = λ j s x on later. not_behind l i m (own m j s x) k k.me
          (λ w p b. let same : j ≡ w.kind = p.kind in
          let past : w.step ≤ m.step = b.next_behind (omega arith) (sym p.period) in
          let at : s ≡ w.step = p.step in
          omega arith);
      later_slots = λ v mine later. not_behind l i m v k mine
          (λ w s b. let same : v.period ≡ w.period = s.period in
          let past : w.period ≤ m.period = b.not_later in
          omega arith);
    }

pub own_fresh : OwnFresh
own_fresh l i es member = keeps_fresh l i (member_after l i es) (member_after_keeps l i es member)

pub one_value_heard : OneValueHeard
one_value_heard l i es member k p s a b ha hb =
    quorum_one l k p s a b (member_after l i es).votes (omega arith)
    (member_after_keeps l i es member).heard.fair ha hb

pub begins : Begins
begins l i es member =
    let k : Keeps l i (member_after l i es) = member_after_keeps l i es member in
    record { with_none = λ e. (k.came.if_free e).0; with_one = λ e. let (x, s, w, b) = k.came.else_with e in (x, s) }

pub agrees_at_once : AgreesAtOnce
agrees_at_once l i es member = member_after_leaves_nothing l i es

pub certain-is-said : CertainIsSaid
certain-is-said l i es member x = go (member_after l i es).certain refl
  where
    m : Member
    m = member_after l i es

    go : (b : Bool) → (member_after l i es).certain ≡ b → slot_taken (own m cert 0 x) m.votes ≡ b
    go true is =
        let (y, at) = member_after-said l i es is in
        slot_has (own m cert 0 x) (own m cert 0 y) m.votes at
        (record { kind = refl; period = refl; step = refl; from = refl })
    go false not_yet = (own_fresh l i es member).cert_slot x not_yet

pub certain_at_once : CertainAtOnce
certain_at_once l i es member = member_after-says l i es
