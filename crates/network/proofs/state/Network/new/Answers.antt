use Rattle.std.proofs.Common.{ℕ, Bool, List, ◌++◌, length, take, drop, vec_items, vec_len, subst, arith}
use Rattle.protocol.specs.Promises.{all}
use Rattle.protocol.specs.Vote.{Limits}
use Rattle.limits.specs.Limits.{limits_of}
use Rattle.network.specs.Members.{has}
use Rattle.network.proofs.Apart.{others, start_is}
use Rattle.network.proofs.Running.{begins}
use Rattle.network.proofs.Spans.{written-back}
use Rattle.network.specs.Begins.{AllNew}
use Rattle.network.proofs.state.Network.new.Goals as goal

pub returns-then-limits-honest : goal.returns-then-limits-honest
returns-then-limits-honest c = record {
  is = omega (
    arith,
    c.if-limits-honest.true,
    c.others_below-honest.ensures.is,
    others
        (has c.args.faulty.bits) c.args.limits.members,
  );
}

pub returns-then-len-needed : goal.returns-then-len-needed
returns-then-len-needed c = record {
  is = (
    omega (
      arith,
      c.if-limits-honest.false,
      c.others_below-honest.ensures.is,
      others (has c.args.faulty.bits)
          c.args.limits.members,
    ),
    (
      start_is (limits_of all c.args.limits) (has c.args.faulty.bits) c.args.limits.members _ _
          c.others_below-honest.ensures.is c.memory.ensures.is,
      omega (arith, c.if-len-needed.true, c.len.ensures),
    ),
  );
}

pub invariant_of-result : goal.invariant_of-result
invariant_of-result c =
    let l : Limits = limits_of all c.args.limits in
    let faulty : ℕ → Bool = has c.args.faulty.bits in
    let room = start_is l faulty l.members _ _ c.others_below-honest.ensures.is c.memory.ensures.is in
    let honest = c.others_below-honest.ensures.is in
    let n : ℕ = vec_len c.args.memory in
    let new : List ℕ = c.open_all.new.memory in
    let rest : List ℕ = drop (length new) (vec_items c.args.memory) in
    record {
      few = omega (arith, c.if-limits-honest.false, honest, others faulty c.args.limits.members);
      room = omega (arith, room, c.if-len-needed.false, c.len.ensures);
      runs = ∣ begins l faulty (take n (new ++ rest))
          (subst (AllNew l faulty) (written-back n new rest (omega arith)) c.open_all.ensures.is) ∣₁;
    }
