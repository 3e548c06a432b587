use Rattle.std.proofs.Common.{ℕ, Bool, List, ◌++◌, length, take, drop, Ok, vec_len, sym, refl, ◌∙◌}
use Rattle.std.proofs.Common.{subst, arith}
use Rattle.protocol.specs.Vote.{Limits}
use Rattle.wire.specs.Meaning.{event_of}
use Rattle.member.specs.Calls.{ByCall}
use Rattle.network.specs.Calls.{limits_in, faulty_in, memory_in}
use Rattle.network.proofs.Delivering.{called-then, only-then, runs_then, delivered}
use Rattle.network.proofs.Showing.{by_call}
use Rattle.network.proofs.Spans.{written-back}
use Rattle.network.proofs.state.Network.deliver.Goals as goal

pub invariant_of-self-clause-runs : goal.invariant_of-self-clause-runs
invariant_of-self-clause-runs c =
    let l : Limits = limits_in c.args.self.now in
    let faulty : ℕ → Bool = faulty_in c.args.self.now in
    let mem : List ℕ = memory_in c.args.self.now in
    let new : List ℕ = c.take_in.new.memory in
    let now : List ℕ = take (vec_len c.args.self.now.memory) (new ++ drop (length new) mem) in
    let back = written-back (vec_len c.args.self.now.memory) new (drop (length new) mem) (omega arith) in
    runs_then c.args.self.now.limits faulty mem now c.args.self.now.few c.args.self.now.runs
    c.args.to
    c.if-to-self.false (sym c.has.ensures.is ∙ c.if-has.false) (event_of c.args.event)
    (sym c.can_happen.ensures.is ∙ c.if-not-can_happen.false)
    (only-then l faulty c.args.to _ _ c.span-span.ensures.start c.span-span.ensures.size
    _ mem new now c.as_mut_slice.ensures.value back c.take_in.ensures.only)
    c.take_in.result
    (called-then l faulty c.args.to _ _ c.span-span.ensures.start c.span-span.ensures.size
    _ mem new now _ _ c.as_mut_slice.ensures.value back c.take_in.ensures.is)

pub unwrap-requires : goal.unwrap-requires
unwrap-requires c =
    let l : Limits = limits_in c.args.self.now in
    let faulty : ℕ → Bool = faulty_in c.args.self.now in
    let mem : List ℕ = memory_in c.args.self.now in
    by_call l faulty mem c.args.self.now.runs c.args.to c.if-to-self.false
    (sym c.has.ensures.is ∙ c.if-has.false) (event_of c.args.event) _ c.take_in.result
    (called-then l faulty c.args.to _ _ c.span-span.ensures.start c.span-span.ensures.size
    _ mem c.take_in.new.memory _ _ c.take_in.result c.as_mut_slice.ensures.value refl c.take_in.ensures.is)

pub returns-clause-is : goal.returns-clause-is
returns-clause-is c =
    let l : Limits = limits_in c.args.self.now in
    let faulty : ℕ → Bool = faulty_in c.args.self.now in
    let mem : List ℕ = memory_in c.args.self.now in
    let new : List ℕ = c.take_in.new.memory in
    let now : List ℕ = take (vec_len c.args.self.now.memory) (new ++ drop (length new) mem) in
    let back = written-back (vec_len c.args.self.now.memory) new (drop (length new) mem) (omega arith) in
    delivered c.args.self.now.limits faulty mem now c.args.self.now.few c.args.self.now.runs
    c.args.to
    c.if-to-self.false (sym c.has.ensures.is ∙ c.if-has.false) (event_of c.args.event)
    (sym c.can_happen.ensures.is ∙ c.if-not-can_happen.false)
    (only-then l faulty c.args.to _ _ c.span-span.ensures.start c.span-span.ensures.size
    _ mem new now c.as_mut_slice.ensures.value back c.take_in.ensures.only) c.unwrap.result
    (called-then l faulty c.args.to _ _ c.span-span.ensures.start c.span-span.ensures.size
    _ mem new now _
    (Ok c.unwrap.result) c.as_mut_slice.ensures.value back
    (subst (ByCall _ (event_of c.args.event) _) c.unwrap.ensures c.take_in.ensures.is))
