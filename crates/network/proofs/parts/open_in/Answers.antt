use Rattle.std.proofs.Common.{ℕ, ◌-◌, ◌≤◌, List, length, take, drop, sym, subst, arith, length-drop}
use Rattle.std.proofs.Common.{length-take}
use Rattle.protocol.specs.Programs.{memory_size}
use Rattle.protocol.specs.Promises.{all}
use Rattle.limits.specs.Limits.{limits_of}
use Rattle.member.specs.Calls.{Opened, ByOpen}
use Rattle.network.proofs.Opening.{numbers_of, opens}
use Rattle.network.proofs.Spans.{part-is, part-only}
use Rattle.network.proofs.parts.open_in.Goals as goal

pub unwrap-requires : goal.unwrap-requires
unwrap-requires c =
    let long : memory_size (limits_of all c.args.limits) ≤ length
    (take (c.args.span.end - c.args.span.start) (drop c.args.span.start c.args.memory.now)) =
    simp (length-take, length-drop) (omega (arith, c.requires.size, c.requires.within)) in
    opens c.args.limits c.args.me _ _ c.open.result c.requires.me long c.open.ensures.is

pub returns-clause-is : goal.returns-clause-is
returns-clause-is c =
    let opened = subst (ByOpen _ _ _ _ c.args.me _ c.open.new.memory) c.unwrap.ensures c.open.ensures.is in
    subst (λ (new : List ℕ). Opened (limits_of all c.args.limits) c.args.me new)
    (sym (part-is c.args.span.start c.args.span.end c.args.memory.now c.open.new.memory
    (omega (arith, c.requires.size)) c.requires.within (omega arith)))
    (opened.1.is (limits_of all c.args.limits) (numbers_of c.args.limits))

pub returns-clause-only : goal.returns-clause-only
returns-clause-only c =
    part-only c.args.span.start c.args.span.end c.args.memory.now c.open.new.memory
    (omega (arith, c.requires.size)) c.requires.within (omega arith)
