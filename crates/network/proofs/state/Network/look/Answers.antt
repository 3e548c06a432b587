use Rattle.std.proofs.Common.{ℕ, List, IfSome, sym, ◌∙◌, subst, MatchOption}
use Rattle.member.specs.Calls.{IsNotOpen, Looks}
use Rattle.member.specs.Header.{Header}
use Rattle.network.specs.Calls.{limits_in, faulty_in, memory_in}
use Rattle.network.proofs.Showing.{by_look}
use Rattle.network.proofs.state.Network.look.Goals as goal

pub returns : goal.returns
returns c =
    let there = c.part.ensures.is in
    record {
      is = by_look (limits_in c.args.self.now) (faulty_in c.args.self.now)
          (memory_in c.args.self.now)
          c.args.self.now.runs c.args.member c.if-member-self.false
          (sym c.has.ensures.is ∙ c.if-has.false) c.look.result
          (subst (λ (part : List ℕ). MatchOption c.look.result (IsNotOpen part) (Looks part)) there c.look.ensures.is)
          (subst (λ (part : List ℕ). IfSome c.look.result (λ x. Header part x)) there c.look.ensures.header);
    }
