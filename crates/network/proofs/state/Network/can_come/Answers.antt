use Rattle.std.proofs.Common.{ℕ, List, sym, ◌∙◌, subst}
use Rattle.protocol.specs.Vote.{Vote}
use Rattle.wire.specs.Meaning.{vote_of}
use Rattle.member.specs.Calls.{BySaid}
use Rattle.network.specs.Calls.{limits_in, faulty_in, memory_in}
use Rattle.network.proofs.Agreeing.{nobody_said}
use Rattle.network.proofs.Delivering.{said_comes}
use Rattle.network.proofs.Showing.{by_said}
use Rattle.network.proofs.state.Network.can_come.Goals as goal

pub returns-then-vote-self : goal.returns-then-vote-self
returns-then-vote-self c = record {
  is = sym (nobody_said (limits_in c.args.self.now) (faulty_in c.args.self.now)
      (memory_in c.args.self.now) (vote_of c.args.vote) (sym c.has.ensures.is ∙ c.if-has.false)
      c.if-vote-self.true);
}

pub returns : goal.returns
returns c =
    let v : Vote = vote_of c.args.vote in
    let said = subst (λ (part : List ℕ). BySaid part v c.said.result) c.part.ensures.is c.said.ensures.is in
    record {
      is = said_comes c.args.self.now.limits (faulty_in c.args.self.now)
          (memory_in c.args.self.now)
          c.args.self.now.runs v c.unwrap.result c.if-vote-self.false
          (sym c.has.ensures.is ∙ c.if-has.false)
          (subst (BySaid _ v) c.unwrap.ensures said);
    }

pub unwrap-requires : goal.unwrap-requires
unwrap-requires c =
    by_said (limits_in c.args.self.now) (faulty_in c.args.self.now)
    (memory_in c.args.self.now)
    c.args.self.now.runs c.args.vote.from c.if-vote-self.false
    (sym c.has.ensures.is ∙ c.if-has.false) (vote_of c.args.vote) c.said.result
    (subst (λ (part : List ℕ). BySaid part (vote_of c.args.vote) c.said.result) c.part.ensures.is c.said.ensures.is)
