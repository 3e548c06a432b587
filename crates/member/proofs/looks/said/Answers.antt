use Rattle.protocol.specs.Programs.{member_after}
use Rattle.member.proofs.Calling.{looks}
use Rattle.member.proofs.looks.said.Goals as goal

pub returns : goal.returns
returns c = record {
  is = λ l i es k. c.has_said.ensures.is (member_after l i es)
      (looks c.args.memory.now c.in_ok-member.member c.in_ok-member.ensures.is l i es k);
  held = (c.in_ok-member.member, c.in_ok-member.ensures.is);
}
