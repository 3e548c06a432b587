use Rattle.std.proofs.Common.{sym, ◌∙◌}
use Rattle.std.proofs.lemmas.Bool.{le-ltb}
use Rattle.network.proofs.Bits.{has_masked, has_past}
use Rattle.network.proofs.members.Members.has.Goals as goal

pub returns-then-member-lt64 : goal.returns-then-member-lt64
returns-then-member-lt64 c = record { is = has_masked c.args.self.bits c.args.member }

pub returns-else-member-lt64 : goal.returns-else-member-lt64
returns-else-member-lt64 c = record {
  is = le-ltb c.args.member 64 c.if-member-lt64.false
      ∙ sym (has_past c.args.self.bits c.args.member c.args.self.word c.if-member-lt64.false);
}
