use Rattle.std.proofs.Common.{◌*◌, ◌%◌, ◌^◌, mod-lt}
use Rattle.std.proofs.lemmas.Nat.{or_lt, pow_pos}
use Rattle.network.proofs.Bits.{has_with}
use Rattle.network.proofs.members.Members.with.Goals as goal

pub returns-clause-is : goal.returns-clause-is
returns-clause-is c h i = has_with c.args.self.bits c.args.member i h

pub invariant_of-result : goal.invariant_of-result
invariant_of-result c =
    record {
      word = or_lt 64 c.args.self.bits ((1 * 2 ^ c.args.member) % 2 ^ 64) c.args.self.word (mod-lt _ (pow_pos 64));
    }
