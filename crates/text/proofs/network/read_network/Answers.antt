use Rattle.std.proofs.Common.{arith}
use Rattle.limits.specs.declared.bounds.Limit.TheVariants.{Periods, Steps, Blocks}
use Rattle.text.proofs.Refused.{is_number, not_number}
use Rattle.text.proofs.network.read_network.Goals as goal

pub returns-in_err-periods : goal.returns-in_err-periods
returns-in_err-periods c =
    let members = is_number (omega arith) c.in_ok-members-2.ensures.is in
    let error = c.in_err-periods.ensures.is in
    record {
      is = not_number c.args.line.now _ Periods _ _ c.from_residual-in_err-periods.ensures.1 c.fields.ensures.is
          c.in_ok-members.ensures.ok_part error.0 (members, error.1);
    }

pub returns-in_err-steps : goal.returns-in_err-steps
returns-in_err-steps c =
    let members = is_number (omega arith) c.in_ok-members-2.ensures.is in
    let periods = is_number (omega arith) c.in_ok-periods.ensures.is in
    let error = c.in_err-steps.ensures.is in
    record {
      is = not_number c.args.line.now _ Steps _ _ c.from_residual-in_err-steps.ensures.1 c.fields.ensures.is
          c.in_ok-members.ensures.ok_part error.0 (members, (periods, error.1));
    }

pub returns-in_err-blocks : goal.returns-in_err-blocks
returns-in_err-blocks c =
    let members = is_number (omega arith) c.in_ok-members-2.ensures.is in
    let periods = is_number (omega arith) c.in_ok-periods.ensures.is in
    let steps = is_number (omega arith) c.in_ok-steps.ensures.is in
    let error = c.in_err-blocks.ensures.is in
    record {
      is = not_number c.args.line.now _ Blocks _ _ c.from_residual-in_err-blocks.ensures.1 c.fields.ensures.is
          c.in_ok-members.ensures.ok_part error.0 (members, (periods, (steps, error.1)));
    }
