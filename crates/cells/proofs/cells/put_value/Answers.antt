use Rattle.std.proofs.Common.{◌≡◌, ℕ, ◌+◌, ◌-◌, length, ap, ◌∙◌, subst, arith}
use borrow.Rule.Slice.PartMut.{put_mid}
use Rattle.values.specs.Digits.{number_of}
use Rattle.cells.specs.Cells.{value_at, Only}
use Rattle.cells.proofs.Written.{value_written, written_only}
use Rattle.cells.proofs.cells.put_value.Goals as goal

pub returns : goal.returns
returns c =
    let xs = c.args.part.now in
    let at = c.args.at in
    let ys = c.copy_from_slice.new.self in
    let is : ys ≡ c.args.value.limbs = c.copy_from_slice.ensures.after ∙ c.limbs.ensures.is in
    let long : length ys ≡ 4 = ap length is ∙ c.args.value.four in
    let four : 4 ≡ at + 4 - at = omega arith in
    record {
      is = subst (λ (k : ℕ). value_at (put_mid at k xs ys) at ≡ number_of c.args.value.limbs) four
          (value_written at xs ys long c.requires.within ∙ ap number_of is);
      only = subst (λ (k : ℕ). Only at (at + 4) xs (put_mid at k xs ys)) four
          (written_only at 4 xs ys long c.requires.within);
    }
