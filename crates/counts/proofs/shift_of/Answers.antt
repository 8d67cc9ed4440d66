-- `counts::shift_of` meets its contract: the branch taken says which of the two the shift is.
-- Assumes nothing.
use Prim.Native.Nat.{◌-◌}
use native.Mathlib.Omega.{arith}
use Rattle.laws.proofs.Tests.{by_lt}
use Rattle.counts_rules.specs.Total.{highest_bit, shift}
use Rattle.counts_rules.proofs.TotalLaws.{seven_below}
use Rattle.counts.proofs.shift_of.Goals as goal

pub overflow_sub-result : goal.overflow_sub-result
overflow_sub-result c = omega (arith, c.highest_bit.ensures.0, seven_below c.args.total (omega arith))

pub returns : goal.returns
unfolding shift
returns c = let t = c.args.total in by_lt t 128 _ 0 (highest_bit t - 6) (λ h. omega arith) (λ h. omega (arith, c.highest_bit.ensures.0))
