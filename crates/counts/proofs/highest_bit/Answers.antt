-- `counts::highest_bit` meets its contract: leading zeros give the place. Assumes nothing.
use native.Mathlib.Omega.{arith}
use Rattle.counts.proofs.CountLaws.{highest_by_zeros}
use Rattle.counts.proofs.highest_bit.Goals as goal

pub returns : goal.returns
returns c = (omega (arith, highest_by_zeros c.args.count (omega arith) (omega arith)), omega arith)
