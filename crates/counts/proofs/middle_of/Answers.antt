-- `counts::middle_of` meets its contract: the constant, moved right, passes the test of the middle at each shift that a valid code has.
-- Assumes nothing.
use mathlib.Core.Path.{refl}
use native.Mathlib.Omega.{arith}
use Rattle.laws.specs.Each.{each}
use Rattle.counts_rules.proofs.TotalLaws.{middle_none, moved_is}
use Rattle.counts.proofs.middle_of.Goals as goal

pub returns-in-0 : goal.returns-in-0
returns-in-0 c = omega (arith, middle_none c.args.shift (omega arith))

pub returns-in_default : goal.returns-in_default
unfolding each
returns-in_default c = moved_is _ _ 24 refl c.args.shift (omega arith)
