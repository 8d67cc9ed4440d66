-- At the loop no range before i starts before the one ahead of it ends.
-- Assumes nothing.
use Rattle.std.proofs.Common.{◌-◌}
use Rattle.laws.proofs.EachLaws.{NoneBefore}
use Rattle.estimate_rules.specs.Ranges.{range_count}
use Rattle.estimate_rules.specs.Search.{starts_early}
use Rattle.estimator.proofs.search.order_fault.Given as goal

abbrev pub invariant-loop-i : goal.invariant-loop-i
invariant-loop-i l = NoneBefore (range_count l.ranges.words.now - 1) (starts_early l.ranges.words.now) (l.i - 1)
