-- The loop turns as the definition does. Its measure is the distance of the two, of which each turn leaves about half.
-- Assumes nothing.
use Rattle.std.proofs.Common.{◌-◌}
use Rattle.finder.proofs.HalvingSteps.{Between}
use Rattle.finder.proofs.bucket_of.Given as goal

abbrev pub invariant-loop-low : goal.invariant-loop-low
invariant-loop-low l = Between l.words l.entry l.low l.high

abbrev pub decreases-loop-low : goal.decreases-loop-low
decreases-loop-low l = l.high - l.low
