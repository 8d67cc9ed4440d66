-- The loop of `checker::bound::Bound::farther`: all ends after the last one are far from the start, and the highest of them has its height. The last one
-- gets earlier. Assumes nothing.
use Rattle.checker.specs.Private.Breaking.{Far}
use Rattle.checker.proofs.bound.Bound.farther.Given as goal

abbrev pub invariant-loop-last : goal.invariant-loop-last
invariant-loop-last l = Far l.freqs l.self l.reach (record { last = l.last; highest = l.highest })

abbrev pub decreases-loop-last : goal.decreases-loop-last
decreases-loop-last l = l.last.at
