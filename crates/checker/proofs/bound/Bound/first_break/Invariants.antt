-- The loop of `checker::bound::Bound::first_break`: the ends far from the start in hand are known, and so is the first start from it on of a range that
-- breaks the bound. The start gets earlier. Assumes nothing.
use Rattle.checker.proofs.BreakSteps.{Passed}
use Rattle.checker.proofs.bound.Bound.first_break.Given as goal

abbrev pub invariant-loop-start : goal.invariant-loop-start
invariant-loop-start l = Passed l.freqs l.self l.start l.ends l.first

abbrev pub decreases-loop-start : goal.decreases-loop-start
decreases-loop-start l = l.start.at
