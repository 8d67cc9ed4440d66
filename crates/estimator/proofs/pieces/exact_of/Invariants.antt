-- At the loop the buckets before b are summed.
-- Assumes nothing.
use Rattle.estimator.proofs.WalkLaws.{Passed}
use Rattle.estimator.proofs.pieces.exact_of.Given as goal

abbrev pub invariant-loop-b : goal.invariant-loop-b
invariant-loop-b l = Passed l.asked.histogram.words.now l.asked.range.x l.asked.range.y l.sum.fraction l.b
