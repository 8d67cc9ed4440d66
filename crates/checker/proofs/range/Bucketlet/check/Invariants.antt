-- The loops of `checker::range::Bucketlet::check`: at the outer one every range with an earlier start is good, at the inner one every range from this
-- start of at most i entries, and the count is that of the longest of them. Assumes nothing.
use Rattle.checker.proofs.SearchSteps.{Starts, Ends}
use Rattle.checker.proofs.range.Bucketlet.check.Given as goal

abbrev pub invariant-loop-start : goal.invariant-loop-start
invariant-loop-start l = Starts l.self.quality l.self.freqs.now l.self.start l.self.width l.self.number l.start

abbrev pub invariant-loop-i : goal.invariant-loop-i
invariant-loop-i l = Ends l.self.quality l.self.freqs.now l.self.start l.self.width l.self.number l.start l.i l.count
