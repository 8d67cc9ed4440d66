-- At the loop the estimates of the ranges before i are written.
-- Assumes nothing.
use Rattle.laws.proofs.TabulateLaws.{Written}
use Rattle.estimate_rules.specs.Ranges.{range_count}
use Rattle.estimate_rules.specs.Worksheet.{answer_at}
use Rattle.estimator.proofs.worksheet.Worksheet.put_answers.Given as goal

abbrev pub invariant-loop-i : goal.invariant-loop-i
invariant-loop-i l = Written (range_count l.self.ranges.words.now) (answer_at l.self.histogram.words.now l.self.ranges.words.now) l.initial.out l.i l.out
