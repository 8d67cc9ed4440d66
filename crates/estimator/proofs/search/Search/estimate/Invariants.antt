-- At the loop the estimates of the ranges before i are summed.
-- Assumes nothing.
use Rattle.std.proofs.Common.{◌≡◌}
use Rattle.laws.specs.Sums.{sum}
use Rattle.laws.specs.Tabulate.{tabulate}
use Rattle.estimate_rules.specs.Worksheet.{answer_at}
use Rattle.estimator.proofs.search.Search.estimate.Given as goal

abbrev pub invariant-loop-i : goal.invariant-loop-i
invariant-loop-i l = l.sum ≡ sum (tabulate l.i (answer_at l.self.histogram.words.now l.self.ranges.words.now))
