-- At the loop all places before b hold their running totals, and the sum is that at b.
-- Assumes nothing.
use Rattle.std.proofs.Common.{◌≡◌}
use Rattle.laws.proofs.EachLaws.{NoneBefore}
use Rattle.estimate_rules.specs.Running.{running_total, total_places}
use Rattle.estimate_rules.specs.Worksheet.{wrong_at}
use Rattle.estimator.proofs.running.totals_fault.Given as goal

abbrev pub invariant-loop-b : goal.invariant-loop-b
invariant-loop-b l =
    record {
      summed : l.right ≡ running_total l.histogram.words.now l.b;
      right : NoneBefore (total_places l.histogram.words.now) (wrong_at l.histogram.words.now l.totals) l.b;
    }
