-- At the loop the running totals before bucket b are written, and the sum is that at b.
-- Assumes nothing.
use Rattle.std.proofs.Common.{◌≡◌}
use Rattle.laws.proofs.TabulateLaws.{Written}
use Rattle.estimate_rules.specs.Running.{running_total, total_places}
use Rattle.estimator.proofs.running.put_totals.Given as goal

abbrev pub invariant-loop-b : goal.invariant-loop-b
invariant-loop-b l =
    record {
      summed : l.sum ≡ running_total l.histogram.words.now l.b;
      written : Written (total_places l.histogram.words.now) (running_total l.histogram.words.now) l.initial.out l.b l.out;
    }
