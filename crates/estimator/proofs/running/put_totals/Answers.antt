-- `estimator::running::put_totals` meets its contract: the running totals before bucket b are written, and the last one after the loop.
-- Assumes nothing.
use Rattle.std.proofs.Common.{◌≡◌, suc, ℕ, sym, ap, ◌∙◌, add-one, arith}
use Rattle.std.proofs.Math.ListN.{set}
use Rattle.laws.proofs.TabulateLaws.{none_written, one_written, all_written}
use Rattle.estimate_rules.specs.Running.{running_total, total_places}
use Rattle.estimate_rules.proofs.RunningLaws.{running_none, running_next, running_small}
use Rattle.estimator.proofs.running.put_totals.Goals as goal

pub loop-b-init : goal.loop-b-init
loop-b-init c =
    let ws = c.args.histogram.words.now in
    record {
      summed = sym (running_none ws);
      written = none_written (total_places ws) (running_total ws) c.args.out.now c.requires;
    }

pub overflow_add-sum : goal.overflow_add-sum
overflow_add-sum c =
    let ws = c.args.histogram.words.now in
    let l = c.loop-b in
    omega (
      arith,
      l.invariant.summed,
      running_next ws l.b,
      running_small ws c.args.histogram.readable (suc l.b) (omega (arith, c.bucket_count-buckets.ensures)),
    )

pub loop-b-preserved : goal.loop-b-preserved
loop-b-preserved c =
    let ws = c.args.histogram.words.now in
    let l = c.loop-b in
    let n = c.bucket_count-buckets.ensures in
    record {
      summed = rw (add-one l.b) (omega (arith, l.invariant.summed, running_next ws l.b));
      written = one_written (total_places ws) (running_total ws) c.args.out.now c.requires l.b l.out l.invariant.written l.sum (omega arith) l.invariant.summed;
    }

pub returns-clause-out_after : goal.returns-clause-out_after
returns-clause-out_after c =
    let ws = c.args.histogram.words.now in
    let l = c.loop-b in
    let n = c.bucket_count-buckets.ensures in
    let last : c.bucket_count-buckets.result ≡ l.b = omega arith in
    let w = one_written (total_places ws) (running_total ws) c.args.out.now c.requires l.b l.out l.invariant.written l.sum (omega arith) l.invariant.summed in
    ap (λ (k : ℕ). set l.out k l.sum) last ∙ all_written (total_places ws) (running_total ws) c.args.out.now c.requires _ _ w (omega arith)
