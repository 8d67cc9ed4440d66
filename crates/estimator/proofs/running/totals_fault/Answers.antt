-- `estimator::running::totals_fault` meets its contract: all places before b hold their running totals, and the last is compared after the loop.
-- Assumes nothing.
use Rattle.std.proofs.Common.{◌≡◌, suc, sym, ap, ◌∙◌, add-one, arith}
use Rattle.std.specs.Prelude.{not, eqb}
use borrow.Author.Tests.{eq-eqb}
use Rattle.laws.proofs.EachLaws.{none_yet, none_more, last_found}
use Rattle.words_rules.specs.Words.{word}
use Rattle.estimate_rules.specs.Running.{running_total, total_places}
use Rattle.estimate_rules.specs.Worksheet.{wrong_at, totals_fault}
use Rattle.estimate_rules.proofs.RunningLaws.{running_none, running_next, running_small}
use Rattle.estimator.proofs.running.totals_fault.Goals as goal

pub loop-b-init : goal.loop-b-init
loop-b-init c =
    let ws = c.args.histogram.words.now in
    record { summed = sym (running_none ws); right = none_yet (total_places ws) (wrong_at ws c.args.totals.now) }

pub overflow_add-right : goal.overflow_add-right
overflow_add-right c =
    let ws = c.args.histogram.words.now in
    let l = c.loop-b in
    omega (
      arith,
      l.invariant.summed,
      running_next ws l.b,
      running_small ws c.args.histogram.readable (suc l.b) (omega (arith, c.bucket_count-buckets.ensures)),
    )

pub loop-b-preserved : goal.loop-b-preserved
loop-b-preserved c =
    let ws = c.args.histogram.words.now in
    let totals = c.args.totals.now in
    let l = c.loop-b in
    let n = c.bucket_count-buckets.ensures in
    record {
      summed = rw (add-one l.b) (omega (arith, l.invariant.summed, running_next ws l.b));
      right =
          none_more (total_places ws) (wrong_at ws totals) l.b (omega arith) l.invariant.right
          (ap not (eq-eqb (word totals l.b) (running_total ws l.b) (omega (arith, l.invariant.summed))));
    }

pub returns : goal.returns
unfolding totals_fault
returns c =
    let a = c.args in
    let l = c.loop-b in
    let last : c.bucket_count-buckets.result ≡ l.b = omega arith in
    let summed = l.invariant.summed in
    (λ i. not (eqb (word a.totals.now (last i)) (summed i)))
    ∙ last_found (total_places a.histogram.words.now) (wrong_at a.histogram.words.now a.totals.now) l.b (omega (arith, c.bucket_count-buckets.ensures)) l.invariant.right
