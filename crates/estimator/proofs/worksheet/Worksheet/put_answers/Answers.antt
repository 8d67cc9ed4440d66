-- `estimator::worksheet::Worksheet::put_answers` meets its contract: at the loop the estimates of the ranges before i are written.
-- Assumes nothing.
use Rattle.std.proofs.Common.{◌∙◌, arith}
use Rattle.laws.proofs.TabulateLaws.{one_written}
use Rattle.estimate_rules.specs.Asking.{estimate}
use Rattle.estimate_rules.specs.Ranges.{range_count}
use Rattle.estimate_rules.specs.Worksheet.{answer_at}
use Rattle.estimate_rules.proofs.RangesLaws.{range_ordered, range_within}
use Rattle.estimator.proofs.worksheet.Worksheet.put_answers.Goals as goal

pub invariant_of-asked : goal.invariant_of-asked
invariant_of-asked c =
    let s = c.args.self in
    let i = c.loop-i.i in
    let x = c.at.ensures.x in
    let y = c.at.ensures.y in
    record {
      ordered = omega (arith, range_ordered s.histogram.words.now s.ranges.words.now s.in_list i (omega arith));
      within = omega (arith, range_within s.histogram.words.now s.ranges.words.now s.in_list i (omega arith));
    }

pub loop-i-preserved : goal.loop-i-preserved
loop-i-preserved c =
    let s = c.args.self in
    let l = c.loop-i in
    let x = c.at.ensures.x in
    let y = c.at.ensures.y in
    one_written (range_count s.ranges.words.now) (answer_at s.histogram.words.now s.ranges.words.now) c.args.out.now c.requires l.i l.out l.invariant _
    (omega arith) (c.estimate_by.ensures ∙ (λ i. estimate s.histogram.words.now (x i) (y i)))
