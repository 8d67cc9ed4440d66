-- `estimator::search::Search::estimate` meets its contract: at the loop the estimates of the ranges before i are summed.
-- Assumes nothing.
use Rattle.std.proofs.Common.{◌≡◌, ℕ, suc, ◌+◌, List, add-one, ◌∙◌, arith}
use Rattle.laws.specs.Sums.{sum}
use Rattle.laws.specs.Tabulate.{tabulate}
use Rattle.laws.proofs.TabulateLaws.{sum_suc}
use Rattle.estimate_rules.specs.Asking.{estimate}
use Rattle.estimate_rules.specs.Ranges.{x_at, y_at}
use Rattle.estimate_rules.specs.Worksheet.{answer_at}
use Rattle.estimate_rules.proofs.RangesLaws.{range_ordered, range_within}
use Rattle.estimate_rules.proofs.Proved.{sum_small}
use Rattle.estimator.proofs.search.Search.estimate.Goals as goal

-- with the next estimate
next : (ws ranges : List ℕ) (i s x y n : ℕ) → s ≡ sum (tabulate i (answer_at ws ranges)) → x ≡ x_at ranges i → y ≡ y_at ranges i → n ≡ estimate ws x y
    → s + n ≡ sum (tabulate (suc i) (answer_at ws ranges))
next ws ranges i s x y n p q r e =
    let f = e ∙ (λ j. estimate ws (q j) (r j)) in
    omega (arith, sum_suc i (answer_at ws ranges))

pub invariant_of-asked : goal.invariant_of-asked
invariant_of-asked c =
    let s = c.args.self in
    let i = c.loop-i.i in
    let x = c.at.ensures.x in
    let y = c.at.ensures.y in
    record {
      ordered = omega (arith, range_ordered s.histogram.words.now s.ranges.words.now s.in_list i (omega arith));
      within = omega (arith, range_within s.histogram.words.now s.ranges.words.now s.in_list i (omega arith));
    }

pub overflow_add-sum : goal.overflow_add-sum
overflow_add-sum c =
    let s = c.args.self in
    let l = c.loop-i in
    let n = next s.histogram.words.now s.ranges.words.now l.i l.sum _ _ _ l.invariant c.at.ensures.x c.at.ensures.y c.estimate-n.ensures in
    omega (arith, n, sum_small s.histogram.words.now s.ranges.words.now s.histogram.readable (suc l.i), s.few)

pub loop-i-preserved : goal.loop-i-preserved
loop-i-preserved c =
    let s = c.args.self in
    let l = c.loop-i in
    rw (add-one l.i) (next s.histogram.words.now s.ranges.words.now l.i l.sum _ _ _ l.invariant c.at.ensures.x c.at.ensures.y c.estimate-n.ensures)
