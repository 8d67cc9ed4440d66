-- `estimator::search::order_fault` meets its contract: what is compared is the start of range i with the end of the one ahead of it.
-- Assumes nothing.
use Rattle.std.proofs.Common.{◌≡◌, ◌-◌, suc, sym, ap, ◌∙◌, arith}
use Rattle.std.specs.Prelude.{ltb}
use borrow.Author.Tests.{lt-ltb}
use Rattle.laws.proofs.EachLaws.{some_found, none_found}
use Rattle.estimate_rules.specs.Ranges.{range_count, x_at}
use Rattle.estimate_rules.specs.Search.{starts_early, order_fault}
use Rattle.estimator.proofs.search.order_fault.Goals as goal

pub returns-then-at : goal.returns-then-at
unfolding order_fault
returns-then-at c =
    let r = c.args.ranges.words.now in
    let i = c.loop-i.i in
    let next : suc (i - 1) ≡ i = omega (arith, c.loop-i.auto.i) in
    let x = ap (x_at r) next ∙ sym c.at.ensures.x in
    let y = sym c.at-in-loop-i.ensures.y in
    some_found (range_count r - 1) (starts_early r) (i - 1) (omega (arith, c.loop-i.auto.i))
    ((λ i. ltb (x i) (y i)) ∙ lt-ltb c.at.result.x c.at-in-loop-i.result.y (omega arith))

pub returns : goal.returns
unfolding order_fault
returns c =
    let r = c.args.ranges.words.now in
    none_found (range_count r - 1) (starts_early r) (c.loop-i.i - 1) (omega arith) c.loop-i.invariant
