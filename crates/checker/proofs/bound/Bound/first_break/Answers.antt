-- `checker::bound::Bound::first_break` meets its contract. At the loop the ends far from the start in hand are known, and so is the first start from it on of a
-- range that breaks the bound.
-- Assumes nothing.
use Rattle.std.proofs.Common.{◌+◌, arith}
use Rattle.checker.proofs.BoundLaws.{steps, over_small, under_small, moved, moved_over, far_earlier}
use Rattle.checker.proofs.BreakSteps.{next_found, next_kept}
use Rattle.checker.proofs.bound.Bound.first_break.Goals as goal

pub one_earlier-start-requires : goal.one_earlier-start-requires
one_earlier-start-requires c =
    let l = c.loop-start in steps c.args.freqs.now c.args.self l.start l.invariant.point (omega arith) c.requires.usable

pub farther-ends-requires : goal.farther-ends-requires
farther-ends-requires c =
    let l = c.loop-start in
    let fs = c.args.freqs.now in
    let b = c.args.self in
    let p = c.one_earlier-start.result in
    record {
      usable = c.requires.usable;
      point = moved fs b l.start p l.invariant.point (omega arith) c.one_earlier-start.ensures;
      far =
          far_earlier fs b (l.start.over + b.least) _ l.ends
          (omega (arith, moved_over fs b l.start p l.invariant.point (omega arith) c.one_earlier-start.ensures)) l.invariant.far;
    }

pub overflow_add-start-in-loop-start : goal.overflow_add-start-in-loop-start
overflow_add-start-in-loop-start c =
    let l = c.loop-start in
    let fs = c.args.freqs.now in
    let b = c.args.self in
    let p = c.one_earlier-start.result in
    let is = moved fs b l.start p l.invariant.point (omega arith) c.one_earlier-start.ensures in
    let o = over_small fs b c.requires.usable p is in
    let u = under_small fs b c.requires.usable p is in
    omega arith

pub loop-start-preserved-then-start-ends : goal.loop-start-preserved-then-start-ends
loop-start-preserved-then-start-ends c =
    let l = c.loop-start in
    next_found c.args.freqs.now c.args.self l.start _ l.ends _ l.first l.invariant (omega arith) c.one_earlier-start.ensures c.farther-ends.ensures (omega arith)

pub loop-start-preserved : goal.loop-start-preserved
loop-start-preserved c =
    let l = c.loop-start in
    next_kept c.args.freqs.now c.args.self l.start _ l.ends _ l.first l.invariant (omega arith) c.one_earlier-start.ensures c.farther-ends.ensures (omega arith)
