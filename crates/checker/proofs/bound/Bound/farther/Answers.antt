-- `checker::bound::Bound::farther` meets its contract. At the loop all ends after the last one are far from the start, and the highest of them has its height.
-- Assumes nothing.
use Rattle.std.proofs.Common.{ℕ, ◌+◌, arith, sym, subst}
use Rattle.checker.specs.Private.Breaking.{Far}
use Rattle.checker.proofs.BoundLaws.{steps, over_small, under_small, not_first, moved, moved_at, far_more}
use Rattle.checker.proofs.bound.Bound.farther.Goals as goal

pub overflow_add-reach : goal.overflow_add-reach
overflow_add-reach c =
    let o = over_small c.args.freqs.now c.args.self c.requires.usable c.args.start c.requires.point in
    omega (arith, c.requires.usable.least_small)

pub overflow_add-last : goal.overflow_add-last
overflow_add-last c =
    let l = c.loop-last in
    let o = over_small c.args.freqs.now c.args.self c.requires.usable l.last l.invariant.point in
    let u = under_small c.args.freqs.now c.args.self c.requires.usable l.last l.invariant.point in
    omega arith

-- the last end is far, so it is not the first point
pub one_earlier-last-requires : goal.one_earlier-last-requires
one_earlier-last-requires c =
    let l = c.loop-last in
    let some = not_first c.args.freqs.now c.args.self l.last l.invariant.point (c.args.start.over + c.args.self.least) (omega arith) in
    steps c.args.freqs.now c.args.self l.last l.invariant.point some c.requires.usable

pub loop-last-smaller : goal.loop-last-smaller
loop-last-smaller c =
    let l = c.loop-last in
    let some = not_first c.args.freqs.now c.args.self l.last l.invariant.point (c.args.start.over + c.args.self.least) (omega arith) in
    omega (arith, moved_at c.args.freqs.now c.args.self l.last c.one_earlier-last.result l.invariant.point some c.one_earlier-last.ensures)

pub loop-last-preserved : goal.loop-last-preserved
loop-last-preserved c =
    let l = c.loop-last in
    let fs = c.args.freqs.now in
    let b = c.args.self in
    let reach = c.args.start.over + b.least in
    let p = c.one_earlier-last.result in
    let some = not_first fs b l.last l.invariant.point reach (omega arith) in
    let is = moved fs b l.last p l.invariant.point some c.one_earlier-last.ensures in
    let at = moved_at fs b l.last p l.invariant.point some c.one_earlier-last.ensures in
    subst (λ (h : ℕ). Far fs b reach (record { last = p; highest = h })) (omega arith)
    (far_more fs b reach (record { last = l.last; highest = l.highest }) p l.invariant (omega arith) is (sym at))
