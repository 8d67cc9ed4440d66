-- `builder::bucketlet::Bucketlet::advanced` meets its contract. At the loop all starts before the first light one are heavy, and the lowest is no higher than each.
-- Assumes nothing.
use mathlib.Core.Path.{ap}
use mathlib.Core.List.{List}
use Prim.Native.Nat.{ℕ, suc, ◌+◌, ◌<◌}
use native.Mathlib.Omega.{arith}
use Rattle.build_bounds.specs.declared.Bound.{Bound}
use Rattle.build_bounds.specs.declared.Kept.{Kept}
use Rattle.build_bounds.specs.declared.Point.{Point}
use Rattle.build_bounds.specs.Private.Growing.{Ending, Heavy, LowestOf}
use Rattle.build_bounds.proofs.RangeLaws.{count_mono, heavy_some, inside_less}
use Rattle.build_bounds.proofs.BoundLaws.{between, lowest_next}
use Rattle.builder.proofs.bucketlet.Bucketlet.advanced.Goals as goal

-- the first light start is heavy for the new end
heavy : (b : Bound) (fs : List ℕ) (a : ℕ) (k : Kept) (end : Point) → LowestOf b fs a end.at k → Ending fs a end → k.light.count + b.threshold < end.count → Heavy b.threshold fs a k.light.at end.at
heavy b fs a k end l e h = omega (arith, l.light_point, e.is_point)

pub overflow_sub-end : goal.overflow_sub-end
overflow_sub-end c =
    let l = c.loop-light.invariant in
    omega (arith, count_mono c.args.self.now.freqs.now c.args.self.now.first c.loop-light.light.at c.args.end.at l.light_inside, l.light_point, c.requires.ending.is_point)

pub lower_of-lowest-requires : goal.lower_of-lowest-requires
lower_of-lowest-requires c =
    let l = c.loop-light.invariant in
    between c.args.b c.args.self.now.freqs.now c.args.self.now.first _ 0 c.args.end.at c.args.known.greatest c.loop-light.lowest c.loop-light.light c.requires.ending.inside c.requires.standing.seen
    l.lowest_point l.light_point l.lowest_inside l.light_inside

pub one_later-light-requires : goal.one_later-light-requires
one_later-light-requires c =
    let l = c.loop-light.invariant in
    let h : Heavy c.args.b.threshold c.args.self.now.freqs.now c.args.self.now.first c.loop-light.light.at c.args.end.at = heavy _ _ _ _ c.args.end l c.requires.ending (omega arith) in
    let some = heavy_some c.args.self.now.freqs.now c.args.self.now.first c.args.b.threshold c.loop-light.light.at c.args.end.at h in
    record { inside = inside_less c.args.self.now.freqs.now c.args.self.now.first (suc c.loop-light.light.at) c.args.end.at some c.requires.ending.inside; is_point = l.light_point }

pub loop-light-smaller : goal.loop-light-smaller
loop-light-smaller c =
    let h : Heavy c.args.b.threshold c.args.self.now.freqs.now c.args.self.now.first c.loop-light.light.at c.args.end.at = heavy _ _ _ _ c.args.end c.loop-light.invariant c.requires.ending (omega arith) in
    let some = heavy_some c.args.self.now.freqs.now c.args.self.now.first c.args.b.threshold c.loop-light.light.at c.args.end.at h in
    omega (arith, ap (λ (p : Point). p.at) c.one_later-light.ensures)

pub loop-light-preserved : goal.loop-light-preserved
loop-light-preserved c =
    let h : Heavy c.args.b.threshold c.args.self.now.freqs.now c.args.self.now.first c.loop-light.light.at c.args.end.at = heavy _ _ _ _ c.args.end c.loop-light.invariant c.requires.ending (omega arith) in
    lowest_next c.args.b c.args.self.now.freqs.now c.args.self.now.first c.args.end.at c.args.known.greatest c.loop-light.lowest c.loop-light.light _ _ c.loop-light.invariant h
    c.lower_of-lowest.ensures c.one_later-light.ensures
