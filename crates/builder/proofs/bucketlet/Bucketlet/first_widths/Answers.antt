-- `builder::bucketlet::Bucketlet::first_widths` meets its contract. At the loop all widths up to the one reached fit, and the bounds are those of its ranges.
-- Assumes nothing.
use mathlib.Core.Path.{◌≡◌, sym, ap, subst}
use mathlib.Core.Bool.{Bool, true, false}
use mathlib.Core.List.{List}
use Prim.Native.Nat.{ℕ, suc, ◌-◌, ◌≤◌, ◌<◌}
use native.Mathlib.Omega.{arith}
use Rattle.counts_rules.specs.Limit.{limit}
use Rattle.counts_rules.specs.Class.{class_value}
use Rattle.list_rules.specs.declared.Quality.{Quality}
use Rattle.build_rules.specs.Width.{fits_at}
use Rattle.build_rules.proofs.WidthLaws.{value_small}
use Rattle.build_bounds.specs.declared.Bounds.{Bounds}
use Rattle.build_bounds.specs.declared.Point.{Point}
use Rattle.build_bounds.specs.Private.Growing.{Inside, Movable, BoundsSeen, Growable, Tried, Testable, Reached, point, passes, up_bound}
use Rattle.build_bounds.proofs.RangeLaws.{count_small, growable_inside}
use Rattle.build_bounds.proofs.TriedLaws.{bounds_none, testable}
use Rattle.build_bounds.proofs.GrowLaws.{fits_none, fits_next, end_fits}
use Rattle.builder.proofs.bucketlet.Bucketlet.first_widths.Invariants.{Begun}
use Rattle.builder.proofs.bucketlet.Bucketlet.first_widths.Goals as goal

module _ (fs : List ℕ) (a most : ℕ) (q : Quality) (g : Growable fs a most q) (b : Bounds) (p : Point) (l : Begun fs a most q b p) where
  module _ (less : p.at < most) where
    movable : Movable fs a (suc p.at) p
    movable = record { inside = growable_inside fs a most (suc p.at) q g (omega arith); is_point = l.fits_to.is_point }

    module _ (end : Point) (e : end ≡ point fs a (suc p.at)) where
      -- the next width is inside the list
      end_at : end.at ≡ suc p.at
      end_at = ap (λ (x : Point). x.at) e

      inside : Inside fs a end.at
      inside = growable_inside fs a most end.at q g (omega (arith, end_at))

      tried : (threshold : ℕ) → threshold ≡ (up_bound q).threshold → Tried q fs a end.at threshold b
      tried threshold t =
          let before : p.at ≡ end.at - 1 = omega (arith, end_at) in
          record { inside = inside; some = omega (arith, end_at); threshold_is = t; seen = subst (λ (w : ℕ). BoundsSeen q fs a w 0 b) before l.seen }

      small : end.count ≤ limit
      small = omega (arith, ap (λ (x : Point). x.count) e, count_small fs a _ (suc p.at) inside)

      module _ (wider : Bounds) (seen : BoundsSeen q fs a end.at 0 wider) (s : ℕ) (is : s ≡ class_value end.count) where
        tests : Testable q wider s end.at
        tests = testable q fs a end.at s wider g.sound inside (omega (arith, is, value_small end.count small)) seen

        -- what the test says of the next width
        tested : (u : Bool) → u ≡ passes q wider s end.at → fits_at q fs a (suc p.at) ≡ u
        tested u t = sym (end_fits q fs a g.sound (suc p.at) s end wider u t e is seen)

        again : true ≡ passes q wider s end.at → Begun fs a most q wider end
        again t = record { fits_to = fits_next q fs a g.sound most p end l.fits_to less e (tested true t); seen = seen }

        stops : false ≡ passes q wider s end.at → Reached q fs a most (record { reached = p; bounds = b })
        stops t = record { fits_to = l.fits_to; next = λ h. tested false t; seen = l.seen }

  full : most ≤ p.at → Reached q fs a most (record { reached = p; bounds = b })
  full h = record { fits_to = l.fits_to; next = λ n. absurd (omega arith); seen = l.seen }

pub loop-reached-init : goal.loop-reached-init
loop-reached-init c =
    record { fits_to = fits_none c.args.self.now.q c.args.self.now.freqs.now c.args.self.now.first c.args.self.now.growable.sound c.args.self.now.most; seen = bounds_none c.args.self.now.q c.args.self.now.freqs.now c.args.self.now.first }

pub one_later-end-requires : goal.one_later-end-requires
one_later-end-requires c = let l = c.loop-reached in movable c.args.self.now.freqs.now c.args.self.now.first c.args.self.now.most c.args.self.now.q c.args.self.now.growable l.bounds l.reached l.invariant (omega arith)

pub with_end-wider-requires : goal.with_end-wider-requires
with_end-wider-requires c =
    let l = c.loop-reached in
    tried c.args.self.now.freqs.now c.args.self.now.first c.args.self.now.most c.args.self.now.q c.args.self.now.growable l.bounds l.reached l.invariant (omega arith) c.one_later-end.result c.one_later-end.ensures
    c.threshold-threshold.result c.threshold-threshold.ensures

pub class_value-requires : goal.class_value-requires
class_value-requires c =
    let l = c.loop-reached in
    small c.args.self.now.freqs.now c.args.self.now.first c.args.self.now.most c.args.self.now.q c.args.self.now.growable l.bounds l.reached l.invariant (omega arith) c.one_later-end.result c.one_later-end.ensures

pub passes-requires : goal.passes-requires
passes-requires c =
    let l = c.loop-reached in
    tests c.args.self.now.freqs.now c.args.self.now.first c.args.self.now.most c.args.self.now.q c.args.self.now.growable l.bounds l.reached l.invariant (omega arith) c.one_later-end.result c.one_later-end.ensures
    c.with_end-wider.result c.with_end-wider.ensures c.class_value.result c.class_value.ensures

pub loop-reached-preserved : goal.loop-reached-preserved
loop-reached-preserved c =
    let l = c.loop-reached in
    again c.args.self.now.freqs.now c.args.self.now.first c.args.self.now.most c.args.self.now.q c.args.self.now.growable l.bounds l.reached l.invariant (omega arith) c.one_later-end.result c.one_later-end.ensures
    c.with_end-wider.result c.with_end-wider.ensures c.class_value.result c.class_value.ensures c.if-not-passes.ensures

pub returns-then-not-passes : goal.returns-then-not-passes
returns-then-not-passes c =
    let l = c.loop-reached in
    stops c.args.self.now.freqs.now c.args.self.now.first c.args.self.now.most c.args.self.now.q c.args.self.now.growable l.bounds l.reached l.invariant (omega arith) c.one_later-end.result c.one_later-end.ensures
    c.with_end-wider.result c.with_end-wider.ensures c.class_value.result c.class_value.ensures c.if-not-passes.ensures

pub returns-after-loop-reached : goal.returns-after-loop-reached
returns-after-loop-reached c = let l = c.loop-reached in full c.args.self.now.freqs.now c.args.self.now.first c.args.self.now.most c.args.self.now.q c.args.self.now.growable l.bounds l.reached l.invariant (omega arith)
