-- `builder::bucketlet::Bucketlet::with_end` meets its contract. At the loop the bounds are those of the ranges to earlier ends and of those that start at i or later.
-- Assumes nothing.
use mathlib.Core.Path.{◌≡◌, refl, ap, subst, ◌∙◌}
use mathlib.Core.List.{List}
use Prim.Native.Nat.{ℕ, suc, ◌+◌, ◌-◌, ◌≤◌, ◌<◌}
use native.Mathlib.Omega.{arith}
use lib.ListN.{get_or}
use Rattle.laws.specs.Sums.{part_sum}
use Rattle.laws.proofs.SumsLaws.{part_next}
use Rattle.counts_rules.specs.Limit.{limit}
use Rattle.list_rules.specs.declared.Quality.{Quality}
use Rattle.build_bounds.specs.declared.Ratio.{Ratio}
use Rattle.build_bounds.specs.declared.Bounds.{Bounds}
use Rattle.build_bounds.specs.declared.Over.TheVariants.{Length, Count}
use Rattle.build_bounds.specs.Private.Growing.{bounds, BoundsSeen, Tried, Small, ratio, greater_if_heavy, longer}
use Rattle.build_bounds.proofs.RangeLaws.{count_small, small as small_ratio}
use Rattle.build_bounds.proofs.TriedLaws.{bounds_row, bounds_step}
use Rattle.builder.proofs.bucketlet.Bucketlet.with_end.Invariants.{Row}
use Rattle.builder.proofs.bucketlet.Bucketlet.with_end.Goals as goal

-- the entry before i, however its place is written
read : (fs : List ℕ) (a i n j : ℕ) → n ≡ get_or fs j 0 → j ≡ a + (i - 1) → n ≡ get_or fs (a + (i - 1)) 0
read fs a i n j e d = e ∙ ap (λ (k : ℕ). get_or fs k 0) d

module _ (fs : List ℕ) (a w : ℕ) (q : Quality) (threshold : ℕ) (known : Bounds) (t : Tried q fs a w threshold known) where
  begins : Row fs a w q known.low known.up known.longest 0 w
  begins = record { start = omega arith; counts = omega arith; seen = bounds_row q fs a (w - 1) w known (omega (arith, t.some)) t.seen }

  module _ (low up : Ratio) (longest count i : ℕ) (r : Row fs a w q low up longest count i) where
    ends : i ≡ 0 → BoundsSeen q fs a w 0 (bounds low up longest)
    ends z = subst (λ (j : ℕ). BoundsSeen q fs a w j (bounds low up longest)) z r.seen

    module _ (some : 0 < i) (n : ℕ) (is : n ≡ get_or fs (a + (i - 1)) 0) where
      -- the count in hand
      counting : part_sum a (i - 1) fs + (count + n) ≡ part_sum a w fs
      counting =
          let e : suc (i - 1) ≡ i = omega arith in
          let p = part_next a (i - 1) _ _ _ fs (omega (arith, r.start, t.inside.inside)) is refl in
          let s = p ∙ ap (λ (k : ℕ). part_sum a k fs) e in
          omega (arith, r.counts)

      small : count + n ≤ limit
      small = omega (arith, counting, count_small fs a w w t.inside)

      low_small : Small (ratio (count + n) (w - (i - 1))) × Small low
      low_small = (record { top = small; bottom = omega (arith, t.inside.narrow) }, small_ratio Length low r.seen.low.top_small r.seen.low.bottom_small)

      up_small : Small (ratio (w - (i - 1)) (count + n)) × Small up
      up_small = (record { top = omega (arith, t.inside.narrow); bottom = small }, small_ratio Count up r.seen.up.top_small r.seen.up.bottom_small)

      step : (low₁ up₁ : Ratio) (longest₁ : ℕ) → low₁ ≡ greater_if_heavy low q.theta (count + n) (ratio (count + n) (w - (i - 1)))
          → up₁ ≡ greater_if_heavy up threshold (count + n) (ratio (w - (i - 1)) (count + n)) → longest₁ ≡ longer longest threshold (count + n) (w - (i - 1))
          → Row fs a w q low₁ up₁ longest₁ (count + n) (i - 1)
      step low₁ up₁ longest₁ el eu en =
          let k : BoundsSeen q fs a w (suc (i - 1)) (bounds low up longest) =
          subst (λ (j : ℕ). BoundsSeen q fs a w j (bounds low up longest)) {x = i} {y = suc (i - 1)} (omega arith) r.seen in
          record {
            start = omega (arith, r.start);
            counts = counting;
            seen =
                bounds_step q fs a w (i - 1) (count + n) (w - (i - 1)) threshold low up _ _ longest _ (omega (arith, r.start)) t.inside counting (omega arith)
                t.threshold_is el eu en k;
          }

pub loop-i-init : goal.loop-i-init
loop-i-init c = begins c.args.self.now.freqs.now c.args.self.now.first c.args.w c.args.self.now.q c.args.threshold c.args.known c.requires

pub overflow_add-count : goal.overflow_add-count
overflow_add-count c =
    let l = c.loop-i in
    omega (
      arith,
      small c.args.self.now.freqs.now c.args.self.now.first c.args.w c.args.self.now.q c.args.threshold c.args.known c.requires l.low l.up l.longest l.count l.i l.invariant (omega arith)
          c.from-count.result (read c.args.self.now.freqs.now c.args.self.now.first l.i c.from-count.result _ c.from-count.ensures (omega arith)),
    )

pub greater_if_heavy-low-requires : goal.greater_if_heavy-low-requires
greater_if_heavy-low-requires c =
    let l = c.loop-i in
    low_small c.args.self.now.freqs.now c.args.self.now.first c.args.w c.args.self.now.q c.args.threshold c.args.known c.requires l.low l.up l.longest l.count l.i l.invariant (omega arith)
    c.from-count.result (read c.args.self.now.freqs.now c.args.self.now.first l.i c.from-count.result _ c.from-count.ensures (omega arith))

pub greater_if_heavy-up-requires : goal.greater_if_heavy-up-requires
greater_if_heavy-up-requires c =
    let l = c.loop-i in
    up_small c.args.self.now.freqs.now c.args.self.now.first c.args.w c.args.self.now.q c.args.threshold c.args.known c.requires l.low l.up l.longest l.count l.i l.invariant (omega arith)
    c.from-count.result (read c.args.self.now.freqs.now c.args.self.now.first l.i c.from-count.result _ c.from-count.ensures (omega arith))

pub loop-i-preserved : goal.loop-i-preserved
loop-i-preserved c =
    let l = c.loop-i in
    step c.args.self.now.freqs.now c.args.self.now.first c.args.w c.args.self.now.q c.args.threshold c.args.known c.requires l.low l.up l.longest l.count l.i l.invariant (omega arith)
    c.from-count.result (read c.args.self.now.freqs.now c.args.self.now.first l.i c.from-count.result _ c.from-count.ensures (omega arith)) _ _ _ c.greater_if_heavy-low.ensures c.greater_if_heavy-up.ensures c.longer_of-longest.ensures

pub returns : goal.returns
returns c =
    let l = c.loop-i in
    ends c.args.self.now.freqs.now c.args.self.now.first c.args.w c.args.self.now.q c.args.threshold c.args.known c.requires l.low l.up l.longest l.count l.i l.invariant (omega arith)
