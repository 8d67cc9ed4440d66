-- `builder::bucketlet::Bucketlet::with_end` meets its contract. At the loop the bounds are those of the ranges to earlier ends and of those that start at i or later.
-- Assumes nothing.
use mathlib.Core.Path.{◌≡◌}
use mathlib.Core.List.{List}
use Prim.Native.Nat.{ℕ, ◌+◌, ◌≤◌}
use Rattle.laws.specs.Sums.{part_sum}
use Rattle.list_rules.specs.declared.Quality.{Quality}
use Rattle.build_bounds.specs.declared.Ratio.{Ratio}
use Rattle.build_bounds.specs.Private.Growing.{bounds, BoundsSeen}
use Rattle.builder.proofs.bucketlet.Bucketlet.with_end.Given as goal

pub record Row (fs : List ℕ) (a w : ℕ) (q : Quality) (low up : Ratio) (longest count i : ℕ) : Type 0 where
  pub start : i ≤ w
  pub counts : part_sum a i fs + count ≡ part_sum a w fs
  pub seen : BoundsSeen q fs a w i (bounds low up longest)

abbrev pub invariant-loop-i : goal.invariant-loop-i
invariant-loop-i l = Row l.self.freqs.now l.self.first l.w l.self.q l.low l.up l.longest l.count l.i

abbrev pub decreases-loop-i : goal.decreases-loop-i
decreases-loop-i l = l.i
