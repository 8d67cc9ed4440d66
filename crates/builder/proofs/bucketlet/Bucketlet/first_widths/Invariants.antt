-- `builder::bucketlet::Bucketlet::first_widths` meets its contract. At the loop all widths up to the one reached fit, and the bounds are those of its ranges.
-- Assumes nothing.
use mathlib.Core.List.{List}
use Prim.Native.Nat.{ℕ, ◌-◌}
use Rattle.list_rules.specs.declared.Quality.{Quality}
use Rattle.build_bounds.specs.declared.Bounds.{Bounds}
use Rattle.build_bounds.specs.declared.Point.{Point}
use Rattle.build_bounds.specs.Private.Growing.{BoundsSeen, FitsTo}
use Rattle.builder.proofs.bucketlet.Bucketlet.first_widths.Given as goal

pub record Begun (fs : List ℕ) (a most : ℕ) (q : Quality) (bounds : Bounds) (reached : Point) : Type 0 where
  pub fits_to : FitsTo q fs a most reached
  pub seen : BoundsSeen q fs a reached.at 0 bounds

abbrev pub invariant-loop-reached : goal.invariant-loop-reached
invariant-loop-reached l = Begun l.self.freqs.now l.self.first l.self.most l.self.q l.bounds l.reached

abbrev pub decreases-loop-reached : goal.decreases-loop-reached
decreases-loop-reached l = l.self.most - l.reached.at
