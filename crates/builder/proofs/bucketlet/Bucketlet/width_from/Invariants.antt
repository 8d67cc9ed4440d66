-- `builder::bucketlet::Bucketlet::width_from` meets its contract. At the loop all widths up to the one reached fit, and what is kept stands for its ranges.
-- Assumes nothing.
use mathlib.Core.List.{List}
use Prim.Native.Nat.{ℕ, ◌-◌}
use Rattle.list_rules.specs.declared.Quality.{Quality}
use Rattle.build_bounds.specs.declared.Kept.{Kept}
use Rattle.build_bounds.specs.declared.Point.{Point}
use Rattle.build_bounds.specs.Private.Growing.{Longest, Standing, FitsTo, low_bound, up_bound}
use Rattle.builder.proofs.bucketlet.Bucketlet.width_from.Given as goal

pub record Going (fs : List ℕ) (a most : ℕ) (q : Quality) (low up : Kept) (longest : ℕ) (reached : Point) : Type 0 where
  pub fits_to : FitsTo q fs a most reached
  pub low_stands : Standing (low_bound q) fs a reached.at reached.at low
  pub up_stands : Standing (up_bound q) fs a reached.at reached.at up
  pub longest_is : Longest (up_bound q).threshold fs a reached.at 0 longest

abbrev pub invariant-loop-grown : goal.invariant-loop-grown
invariant-loop-grown l = Going l.self.freqs.now l.self.first l.self.most l.self.q l.low l.up l.longest l.grown

abbrev pub decreases-loop-grown : goal.decreases-loop-grown
decreases-loop-grown l = l.self.most - l.grown.at
