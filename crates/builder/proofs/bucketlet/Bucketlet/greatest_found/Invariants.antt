-- `builder::bucketlet::Bucketlet::greatest_found` meets its contract. At the loop the greatest fraction is that of all ranges to earlier ends and of those to this end from the start on.
-- Assumes nothing.
use mathlib.Core.List.{List}
use Prim.Native.Nat.{ℕ, ◌≤◌}
use Rattle.build_bounds.specs.declared.Ratio.{Ratio}
use Rattle.build_bounds.specs.declared.Bound.{Bound}
use Rattle.build_bounds.specs.declared.Point.{Point}
use Rattle.build_bounds.specs.Private.Growing.{IsPoint}
use Rattle.build_bounds.proofs.BoundLaws.{Searching}
use Rattle.builder.proofs.bucketlet.Bucketlet.greatest_found.Given as goal

pub record Row (b : Bound) (fs : List ℕ) (a w n : ℕ) (known greatest : Ratio) (start : Point) : Type 0 where
  pub is_start : IsPoint fs a start
  pub inside : start.at ≤ n
  pub searching : Searching b fs a w n known start.at greatest

abbrev pub invariant-loop-start : goal.invariant-loop-start
invariant-loop-start l = Row l.b l.self.freqs.now l.self.first l.end.at l.initial.start.at l.initial.greatest l.greatest l.start

abbrev pub decreases-loop-start : goal.decreases-loop-start
decreases-loop-start l = l.start.at
