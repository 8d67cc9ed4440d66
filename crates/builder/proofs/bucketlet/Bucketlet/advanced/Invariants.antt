-- `builder::bucketlet::Bucketlet::advanced` meets its contract. At the loop all starts before the first light one are heavy, and the lowest is no higher than each.
-- Assumes nothing.
use Prim.Native.Nat.{◌-◌}
use Rattle.build_bounds.specs.Private.Growing.{kept, LowestOf}
use Rattle.builder.proofs.bucketlet.Bucketlet.advanced.Given as goal

abbrev pub invariant-loop-light : goal.invariant-loop-light
invariant-loop-light l = LowestOf l.b l.self.freqs.now l.self.first l.end.at (kept l.known.greatest l.lowest l.light)

abbrev pub decreases-loop-light : goal.decreases-loop-light
decreases-loop-light l = l.end.at - l.light.at
