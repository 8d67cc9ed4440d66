-- `builder::bucketlet::Bucketlet::searched` meets its contract. The greatest fraction is that of a range to the end, whose start is found again.
-- Assumes nothing.
use mathlib.Core.Path.{◌≡◌}
use mathlib.Core.List.{List}
use Prim.Native.Nat.{ℕ}
use Rattle.build_bounds.specs.declared.Ratio.{Ratio}
use Rattle.build_bounds.specs.declared.Bound.{Bound}
use Rattle.build_bounds.specs.declared.Kept.{Kept}
use Rattle.build_bounds.specs.declared.Point.{Point}
use Rattle.build_bounds.specs.Private.Growing.{Searchable, Found, Widened, kept, start_of}
use Rattle.build_bounds.proofs.BoundLaws.{search_ends}
use Rattle.builder.proofs.bucketlet.Bucketlet.searched.Goals as goal

found : (b : Bound) (fs : List ℕ) (a : ℕ) (k : Kept) (end : Point) (g : Ratio) (s : Point) → Searchable b fs a k end → Found b fs a k end g → s ≡ start_of b.over g end
    → Widened b fs a end.at (kept g s k.light)
found b fs a k end g s p f e =
    record { standing = search_ends b fs a k end s g p.advanced.standing.starts e p.ending.is_point f; light = p.advanced.light }

pub returns : goal.returns
returns c =
    found c.args.b c.args.self.now.freqs.now c.args.self.now.first c.args.known c.args.end c.greatest_found-greatest.result _ c.requires c.greatest_found-greatest.ensures (cc)
