-- `builder::bucketlet::Bucketlet::one_later` meets its contract: the entry after the point is added to its count.
-- Assumes nothing.
use mathlib.Core.Path.{◌≡◌}
use mathlib.Core.List.{List}
use Prim.Native.Nat.{ℕ, suc, ◌+◌}
use native.Mathlib.Omega.{arith}
use lib.ListN.{get_or}
use Rattle.laws.specs.Sums.{part_sum}
use Rattle.laws.proofs.SumsLaws.{part_next}
use Rattle.build_bounds.specs.declared.Point.{Point}
use Rattle.build_bounds.specs.Private.Growing.{Movable, point}
use Rattle.build_bounds.proofs.RangeLaws.{same_point, count_small}
use Rattle.builder.proofs.bucketlet.Bucketlet.one_later.Goals as goal

-- the count of one entry more
counted : (fs : List ℕ) (a n : ℕ) (p : Point) → Movable fs a (suc p.at) p → n ≡ get_or fs (a + p.at) 0 → p.count + n ≡ part_sum a (suc p.at) fs
counted fs a n p m d = let i = m.inside.inside in part_next a p.at _ _ _ fs (omega arith) d m.is_point

pub overflow_add-result-2 : goal.overflow_add-result-2
overflow_add-result-2 c =
    let fs = c.args.self.now.freqs.now in
    omega (arith, counted fs c.args.self.now.first c.from.result c.args.p c.requires c.from.ensures, count_small fs c.args.self.now.first _ (suc c.args.p.at) c.requires.inside)

pub returns : goal.returns
returns c =
    same_point _ (point c.args.self.now.freqs.now c.args.self.now.first (suc c.args.p.at)) (omega arith)
    (omega (arith, counted c.args.self.now.freqs.now c.args.self.now.first c.from.result c.args.p c.requires c.from.ensures))
