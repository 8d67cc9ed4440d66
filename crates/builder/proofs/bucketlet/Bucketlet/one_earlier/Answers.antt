-- `builder::bucketlet::Bucketlet::one_earlier` meets its contract: the entry before the point is taken off its count.
-- Assumes nothing.
use mathlib.Core.Path.{◌≡◌, refl, ap, sym, ◌∙◌}
use mathlib.Core.List.{List}
use Prim.Native.Nat.{ℕ, suc, ◌+◌, ◌-◌, ◌<◌}
use native.Mathlib.Omega.{arith}
use lib.ListN.{get_or}
use Rattle.laws.specs.Sums.{part_sum}
use Rattle.laws.proofs.SumsLaws.{part_next}
use Rattle.build_bounds.specs.declared.Point.{Point}
use Rattle.build_bounds.specs.Private.Growing.{Movable, point}
use Rattle.build_bounds.proofs.RangeLaws.{same_point}
use Rattle.builder.proofs.bucketlet.Bucketlet.one_earlier.Goals as goal

-- the count without one entry
counted : (fs : List ℕ) (a n : ℕ) (p : Point) → Movable fs a p.at p → 0 < p.at → n ≡ get_or fs (a + (p.at - 1)) 0 → part_sum a (p.at - 1) fs + n ≡ p.count
counted fs a n p m h d =
    let e : suc (p.at - 1) ≡ p.at = omega arith in
    let i = m.inside.inside in
    part_next a (p.at - 1) _ _ _ fs (omega arith) d refl ∙ ap (λ (k : ℕ). part_sum a k fs) e ∙ sym m.is_point

pub overflow_sub-result : goal.overflow_sub-result
overflow_sub-result c = omega (arith, counted c.args.self.now.freqs.now c.args.self.now.first c.from.result c.args.p c.requires.0 c.requires.1 c.from.ensures)

pub returns : goal.returns
returns c =
    same_point _ (point c.args.self.now.freqs.now c.args.self.now.first (c.args.p.at - 1)) (omega arith)
    (omega (arith, counted c.args.self.now.freqs.now c.args.self.now.first c.from.result c.args.p c.requires.0 c.requires.1 c.from.ensures))
