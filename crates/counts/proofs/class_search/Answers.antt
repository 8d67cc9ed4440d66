-- `counts::class_search` meets its contract: it is the class after the power that the highest bit reaches, and one more for each of the next three
-- that the count reaches. Assumes nothing.
use mathlib.Core.Path.{refl}
use Prim.Native.Nat.{◌+◌, ◌*◌}
use native.Mathlib.Omega.{arith}
use Rattle.counts_rules.specs.Total.{highest_bit}
use Rattle.counts.proofs.CountLaws.{counted_class}
use Rattle.counts.proofs.class_search.Goals as goal

pub returns : goal.returns
returns c =
    let v = c.args.count in
    let m = 2 * highest_bit v + 1 in
    omega (
      arith,
      counted_class v m _ _ _ _ _ _ (omega arith) (omega arith) (omega arith) (omega arith) (omega arith) c.reached.ensures.0 c.reached-2.ensures.0 c.reached-3.ensures.0 refl,
    )
