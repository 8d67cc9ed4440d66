-- The law behind the estimator: every sum that it meets is small.
-- Assumes nothing.
use Prim.Native.Nat.{ℕ, ◌+◌, ◌*◌, ◌^◌, ◌≤◌}
use native.Mathlib.Nat.{mul-le-mul_right, le_trans, pow-le-pow_right}
use native.Mathlib.Omega.{arith}
use Rattle.words_rules.specs.Limits.{max_width}
use Rattle.estimate_rules.specs.declared.Fraction.{Fraction}
use Rattle.estimate_rules.proofs.CutLaws.{cuts, cuts_most}
use Rattle.estimate_rules.proofs.SizeLaws.{Sized}
use Rattle.estimator.specs.Private.Adding.{Small}

-- at most two cuts, and at most 65,536 entries
pub small_of : (x y a e : ℕ) (s : Fraction) → Sized x y a e s → e ≤ 65536 → Small s
small_of x y a e s z h =
    let c : cuts x a e + cuts y a e ≤ 2 = omega (arith, cuts_most x a e, cuts_most y a e) in
    record {
      whole_small = omega (arith, z.whole_small);
      bottom_some = z.bottom_some;
      bottom_small = le_trans z.bottom_small (pow-le-pow_right {n = max_width} (omega arith) c);
      top_small = omega (arith, z.top_small, mul-le-mul_right (2 ^ 31 * s.bottom) c);
    }
