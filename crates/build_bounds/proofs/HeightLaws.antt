-- Heights above a line that rises by t where bottoms grow by b: from a point to a later one the height rises exactly if the range between them has a
-- fraction above t / b. A point has the top tx and the bottom bx, a later one ty and by.
-- Assumes nothing.
use mathlib.Core.Path.{◌≡◌, ap}
use Prim.Native.Nat.{ℕ, ◌+◌, ◌-◌, ◌*◌, ◌≤◌}
use native.Mathlib.Omega.{arith}

module _ (tx bx ty by t b : ℕ) (tops : tx ≤ ty) (bottoms : bx ≤ by) where
  -- the two sides of the comparison, without differences
  top_part : ty * b ≡ tx * b + (ty - tx) * b
  top_part = let e : ty ≡ tx + (ty - tx) = omega arith in omega (arith, ap (λ (z : ℕ). z * b) e)

  bottom_part : t * by ≡ t * bx + t * (by - bx)
  bottom_part = let e : by ≡ bx + (by - bx) = omega arith in omega (arith, ap (λ (z : ℕ). t * z) e)

  pub falls : (ty - tx) * b ≤ t * (by - bx) → ty * b + t * bx ≤ tx * b + t * by
  falls h = omega (arith, top_part, bottom_part)

  pub at_most : ty * b + t * bx ≤ tx * b + t * by → (ty - tx) * b ≤ t * (by - bx)
  at_most h = omega (arith, top_part, bottom_part)

  pub rises : t * (by - bx) ≤ (ty - tx) * b → tx * b + t * by ≤ ty * b + t * bx
  rises h = omega (arith, top_part, bottom_part)
