-- Tests of all numbers below a number.
-- Assumes nothing.
use Rattle.std.specs.Prelude.{Bool, true, not, ◌&&◌, ℕ, zero, suc}

-- p holds of each number below n
unfoldable pub each : ℕ → (ℕ → Bool) → Bool
each zero p = true
each (suc n) p = each n p && p n

-- p holds of some number below n
unfoldable pub some : ℕ → (ℕ → Bool) → Bool
some n p = not (each n (λ i. not (p i)))
