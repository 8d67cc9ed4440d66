-- The least upper bound of a set of fractions: of finitely many, as here, the greatest, without naming which it is.
-- Assumes nothing.
use Rattle.std.specs.Prelude.{ℕ, ◌*◌, ◌≤◌, ◌<◌}

-- every top i n / bottom i n with i, n in S is at most pt / pb, which is at most every x / y that they all are at most; it is 0 if there is none
pub record Greatest (top bottom : ℕ → ℕ → ℕ) (S : ℕ → ℕ → Type 0) (pt pb : ℕ) : Type 0 where
  pub positive : 0 < pb
  pub covers : (i n : ℕ) → S i n → top i n * pb ≤ pt * bottom i n
  pub reached : (x y : ℕ) → ((i n : ℕ) → S i n → top i n * y ≤ x * bottom i n) → pt * y ≤ x * pb
