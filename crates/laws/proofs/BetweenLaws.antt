-- A number is between two limits exactly where it keeps both.
-- Assumes nothing.
use mathlib.Core.Path.{◌≡◌}
use mathlib.Core.Bool.{true}
use Prim.Native.Nat.{ℕ, ◌≤◌}
use borrow.Author.Tests.{leb-true, le-leb}
use lib.Dec.{leb}
use Rattle.laws.specs.Between.{between}
use Rattle.laws.proofs.Tests.{both, both_left, both_right}

pub record Within (lo hi n : ℕ) : Type 0 where
  pub least : lo ≤ n
  pub most : n ≤ hi

pub within : (lo hi n : ℕ) → between lo hi n ≡ true → Within lo hi n
within lo hi n t = record { least = leb-true lo n (both_left (leb lo n) (leb n hi) t); most = leb-true n hi (both_right (leb lo n) (leb n hi) t) }

pub is_within : (lo hi n : ℕ) → Within lo hi n → between lo hi n ≡ true
is_within lo hi n w = both (leb lo n) (leb n hi) (le-leb lo n w.least) (le-leb n hi w.most)
