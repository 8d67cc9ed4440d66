-- How the bytes of a line stand in an array.
-- Assumes nothing.
use Rattle.std.specs.Prelude.{◌≡◌, List, ℕ, length, take}
use Rattle.laws.specs.Padded.{padded}
use Rattle.sheet_rules.specs.Limits.{line_bytes}

-- the first of the bytes, and 0 after them
pub record Held (bytes : List ℕ) (n : ℕ) : Type 0 where
  pub front : length (take n bytes) ≡ n
  pub all : padded line_bytes (take n bytes) ≡ bytes
