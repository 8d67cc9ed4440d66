-- How numbers stand in an array.
-- Assumes nothing.
use Rattle.std.specs.Prelude.{◌≡◌, List, ℕ, ◌≤◌, length, take}
use Rattle.laws.specs.Padded.{padded}
use Rattle.sheet_rules.specs.Limits.{least_numbers, most_numbers}

-- the first `count` of the values, and 0 after them
pub record Held (values : List ℕ) (count : ℕ) : Type 0 where
  pub least : least_numbers ≤ count
  pub most : count ≤ most_numbers
  pub front : length (take count values) ≡ count
  pub all : padded most_numbers (take count values) ≡ values
