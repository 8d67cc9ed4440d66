-- The sum of a list of numbers, of its first n, and of its part of n from a place on.
-- Assumes nothing.
use Rattle.std.specs.Prelude.{List, [], ◌∷◌, ℕ, ◌+◌, take, drop}

abbrev pub sum : List ℕ → ℕ
sum [] = 0
sum (x ∷ xs) = x + sum xs

abbrev pub prefix_sum : ℕ → List ℕ → ℕ
prefix_sum n xs = sum (take n xs)

-- the sum of the n numbers from place i on
abbrev pub part_sum : ℕ → ℕ → List ℕ → ℕ
part_sum i n xs = sum (take n (drop i xs))
