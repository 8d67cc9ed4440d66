-- A list in an array that is longer: what stands after it is 0.
-- Assumes nothing.
use Rattle.std.specs.Prelude.{List, ◌++◌, ℕ, ◌-◌, length, replicate}

abbrev pub zeros : ℕ → List ℕ
zeros n = replicate n 0

-- in an array of n places
abbrev pub padded : ℕ → List ℕ → List ℕ
padded n l = l ++ zeros (n - length l)
