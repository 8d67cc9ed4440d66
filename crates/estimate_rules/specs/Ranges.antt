-- Ranges that are lent as a list, two words a range (document 02, requests i and ii).
-- Assumes nothing.
use Rattle.std.specs.Prelude.{Bool, not, List, ℕ, ◌+◌, ◌*◌, ◌/◌, ◌%◌, eqb, length}
use Rattle.laws.specs.Each.{some}
use Rattle.laws.specs.Sums.{sum}
use Rattle.laws.specs.Tabulate.{tabulate}
use Rattle.words_rules.specs.Words.{word}
use Rattle.estimate_rules.specs.Asking.{range_fault}

-- half the list's length, rounded down; a word left over belongs to no range

abbrev pub range_count : List ℕ → ℕ
range_count ranges = length ranges / 2

abbrev pub left_over : List ℕ → Bool
left_over ranges = not (eqb (length ranges % 2) 0)

-- range i of the list goes from x to y

abbrev pub x_at : List ℕ → ℕ → ℕ
x_at ranges i = word ranges (2 * i)

abbrev pub y_at : List ℕ → ℕ → ℕ
y_at ranges i = word ranges (2 * i + 1)

-- 14 would refuse one of the ranges

abbrev pub refused_at : List ℕ → List ℕ → ℕ → Bool
refused_at ws ranges i = range_fault ws (x_at ranges i) (y_at ranges i)

abbrev pub some_refused : List ℕ → List ℕ → Bool
some_refused ws ranges = some (range_count ranges) (refused_at ws ranges)

-- the sum of what f gives for each range
abbrev pub sum_over : List ℕ → (ℕ → ℕ → ℕ) → ℕ
sum_over ranges f = sum (tabulate (range_count ranges) (λ i. f (x_at ranges i) (y_at ranges i)))
