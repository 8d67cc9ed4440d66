-- What fits (document 01, "What fits"). A bucketlet of width w that stands for s estimates a range of n entries at n * s / w; that fraction is
-- compared by cross products, so nothing is rounded. A range is given by its first entry and its number of entries.
-- Assumes nothing.
use Rattle.std.specs.Prelude.{Bool, ◌&&◌, ◌||◌, List, ℕ, suc, ◌+◌, ◌-◌, ◌*◌, leb}
use Rattle.laws.specs.Each.{each}
use Rattle.laws.specs.Sums.{part_sum}
use Rattle.list_rules.specs.declared.Quality.{Quality}

-- neither f nor x / w is more than q times the other
abbrev pub near : Quality → ℕ → ℕ → ℕ → Bool
near q f x w = leb (q.qd * (f * w)) (q.qn * x) && leb (q.qd * x) (q.qn * (f * w))

-- f and x / w are both at most theta, or they are near
abbrev pub fits : Quality → ℕ → ℕ → ℕ → Bool
fits q f x w = leb f q.theta && leb x (q.theta * w) || near q f x w

-- each range of n entries from a + i on, inside the bucketlet of width w at a that stands for s, fits
unfoldable pub ranges_fit : Quality → List ℕ → ℕ → ℕ → ℕ → Bool
ranges_fit q fs a w s = each (suc w) (λ i. each (suc (w - i)) (λ n. fits q (part_sum (a + i) n fs) (n * s) w))

-- and the whole bucketlet meets the second half: theta does not excuse it
unfoldable pub bucketlet_fits : Quality → List ℕ → ℕ → ℕ → ℕ → Bool
bucketlet_fits q fs a w s = near q (part_sum a w fs) (w * s) w && ranges_fit q fs a w s
