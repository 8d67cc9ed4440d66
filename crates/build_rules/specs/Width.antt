-- How wide a bucketlet is (document 01, "Building").
-- Assumes nothing.
use Rattle.std.specs.Prelude.{Bool, List, ℕ}
use Rattle.laws.specs.Search.{largest}
use Rattle.laws.specs.Sums.{part_sum}
use Rattle.counts_rules.specs.Class.{class_value}
use Rattle.list_rules.specs.declared.Quality.{Quality}
use Rattle.fit.specs.Fit.{bucketlet_fits}

-- the bucketlet of width w at entry a fits, its class being that of its own true count
unfoldable pub fits_at : Quality → List ℕ → ℕ → ℕ → Bool
fits_at q fs a w = bucketlet_fits q fs a w (class_value (part_sum a w fs))

-- the largest w, at most the limit, such that it fits with each width 1 to w (claim width_largest)
unfoldable pub width : Quality → List ℕ → ℕ → ℕ → ℕ
width q fs a limit = largest (fits_at q fs a) limit
