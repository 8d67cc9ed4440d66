-- What fails first inside a bucketlet (document 01, "What fits" and "Asking", of the checker). The bucketlet has the width w, starts at entry a
-- and stands for s; a range inside it goes from its entry i to its entry j.
-- Assumes nothing.
use Rattle.std.specs.Prelude.{Bool, cond, List, ℕ, zero, suc, ◌+◌, ◌-◌, ◌*◌, eqb}
use Rattle.laws.specs.Sums.{part_sum}
use Rattle.list_rules.specs.declared.Quality.{Quality}
use Rattle.fit.specs.Fit.{near, fits}
use Rattle.check_rules.specs.declared.Sort.{Sort}
use Rattle.check_rules.specs.declared.Sort.TheVariants.{Bucketlet, Part}
use Rattle.check_rules.specs.declared.Verdict.{Verdict}
use Rattle.check_rules.specs.declared.Verdict.TheVariants.{Accepted, Fails}

-- ---- what fails first on a way

-- an answer, or the next one if nothing is against it
abbrev pub or_next : Verdict → Verdict → Verdict
or_next Accepted next = next
or_next (Fails f) next = Fails f

-- what fails first of the n answers from number i on; accepted if nothing does
unfoldable pub first_failing : (ℕ → Verdict) → ℕ → ℕ → Verdict
first_failing answer zero i = Accepted
first_failing answer (suc n) i = let rest = first_failing answer n (suc i) in or_next (answer i) rest

-- ---- in a bucketlet

-- n entries with the true count f are good if they fit; the whole bucketlet must meet the second half
abbrev pub count_good : Quality → ℕ → ℕ → ℕ → ℕ → Bool
count_good q f n s w = cond (eqb n w) (near q f (n * s) w) (fits q f (n * s) w)

abbrev pub range_good : Quality → List ℕ → ℕ → ℕ → ℕ → ℕ → ℕ → Bool
range_good q fs a w s i j = count_good q (part_sum (a + i) (j - i) fs) (j - i) s w

abbrev pub sort_of : ℕ → ℕ → Sort
sort_of n w = cond (eqb n w) Bucketlet Part

unfoldable pub range_verdict : Quality → List ℕ → ℕ → ℕ → ℕ → ℕ → ℕ → Verdict
range_verdict q fs a w s i j =
    cond (range_good q fs a w s i j) Accepted (Fails (record { start = a + i; end = a + j; sort = sort_of (j - i) w }))

-- the ranges from i on, by their ends i + 1 to w
unfoldable pub start_verdict : Quality → List ℕ → ℕ → ℕ → ℕ → ℕ → Verdict
start_verdict q fs a w s i = first_failing (range_verdict q fs a w s i) (w - i) (suc i)

-- all ranges, by their starts 0 to w - 1 and then by their ends; an empty bucketlet has none
unfoldable pub bucketlet_verdict : Quality → List ℕ → ℕ → ℕ → ℕ → Verdict
bucketlet_verdict q fs a w s = first_failing (start_verdict q fs a w s) w 0
