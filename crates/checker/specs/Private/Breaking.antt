-- The words of the private contracts of the checker's `bound`: what breaks a bound, the points of a bucketlet, and the ends that are far from a start.
-- Assumes nothing.
use Rattle.std.specs.Prelude.{◌≡◌, Bool, List, ◌⊎◌, ℕ, ◌+◌, ◌-◌, ◌*◌, ◌^◌, ◌≤◌, ◌<◌, max, ltb, length, get_or}
use Rattle.laws.specs.Sums.{part_sum}
use Rattle.list_rules.specs.Limits.{max_entries}
use Rattle.list_rules.specs.declared.Quality.{Quality}
use Rattle.checker.specs.declared.bound.Measure.{Measure}
use Rattle.checker.specs.declared.bound.Bound.{Bound}
use Rattle.checker.specs.declared.bound.Point.{Point}
use Rattle.checker.specs.declared.bound.FarEnds.{FarEnds}

-- the measure of n entries with the count f, and of one with the frequency f
abbrev pub measured : Measure → ℕ → ℕ → ℕ
measured m f n = m.count * f + m.entry * n

abbrev pub entry_measured : Measure → ℕ → ℕ
entry_measured m f = m.count * f + m.entry

-- they break a bound
abbrev pub breaks : Bound → ℕ → ℕ → Bool
breaks b f n = ltb (max b.least (measured b.under f n)) (measured b.over f n)

-- so does the range from i to j in its bucketlet
abbrev pub range_breaks : Bound → List ℕ → ℕ → ℕ → Bool
range_breaks b fs i j = breaks b (part_sum (b.start + i) (j - i) fs) (j - i)

-- ---- the two bounds

-- of two measures, above theta
abbrev pub bound_of : Quality → ℕ → ℕ → Measure → Measure → Bound
bound_of q a w over under = record { start = a; width = w; over = over; under = under; least = q.qd * (q.theta * w) }

-- the count is above theta, and more than q times the estimate
abbrev pub count_bound : Quality → ℕ → ℕ → ℕ → Bound
count_bound q a w s = bound_of q a w (record { count = q.qd * w; entry = 0 }) (record { count = 0; entry = q.qn * s })

-- the same with the two exchanged
abbrev pub estimate_bound : Quality → ℕ → ℕ → ℕ → Bound
estimate_bound q a w s = bound_of q a w (record { count = 0; entry = q.qd * s }) (record { count = q.qn * w; entry = 0 })

-- ---- points

-- the measures of the first j entries, and of those after them
abbrev pub over_at : Bound → List ℕ → ℕ → ℕ
over_at b fs j = measured b.over (part_sum b.start j fs) j

abbrev pub under_at : Bound → List ℕ → ℕ → ℕ
under_at b fs j = measured b.under (part_sum (b.start + j) (b.width - j) fs) (b.width - j)

abbrev pub height_at : Bound → List ℕ → ℕ → ℕ
height_at b fs j = over_at b fs j + under_at b fs j

pub record IsPoint (fs : List ℕ) (b : Bound) (p : Point) : Type 0 where
  pub within : p.at ≤ b.width
  pub over : p.over ≡ over_at b fs p.at
  pub under : p.under ≡ under_at b fs p.at

-- one entry earlier, its frequency being f
abbrev pub stepped : Bound → ℕ → Point → Point
stepped b f p = record { at = p.at - 1; over = p.over - entry_measured b.over f; under = p.under + entry_measured b.under f }

-- there is one, and nothing runs over
pub record Steps (fs : List ℕ) (b : Bound) (p : Point) : Type 0 where
  pub some : 0 < p.at
  pub inside : b.start + p.at ≤ length fs
  pub many : length fs ≤ max_entries
  pub over_left : entry_measured b.over (get_or fs (b.start + (p.at - 1)) 0) ≤ p.over
  pub under_small : p.under + entry_measured b.under (get_or fs (b.start + (p.at - 1)) 0) < 2 ^ 53

-- a bound on a bucketlet inside the list whose measures are small
pub record Usable (fs : List ℕ) (b : Bound) : Type 0 where
  pub inside : b.start + b.width ≤ length fs
  pub many : length fs ≤ max_entries
  pub least_small : b.least < 2 ^ 53
  pub over_small : over_at b fs b.width < 2 ^ 53
  pub under_small : under_at b fs 0 < 2 ^ 53

-- and its count
pub record Counted (fs : List ℕ) (b : Bound) (count : ℕ) : Type 0 where
  pub usable : Usable fs b
  pub counts : count ≡ part_sum b.start b.width fs

-- ---- far ends

-- an end after `last` has the height
pub record Met (fs : List ℕ) (b : Bound) (last height : ℕ) : Type 0 where
  pub end : ℕ
  pub after : last < end
  pub inside : end ≤ b.width
  pub is : height ≡ height_at b fs end

-- all ends after the last one are beyond a reach, and the highest of them has the height
pub record Far (fs : List ℕ) (b : Bound) (reach : ℕ) (e : FarEnds) : Type 0 where
  pub point : IsPoint fs b e.last
  pub far : (j : ℕ) → e.last.at < j → j ≤ b.width → reach < over_at b fs j
  pub lower : (j : ℕ) → e.last.at < j → j ≤ b.width → height_at b fs j ≤ e.highest
  pub met : (e.highest ≡ 0) ⊎ Met fs b e.last.at e.highest

-- beyond that of a start
pub record FarKnown (fs : List ℕ) (b : Bound) (p : Point) (e : FarEnds) : Type 0 where
  pub usable : Usable fs b
  pub point : IsPoint fs b p
  pub far : Far fs b (p.over + b.least) e

-- and no other end is
pub record FarAll (fs : List ℕ) (b : Bound) (p : Point) (e : FarEnds) : Type 0 where
  pub far : Far fs b (p.over + b.least) e
  pub not_far : e.last.over ≤ p.over + b.least
