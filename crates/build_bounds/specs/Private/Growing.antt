-- The words of the private contracts of the builder's `bound`, `tried` and `growth`.
-- Assumes nothing.
use Rattle.std.specs.Prelude.{◌≡◌, Bool, true, false, cond, ◌&&◌, List, ℕ, suc, ◌+◌, ◌-◌, ◌*◌, ◌/◌, ◌^◌, ◌≤◌, ◌<◌, max, leb, ltb, length}
use Rattle.laws.specs.Private.Greatest.{Greatest}
use Rattle.laws.specs.Sums.{sum, part_sum}
use Rattle.counts_rules.specs.Limit.{limit}
use Rattle.list_rules.specs.Limits.{max_entries, max_theta, max_q_part}
use Rattle.words_rules.specs.Limits.{max_width}
use Rattle.list_rules.specs.declared.Quality.{Quality}
use Rattle.list_rules.specs.Private.Sound.{Sound}
use Rattle.build_rules.specs.Width.{fits_at}
use Rattle.build_bounds.specs.declared.Ratio.{Ratio}
use Rattle.build_bounds.specs.declared.Over.{Over}
use Rattle.build_bounds.specs.declared.Over.TheVariants.{Length, Count}
use Rattle.build_bounds.specs.declared.Bound.{Bound}
use Rattle.build_bounds.specs.declared.Point.{Point}
use Rattle.build_bounds.specs.declared.Kept.{Kept}
use Rattle.build_bounds.specs.declared.Bounds.{Bounds}
use Rattle.build_bounds.specs.declared.Grown.{Grown}

abbrev pub ratio : ℕ → ℕ → Ratio
ratio t b = record { top = t; bottom = b }

abbrev pub bounds : Ratio → Ratio → ℕ → Bounds
bounds l u n = record { low = l; up = u; longest = n }

abbrev pub kept : Ratio → Point → Point → Kept
kept g l n = record { greatest = g; lowest = l; light = n }

-- before the starts are looked at
abbrev pub unsearched : Ratio → Kept
unsearched g = kept g (record { at = 0; count = 0 }) (record { at = 0; count = 0 })

-- ---- points of a bucketlet at a

abbrev pub point : List ℕ → ℕ → ℕ → Point
point fs a i = record { at = i; count = part_sum a i fs }

abbrev pub IsPoint : List ℕ → ℕ → Point → Type 0
IsPoint fs a p = p.count ≡ part_sum a p.at fs

-- w entries from a on are in the list, and nothing runs over
pub record Inside (fs : List ℕ) (a w : ℕ) : Type 0 where
  pub inside : a + w ≤ length fs
  pub narrow : w ≤ max_width
  pub many : length fs ≤ max_entries
  pub total : sum fs ≤ limit

-- a point, and w entries inside
pub record Movable (fs : List ℕ) (a w : ℕ) (p : Point) : Type 0 where
  pub inside : Inside fs a w
  pub is_point : IsPoint fs a p

-- ---- fractions

-- the fraction of the range between two points
abbrev pub fraction_of : Over → Point → Point → Ratio
fraction_of Length p r = ratio (r.count - p.count) (r.at - p.at)
fraction_of Count p r = ratio (r.at - p.at) (r.count - p.count)

-- f is above p
abbrev pub above : Ratio → Ratio → Bool
above f p = ltb (p.top * f.bottom) (f.top * p.bottom)

abbrev pub greater : Ratio → Ratio → Ratio
greater p f = cond (above f p) f p

-- small enough to be multiplied
pub record Small (p : Ratio) : Type 0 where
  pub top : p.top ≤ limit
  pub bottom : p.bottom ≤ limit

-- two points of which the second is the later one, and the ratio that their range is compared with
pub record Between (p : Ratio) (x y : Point) : Type 0 where
  pub ratio_small : Small p
  pub at : x.at ≤ y.at
  pub count : x.count ≤ y.count
  pub at_small : y.at ≤ max_width
  pub count_small : y.count ≤ limit

-- a range's top and bottom are differences between its two ends
abbrev pub top_at : Over → List ℕ → ℕ → ℕ → ℕ
top_at Length fs a i = part_sum a i fs
top_at Count fs a i = i

abbrev pub bottom_at : Over → List ℕ → ℕ → ℕ → ℕ
bottom_at Length fs a i = i
bottom_at Count fs a i = part_sum a i fs

abbrev pub range_top : Over → List ℕ → ℕ → ℕ → ℕ → ℕ
range_top o fs a i j = top_at o fs a j - top_at o fs a i

abbrev pub range_bottom : Over → List ℕ → ℕ → ℕ → ℕ → ℕ
range_bottom o fs a i j = bottom_at o fs a j - bottom_at o fs a i

-- the largest that they can be
abbrev pub most_top : Over → ℕ
most_top Length = limit
most_top Count = max_width

abbrev pub most_bottom : Over → ℕ
most_bottom Length = max_width
most_bottom Count = limit

-- ---- ranges by their count

abbrev pub Heavy : ℕ → List ℕ → ℕ → ℕ → ℕ → Type 0
Heavy threshold fs a i j = part_sum a i fs + threshold < part_sum a j fs

abbrev pub Light : ℕ → List ℕ → ℕ → ℕ → ℕ → Type 0
Light threshold fs a i j = part_sum a j fs ≤ part_sum a i fs + threshold

-- the heavy ones that end before w, and those that end at w and start at i or later
pub record HeavySeen (threshold : ℕ) (fs : List ℕ) (a w i x y : ℕ) : Type 0 where
  pub inside : y ≤ w
  pub from : y ≡ w → i ≤ x
  pub heavy : Heavy threshold fs a x y

-- the light ones among the same
pub record LightSeen (threshold : ℕ) (fs : List ℕ) (a w i x y : ℕ) : Type 0 where
  pub some : x ≤ y
  pub inside : y ≤ w
  pub from : y ≡ w → i ≤ x
  pub light : Light threshold fs a x y

-- n is the length of the longest of them
pub record Longest (threshold : ℕ) (fs : List ℕ) (a w i n : ℕ) : Type 0 where
  pub covers : (x y : ℕ) → LightSeen threshold fs a w i x y → y - x ≤ n
  pub start : ℕ
  pub end : ℕ
  pub reached : LightSeen threshold fs a w i start end
  pub is : n ≡ end - start

-- ---- what is kept

-- The height of a point above a line of slope p is its top less p times its bottom. A range exceeds p exactly if its end is higher than its start. Here j is
-- no higher than i.
abbrev pub NoHigher : Over → List ℕ → ℕ → Ratio → ℕ → ℕ → Type 0
NoHigher o fs a p j i = top_at o fs a j * p.bottom + p.top * bottom_at o fs a i ≤ top_at o fs a i * p.bottom + p.top * bottom_at o fs a j

abbrev pub lower_of : Over → Ratio → Point → Point → Point
lower_of o p l r = cond (above (fraction_of o l r) p) l r

-- the greatest fraction of the heavy ranges that end at v or before, where those that end at v start at i or later
pub record GreatestSeen (b : Bound) (fs : List ℕ) (a v i : ℕ) (p : Ratio) : Type 0 where
  pub greatest : Greatest (range_top b.over fs a) (range_bottom b.over fs a) (HeavySeen b.threshold fs a v i) p.top p.bottom
  pub top_small : p.top ≤ most_top b.over
  pub bottom_small : p.bottom ≤ most_bottom b.over

-- the starts before `light` are heavy for the end w, and `lowest` is no higher than each
pub record LowestOf (b : Bound) (fs : List ℕ) (a w : ℕ) (k : Kept) : Type 0 where
  pub light_point : IsPoint fs a k.light
  pub light_inside : k.light.at ≤ w
  pub heavy : (i : ℕ) → i < k.light.at → Heavy b.threshold fs a i w
  pub lowest_point : IsPoint fs a k.lowest
  pub lowest_inside : k.lowest.at ≤ k.light.at
  pub lowest_before : 0 < k.light.at → k.lowest.at < k.light.at
  pub lowest : (i : ℕ) → i < k.light.at → NoHigher b.over fs a k.greatest k.lowest.at i

-- both, for the ranges that end at v or before and the starts for the end w
pub record Standing (b : Bound) (fs : List ℕ) (a v w : ℕ) (k : Kept) : Type 0 where
  pub seen : GreatestSeen b fs a v 0 k.greatest
  pub starts : LowestOf b fs a w k

-- the end in hand
pub record Ending (fs : List ℕ) (a : ℕ) (end : Point) : Type 0 where
  pub inside : Inside fs a end.at
  pub some : 0 < end.at
  pub is_point : IsPoint fs a end

-- what is kept of the ends before it
pub record Widenable (b : Bound) (fs : List ℕ) (a : ℕ) (k : Kept) (end : Point) : Type 0 where
  pub ending : Ending fs a end
  pub standing : Standing b fs a (end.at - 1) (end.at - 1) k

-- the same, and the starts for it
pub record Advancing (b : Bound) (fs : List ℕ) (a : ℕ) (k : Kept) (end : Point) : Type 0 where
  pub ending : Ending fs a end
  pub standing : Standing b fs a (end.at - 1) end.at k

-- and `light` is light
pub record Advanced (b : Bound) (fs : List ℕ) (a : ℕ) (k : Kept) (end : Point) : Type 0 where
  pub standing : Standing b fs a (end.at - 1) end.at k
  pub light : Light b.threshold fs a k.light.at end.at

-- there is a heavy start, and from the lowest a range exceeds the greatest fraction
pub record Searchable (b : Bound) (fs : List ℕ) (a : ℕ) (k : Kept) (end : Point) : Type 0 where
  pub ending : Ending fs a end
  pub advanced : Advanced b fs a k end
  pub some : 0 < k.light.at
  pub exceeds : above (fraction_of b.over k.lowest end) k.greatest ≡ true

-- p is the fraction of a range to w from a start before n
pub record StartsAt (b : Bound) (fs : List ℕ) (a w n : ℕ) (p : Ratio) : Type 0 where
  pub start : ℕ
  pub before : start < n
  pub is : p ≡ ratio (range_top b.over fs a start w) (range_bottom b.over fs a start w)

-- such a range has the greatest fraction
pub record Found (b : Bound) (fs : List ℕ) (a : ℕ) (k : Kept) (end : Point) (p : Ratio) : Type 0 where
  pub seen : GreatestSeen b fs a end.at 0 p
  pub starts_at : StartsAt b fs a end.at k.light.at p

-- with the ranges that end at w
pub record Widened (b : Bound) (fs : List ℕ) (a w : ℕ) (k : Kept) : Type 0 where
  pub standing : Standing b fs a w w k
  pub light : Light b.threshold fs a k.light.at w

-- where a range starts, by its fraction and its end
abbrev pub start_of : Over → Ratio → Point → Point
start_of Length f e = record { at = e.at - f.bottom; count = e.count - f.top }
start_of Count f e = record { at = e.at - f.top; count = e.count - f.bottom }

abbrev pub Startable : Over → Ratio → Point → Type 0
Startable Length f e = (f.bottom ≤ e.at) × (f.top ≤ e.count)
Startable Count f e = (f.top ≤ e.at) × (f.bottom ≤ e.count)

-- ---- growth

-- the bounds that the number over the width keeps: from below and from above
abbrev pub low_bound : Quality → Bound
low_bound q = record { over = Length; threshold = q.theta }

-- q times a count is above theta exactly if the count is above this threshold
abbrev pub up_bound : Quality → Bound
up_bound q = record { over = Count; threshold = q.qd * q.theta / q.qn }

-- the bucketlet at a may be so wide
pub record Growable (fs : List ℕ) (a most : ℕ) (q : Quality) : Type 0 where
  pub sound : Sound fs q
  pub inside : a + most ≤ length fs
  pub narrow : most ≤ max_width

-- what the ranges that end at w or before ask of a number over the width, where those that end at w start at i or later
pub record BoundsSeen (q : Quality) (fs : List ℕ) (a w i : ℕ) (b : Bounds) : Type 0 where
  pub low : GreatestSeen (low_bound q) fs a w i b.low
  pub up : GreatestSeen (up_bound q) fs a w i b.up
  pub longest : Longest (up_bound q).threshold fs a w i b.longest

-- the three tests of a number s that stands for a width w
abbrev pub passes : Quality → Bounds → ℕ → ℕ → Bool
passes q b s w =
    leb (q.qd * b.low.top * w) (q.qn * s * b.low.bottom) && (leb (q.qd * b.up.top * s) (q.qn * b.up.bottom * w) && leb (b.longest * s) (q.theta * w))

-- their products are small
pub record Testable (q : Quality) (b : Bounds) (s w : ℕ) : Type 0 where
  pub low_top : b.low.top ≤ limit
  pub low_bottom : b.low.bottom ≤ max_width
  pub up_top : b.up.top ≤ max_width
  pub up_bottom : b.up.bottom ≤ limit
  pub longest_small : b.longest ≤ max_width
  pub number : s < 2 ^ 31
  pub narrow : w ≤ max_width
  pub theta_small : q.theta ≤ max_theta
  pub qn_small : q.qn ≤ max_q_part
  pub qd_small : q.qd ≤ max_q_part

-- ---- the first widths, by every range

-- the greater of p and f if the count is above the threshold, else p
abbrev pub greater_if_heavy : Ratio → ℕ → ℕ → Ratio → Ratio
greater_if_heavy p threshold count f = cond (ltb threshold count) (greater p f) p

-- the longer of two lengths if it is not, else the first
abbrev pub longer : ℕ → ℕ → ℕ → ℕ → ℕ
longer longest threshold count n = cond (ltb threshold count) longest (max longest n)

-- the bounds of the widths before this one are known
pub record Tried (q : Quality) (fs : List ℕ) (a w threshold : ℕ) (b : Bounds) : Type 0 where
  pub inside : Inside fs a w
  pub some : 0 < w
  pub threshold_is : threshold ≡ (up_bound q).threshold
  pub seen : BoundsSeen q fs a (w - 1) 0 b

-- ---- a width that has been reached

-- all up to it fit
pub record FitsTo (q : Quality) (fs : List ℕ) (a most : ℕ) (p : Point) : Type 0 where
  pub within : p.at ≤ most
  pub is_point : IsPoint fs a p
  pub fitting : (m : ℕ) → m < p.at → fits_at q fs a (suc m) ≡ true

-- it is the limit or the next does not
pub record Reached (q : Quality) (fs : List ℕ) (a most : ℕ) (g : Grown) : Type 0 where
  pub fits_to : FitsTo q fs a most g.reached
  pub next : g.reached.at < most → fits_at q fs a (suc g.reached.at) ≡ false
  pub seen : BoundsSeen q fs a g.reached.at 0 g.bounds

-- or the next may fit
pub record Continued (q : Quality) (fs : List ℕ) (a most : ℕ) (g : Grown) : Type 0 where
  pub fits_to : FitsTo q fs a most g.reached
  pub seen : BoundsSeen q fs a g.reached.at 0 g.bounds
