-- Laws of the ranges of a bucketlet by their two ends: tops and bottoms never fall along it, a heavy range is not empty, and one that holds a heavy one
-- is heavy.
-- Assumes nothing.
use mathlib.Core.Path.{◌≡◌}
use mathlib.Core.List.{List}
use Prim.Native.Nat.{ℕ, ◌-◌, ◌≤◌, ◌<◌}
use native.Mathlib.Nat.{lt_of_not-le}
use native.Mathlib.Omega.{arith}
use Rattle.laws.specs.Sums.{part_sum}
use Rattle.laws.proofs.SumsLaws.{part_within, part_le}
use Rattle.counts_rules.specs.Limit.{limit}
use Rattle.list_rules.specs.declared.Quality.{Quality}
use Rattle.build_bounds.specs.declared.Ratio.{Ratio}
use Rattle.build_bounds.specs.declared.Over.{Over}
use Rattle.build_bounds.specs.declared.Over.TheVariants.{Length, Count}
use Rattle.build_bounds.specs.declared.Point.{Point}
use Rattle.build_bounds.specs.Private.Growing.{ratio, point, IsPoint, start_of, Startable, Inside, fraction_of, Small, Between, top_at, bottom_at, range_top, range_bottom, most_top, most_bottom, Heavy, Growable}

pub same_point : (p r : Point) → p.at ≡ r.at → p.count ≡ r.count → p ≡ r
same_point p r a c = λ i. record { at = a i; count = c i }

pub same_ratio : (p r : Ratio) → p.top ≡ r.top → p.bottom ≡ r.bottom → p ≡ r
same_ratio p r t b = λ i. record { top = t i; bottom = b i }

module _ (fs : List ℕ) (a : ℕ) where
  pub count_mono : (i j : ℕ) → i ≤ j → part_sum a i fs ≤ part_sum a j fs
  count_mono i j h = part_within a j a i fs (omega arith) (omega arith)

  pub count_small : (w i : ℕ) → Inside fs a w → part_sum a i fs ≤ limit
  count_small w i h = omega (arith, part_le a i fs, h.total)

  pub heavy_some : (threshold i j : ℕ) → Heavy threshold fs a i j → i < j
  heavy_some threshold i j h = lt_of_not-le (λ (l : j ≤ i). omega (arith, count_mono j i l))

  -- an earlier start or a later end
  pub heavy_wider : (threshold i j x y : ℕ) → x ≤ i → j ≤ y → Heavy threshold fs a i j → Heavy threshold fs a x y
  heavy_wider threshold i j x y h k l = omega (arith, count_mono x i h, count_mono j y k)

  pub top_mono : (o : Over) (i j : ℕ) → i ≤ j → top_at o fs a i ≤ top_at o fs a j
  top_mono Length i j h = count_mono i j h
  top_mono Count i j h = h

  pub bottom_mono : (o : Over) (i j : ℕ) → i ≤ j → bottom_at o fs a i ≤ bottom_at o fs a j
  bottom_mono Length i j h = h
  bottom_mono Count i j h = count_mono i j h

  pub bottom_some : (o : Over) (threshold i j : ℕ) → Heavy threshold fs a i j → 0 < range_bottom o fs a i j
  bottom_some Length threshold i j h = omega (arith, heavy_some threshold i j h)
  bottom_some Count threshold i j h = omega arith

  -- what the code makes of two points
  pub fraction_is : (o : Over) (p r : Point) → IsPoint fs a p → IsPoint fs a r → fraction_of o p r ≡ ratio (range_top o fs a p.at r.at) (range_bottom o fs a p.at r.at)
  fraction_is Length p r e f = rw (e, f)
  fraction_is Count p r e f = rw (e, f)

  -- and back
  pub start_is : (o : Over) (i : ℕ) (e : Point) → IsPoint fs a e → i ≤ e.at → start_of o (ratio (range_top o fs a i e.at) (range_bottom o fs a i e.at)) e ≡ point fs a i
  start_is Length i e is_e h = same_point _ (point fs a i) (omega arith) (omega (arith, count_mono i e.at h))
  start_is Count i e is_e h = same_point _ (point fs a i) (omega arith) (omega (arith, count_mono i e.at h))

  pub startable : (o : Over) (i : ℕ) (e : Point) → IsPoint fs a e → Startable o (ratio (range_top o fs a i e.at) (range_bottom o fs a i e.at)) e
  startable Length i e is_e = (omega arith, omega arith)
  startable Count i e is_e = (omega arith, omega arith)

  -- and how large it is
  pub top_small : (o : Over) (w i j : ℕ) → Inside fs a w → j ≤ w → range_top o fs a i j ≤ most_top o
  top_small Length w i j h l = omega (arith, count_small w j h)
  top_small Count w i j h l = omega (arith, h.narrow)

  pub bottom_small : (o : Over) (w i j : ℕ) → Inside fs a w → j ≤ w → range_bottom o fs a i j ≤ most_bottom o
  bottom_small Length w i j h l = omega (arith, h.narrow)
  bottom_small Count w i j h l = omega (arith, count_small w j h)

pub small : (o : Over) (p : Ratio) → p.top ≤ most_top o → p.bottom ≤ most_bottom o → Small p
small Length p t b = record { top = t; bottom = omega arith }
small Count p t b = record { top = omega arith; bottom = b }

pub bottom_one : (o : Over) → 1 ≤ most_bottom o
bottom_one Length = omega arith
bottom_one Count = omega arith

pub fraction_small : (o : Over) (p : Ratio) (x y : Point) → Between p x y → Small (fraction_of o x y)
fraction_small Length p x y b = record { top = omega (arith, b.count_small); bottom = omega (arith, b.at_small) }
fraction_small Count p x y b = record { top = omega (arith, b.at_small); bottom = omega (arith, b.count_small) }

-- each order of the two differences
pub fraction_length : (o : Over) (r : Ratio) (x y : Point) → o ≡ Length → r.top ≡ y.count - x.count → r.bottom ≡ y.at - x.at → r ≡ fraction_of o x y
fraction_length o r x y e t b = rw e (same_ratio r (fraction_of Length x y) t b)

pub fraction_count : (o : Over) (r : Ratio) (x y : Point) → o ≡ Count → r.top ≡ y.at - x.at → r.bottom ≡ y.count - x.count → r ≡ fraction_of o x y
fraction_count o r x y e t b = rw e (same_ratio r (fraction_of Count x y) t b)

pub inside_less : (fs : List ℕ) (a v w : ℕ) → v ≤ w → Inside fs a w → Inside fs a v
inside_less fs a v w h i = record { inside = omega (arith, i.inside); narrow = omega (arith, i.narrow); many = i.many; total = i.total }

-- a bucketlet that may be so wide
pub growable_inside : (fs : List ℕ) (a most w : ℕ) (q : Quality) → Growable fs a most q → w ≤ most → Inside fs a w
growable_inside fs a most w q g h =
    record { inside = omega (arith, g.inside); narrow = omega (arith, g.narrow); many = g.sound.many; total = g.sound.total }

pub start_length : (o : Over) (r : Point) (f : Ratio) (e : Point) → o ≡ Length → r.at ≡ e.at - f.bottom → r.count ≡ e.count - f.top → r ≡ start_of o f e
start_length o r f e d a c = rw d (same_point r (start_of Length f e) a c)

pub start_count : (o : Over) (r : Point) (f : Ratio) (e : Point) → o ≡ Count → r.at ≡ e.at - f.top → r.count ≡ e.count - f.bottom → r ≡ start_of o f e
start_count o r f e d a c = rw d (same_point r (start_of Count f e) a c)
