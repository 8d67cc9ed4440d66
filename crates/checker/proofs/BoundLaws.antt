-- Why a pass from the right finds the first start of a range that breaks a bound (specs/Private/Breaking.antt). A range breaks it exactly if its end is
-- far from its start and higher. The ends far from a start are all after some point, which only moves to the left with the start; so the highest of
-- them is enough to know.
-- Assumes nothing.
use mathlib.Core.Path.{◌≡◌, refl, sym, ap, subst, ◌∙◌}
use mathlib.Core.Bool.{Bool, true, false}
use mathlib.Core.List.{List}
use mathlib.Core.Logic.{◌⊎◌, inl, inr, ⊎_elim}
use Prim.Native.Nat.{ℕ, suc, ◌+◌, ◌-◌, ◌^◌, ◌≤◌, ◌<◌, max}
use native.Mathlib.Nat.{eq-or-lt_of_le, eq-zero-or-pos, lt_of_not-le}
use native.Mathlib.Omega.{arith}
use borrow.Author.Tests.{leb-true, leb-false, lt-ltb, le-ltb}
use lib.Dec.{leb}
use lib.ListN.{get_or}
use Rattle.laws.specs.Sums.{part_sum}
use Rattle.laws.proofs.SumsLaws.{part_add, part_cons}
use Rattle.checker.specs.declared.bound.Measure.{Measure}
use Rattle.checker.specs.declared.bound.Bound.{Bound}
use Rattle.checker.specs.declared.bound.Point.{Point}
use Rattle.checker.specs.declared.bound.FarEnds.{FarEnds}
use Rattle.checker.specs.Private.Searching.{BadEnd, FirstStart}
use Rattle.checker.specs.Private.Breaking.{measured, entry_measured, range_breaks, over_at, under_at, height_at, IsPoint, stepped, Steps, Usable, Met, Far, FarAll}

abbrev height : Point → ℕ
height p = p.over + p.under

module _ (fs : List ℕ) (b : Bound) where
  -- the count of the range from i to j, and its measures
  abbrev range_count : ℕ → ℕ → ℕ
  range_count i j = part_sum (b.start + i) (j - i) fs

  abbrev over_of : ℕ → ℕ → ℕ
  over_of i j = measured b.over (range_count i j) (j - i)

  abbrev under_of : ℕ → ℕ → ℕ
  under_of i j = measured b.under (range_count i j) (j - i)

  -- ---- a range is the difference between its ends

  measured_add : (m : Measure) (f g n k : ℕ) → measured m (f + g) (n + k) ≡ measured m f n + measured m g k
  measured_add m f g n k = omega arith

  over_split : (i j : ℕ) → i ≤ j → over_at b fs j ≡ over_at b fs i + over_of i j
  over_split i j h =
      let n : i + (j - i) ≡ j = omega arith in
      let counts = sym (ap (λ (k : ℕ). part_sum b.start k fs) n) ∙ part_add b.start i (j - i) fs in
      (λ k. measured b.over (counts k) (sym n k)) ∙ measured_add b.over (part_sum b.start i fs) (range_count i j) i (j - i)

  under_split : (i j : ℕ) → i ≤ j → j ≤ b.width → under_at b fs i ≡ under_at b fs j + under_of i j
  under_split i j h l =
      let w = b.width in
      let n : w - i ≡ j - i + (w - j) = omega arith in
      let p : b.start + i + (j - i) ≡ b.start + j = omega arith in
      let counts : part_sum (b.start + i) (w - i) fs ≡ range_count i j + part_sum (b.start + j) (w - j) fs =
      ap (λ (k : ℕ). part_sum (b.start + i) k fs) n
      ∙ part_add (b.start + i) (j - i) (w - j) fs
      ∙ ap (λ (k : ℕ). range_count i j + part_sum k (w - j) fs) p in
      (λ k. measured b.under (counts k) (n k))
      ∙ measured_add b.under (range_count i j) (part_sum (b.start + j) (w - j) fs) (j - i) (w - j)
      ∙ omega arith

  over_mono : (i j : ℕ) → i ≤ j → over_at b fs i ≤ over_at b fs j
  over_mono i j h = omega (arith, over_split i j h)

  -- ---- what breaks

  -- an end that is far and higher
  breaks_there : (i j : ℕ) → i ≤ j → j ≤ b.width → over_at b fs i + b.least < over_at b fs j → height_at b fs i < height_at b fs j
      → range_breaks b fs i j ≡ true
  breaks_there i j h l far high =
      lt-ltb (max b.least (under_of i j)) (over_of i j) (larger (over_of i j) (under_of i j) (over_split i j h) (under_split i j h l))
    where
      larger : (o u : ℕ) → over_at b fs j ≡ over_at b fs i + o → under_at b fs i ≡ under_at b fs j + u → max b.least u < o
      larger o u d e = omega arith

  -- an end that is not, if it is far
  keeps_there : (i j : ℕ) → i ≤ j → j ≤ b.width → (over_at b fs i + b.least < over_at b fs j → height_at b fs j ≤ height_at b fs i)
      → range_breaks b fs i j ≡ false
  keeps_there i j h l low =
      le-ltb (max b.least (under_of i j)) (over_of i j) (go (leb (over_at b fs j) reach) refl (over_of i j) (under_of i j) (over_split i j h) (under_split i j h l))
    where
      reach : ℕ
      reach = over_at b fs i + b.least

      go : (t : Bool) → leb (over_at b fs j) reach ≡ t → (o u : ℕ) → over_at b fs j ≡ over_at b fs i + o → under_at b fs i ≡ under_at b fs j + u
          → o ≤ max b.least u
      go true t o u d e = omega (arith, leb-true (over_at b fs j) reach t)
      go false t o u d e = omega (arith, low (leb-false (over_at b fs j) reach t))

  -- ---- the point one entry earlier

  module _ (p : Point) (is : IsPoint fs b p) (some : 0 < p.at) where
    abbrev f : ℕ
    f = get_or fs (b.start + (p.at - 1)) 0

    entry : range_count (p.at - 1) p.at ≡ f
    entry =
        let n : p.at - (p.at - 1) ≡ 1 = omega arith in
        ap (λ (k : ℕ). part_sum (b.start + (p.at - 1)) k fs) n ∙ part_cons (b.start + (p.at - 1)) 0 fs ∙ omega arith

    one : (m : Measure) → measured m (range_count (p.at - 1) p.at) (p.at - (p.at - 1)) ≡ entry_measured m f
    one m =
        let n : p.at - (p.at - 1) ≡ 1 = omega arith in
        let e : measured m f 1 ≡ entry_measured m f = omega arith in
        (λ k. measured m (entry k) (n k)) ∙ e

    over_step : over_at b fs p.at ≡ over_at b fs (p.at - 1) + entry_measured b.over f
    over_step = over_split (p.at - 1) p.at (omega arith) ∙ ap (λ (x : ℕ). over_at b fs (p.at - 1) + x) (one b.over)

    under_step : under_at b fs (p.at - 1) ≡ under_at b fs p.at + entry_measured b.under f
    under_step = under_split (p.at - 1) p.at (omega arith) is.within ∙ ap (λ (x : ℕ). under_at b fs p.at + x) (one b.under)

    pub step_point : IsPoint fs b (stepped b f p)
    step_point =
        record {
          within = omega (arith, is.within);
          over = omega (arith, is.over, over_step);
          under = omega (arith, is.under, under_step);
        }

    pub steps : Usable fs b → Steps fs b p
    steps u =
        record {
          some = some;
          inside = omega (arith, is.within, u.inside);
          many = u.many;
          over_left = omega (arith, is.over, over_step);
          under_small = omega (arith, is.under, under_step, under_split 0 (p.at - 1) (omega arith) (omega (arith, is.within)), u.under_small);
        }

  -- a point that is one entry before another
  module _ (before p : Point) (is : IsPoint fs b before) (some : 0 < before.at) (e : p ≡ stepped b (get_or fs (b.start + (before.at - 1)) 0) before) where
    pub moved : IsPoint fs b p
    moved = subst (IsPoint fs b) (sym e) (step_point before is some)

    pub moved_at : suc p.at ≡ before.at
    moved_at = omega (arith, ap (λ (r : Point). r.at) e)

    pub moved_over : p.over ≤ before.over
    moved_over = omega (arith, ap (λ (r : Point). r.over) e)

  -- the numbers of a point are small
  pub over_small : Usable fs b → (p : Point) → IsPoint fs b p → p.over < 2 ^ 53
  over_small u p is = omega (arith, u.over_small, is.over, over_mono p.at b.width is.within)

  pub under_small : Usable fs b → (p : Point) → IsPoint fs b p → p.under < 2 ^ 53
  under_small u p is = omega (arith, u.under_small, is.under, under_split 0 p.at (omega arith) is.within)

  -- a point beyond something is not the first
  pub not_first : (p : Point) → IsPoint fs b p → (reach : ℕ) → reach < p.over → 0 < p.at
  not_first p is reach h = ⊎_elim (λ (z : p.at ≡ 0). absurd (none z)) (λ (g : 0 < p.at). g) (eq-zero-or-pos p.at)
    where
      none : p.at ≡ 0 → ⊥
      none z = let o = is.over ∙ ap (over_at b fs) z in omega arith

  -- ---- far ends

  -- they are far from every earlier start
  pub far_earlier : (reach less : ℕ) (e : FarEnds) → less ≤ reach → Far fs b reach e → Far fs b less e
  far_earlier reach less e h d = record { point = d.point; far = λ j g l. omega (arith, d.far j g l); lower = d.lower; met = d.met }

  -- one more
  pub far_more : (reach : ℕ) (e : FarEnds) (p : Point) → Far fs b reach e → reach < e.last.over → IsPoint fs b p → e.last.at ≡ suc p.at
      → Far fs b reach (record { last = p; highest = max e.highest (height e.last) })
  far_more reach e p d o is n =
      record {
        point = is;
        far = λ j h l. at_or_after (λ (k : ℕ). reach < over_at b fs k) j h (omega (arith, d.point.over)) (λ g. d.far j g l);
        lower = λ j h l. at_or_after (λ (k : ℕ). height_at b fs k ≤ max e.highest (height e.last)) j h (omega (arith, is_height)) (λ g. omega (arith, d.lower j g l));
        met = go (leb e.highest (height e.last)) refl;
      }
    where
      is_height : height e.last ≡ height_at b fs e.last.at
      is_height = omega (arith, d.point.over, d.point.under)

      -- an end after the new last one is the old one or after it
      at_or_after : (P : ℕ → Type 0) (j : ℕ) → p.at < j → P e.last.at → (e.last.at < j → P j) → P j
      at_or_after P j h x y = ⊎_elim (λ (g : e.last.at ≡ j). subst P g x) y (eq-or-lt_of_le (omega arith))

      older : (x : ℕ) → Met fs b e.last.at x → Met fs b p.at x
      older x m = record { end = m.end; after = omega (arith, m.after); inside = m.inside; is = m.is }

      go : (t : Bool) → leb e.highest (height e.last) ≡ t → (max e.highest (height e.last) ≡ 0) ⊎ Met fs b p.at (max e.highest (height e.last))
      go true t =
          let h = leb-true e.highest (height e.last) t in
          inr (record { end = e.last.at; after = omega arith; inside = d.point.within; is = omega (arith, is_height) })
      go false t =
          let h = leb-false e.highest (height e.last) t in
          let m : e.highest ≡ max e.highest (height e.last) = omega arith in
          subst (λ (x : ℕ). (x ≡ 0) ⊎ Met fs b p.at x) m (⊎_elim inl (λ (k : Met fs b e.last.at e.highest). inr (older _ k)) d.met)

  -- ---- starts

  module _ (p : Point) (e : FarEnds) (is : IsPoint fs b p) (r : FarAll fs b p e) where
    -- no far end is higher: nothing from here breaks the bound
    pub none_higher : e.highest ≤ p.over + p.under → (j : ℕ) → p.at < j → j ≤ b.width → range_breaks b fs p.at j ≡ false
    none_higher h j g l = keeps_there p.at j (omega arith) l (λ o. omega (arith, r.far.lower j (after o) l, is.over, is.under))
      where
        after : over_at b fs p.at + b.least < over_at b fs j → e.last.at < j
        after o = lt_of_not-le (λ (m : j ≤ e.last.at). omega (arith, over_mono j e.last.at m, r.not_far, r.far.point.over, is.over))

    -- some far end is
    pub some_higher : p.over + p.under < e.highest → BadEnd b.width (range_breaks b fs) p.at
    some_higher h = ⊎_elim (λ (z : e.highest ≡ 0). absurd (omega arith)) found r.far.met
      where
        found : Met fs b e.last.at e.highest → BadEnd b.width (range_breaks b fs) p.at
        found m =
            let o = r.far.far m.end m.after m.inside in
            let g = lt_of_not-le (λ (k : m.end ≤ p.at). omega (arith, over_mono m.end p.at k, is.over)) in
            record {
              end = m.end;
              after = g;
              inside = m.inside;
              is_bad = breaks_there p.at m.end (omega arith) m.inside (omega (arith, is.over)) (omega (arith, m.is, is.over, is.under));
            }

  -- the first start of a range that breaks the bound, from the last start down
  abbrev pub FirstFrom : ℕ → ℕ → Type 0
  FirstFrom = FirstStart b.width (range_breaks b fs)

  pub first_kept : (i first : ℕ) → FirstFrom (suc i) first → ((y : ℕ) → i < y → y ≤ b.width → range_breaks b fs i y ≡ false) → FirstFrom i first
  first_kept i first d none =
      record {
        within = d.within;
        earlier = λ x y h g l m.
            ⊎_elim
            (λ (e : i ≡ x). subst (λ (k : ℕ). range_breaks b fs k y ≡ false) e (none y (omega arith) m))
            (λ (e : i < x). d.earlier x y e g l m)
            (eq-or-lt_of_le h);
        ended = d.ended;
      }

  pub first_found : (i : ℕ) → i ≤ b.width → BadEnd b.width (range_breaks b fs) i → FirstFrom i i
  first_found i h e = record { within = h; earlier = λ x y g l. absurd (omega arith); ended = λ g. e }
