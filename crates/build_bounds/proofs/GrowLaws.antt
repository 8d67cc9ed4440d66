-- The tests that growth makes at a width are that of fitting, and the width at which it stops is the largest. A range's estimate is at most q times its
-- count or at most theta: for a heavy one, whose count times q is above theta, the first is asked, and for a light one the second.
-- Assumes nothing.
use mathlib.Core.Path.{◌≡◌, refl, sym, ap, ◌∙◌}
use mathlib.Core.Bool.{Bool, true, false}
use mathlib.Core.List.{List}
use Prim.Native.Nat.{ℕ, suc, ◌+◌, ◌-◌, ◌*◌, ◌/◌, ◌≤◌, ◌<◌, max}
use native.Mathlib.Nat.{div-mul-le_self, lt-div-mul-add, mul-le-mul_left, mul-le-mul_right, le_of_mul-le-mul_left}
use native.Mathlib.Omega.{arith}
use borrow.Author.Count.{below_more}
use borrow.Author.Tests.{leb-true, le-leb, ltb-true, ltb-false}
use lib.Dec.{leb, ltb}
use Rattle.laws.specs.Each.{each}
use Rattle.laws.specs.Sums.{part_sum}
use Rattle.laws.proofs.EachLaws.{each_at, each_all}
use Rattle.laws.proofs.GreatestLaws.{each_at_most}
use Rattle.laws.proofs.SumsLaws.{part_add}
use Rattle.laws.proofs.Tests.{both, both_left, both_right, same_test}
use Rattle.laws.proofs.SearchLaws.{largest_unique}
use Rattle.counts_rules.specs.Class.{class_value}
use Rattle.list_rules.specs.declared.Quality.{Quality}
use Rattle.fit.specs.Fit.{near, fits, ranges_fit, bucketlet_fits}
use Rattle.fit.proofs.FitLaws.{Bounded, says_near, fits_bounded, bounded_fits}
use Rattle.list_rules.specs.Private.Sound.{Sound}
use Rattle.build_rules.specs.Width.{fits_at, width}
use Rattle.build_rules.proofs.WidthLaws.{count_small, value_near}
use Rattle.build_bounds.specs.declared.Over.TheVariants.{Length, Count}
use Rattle.build_bounds.specs.declared.Bounds.{Bounds}
use Rattle.build_bounds.specs.declared.Point.{Point}
use Rattle.build_bounds.specs.Private.Growing.{HeavySeen, range_top, range_bottom, point, BoundsSeen, FitsTo, passes}
use Rattle.build_bounds.proofs.RangeLaws.{heavy_some}

-- the count between two points
range_count_lem : (fs : List ℕ) (a i j : ℕ) → i ≤ j → part_sum a j fs ≡ part_sum a i fs + part_sum (a + i) (j - i) fs
range_count_lem fs a i j h = let e : j ≡ i + (j - i) = omega arith in ap (λ (k : ℕ). part_sum a k fs) e ∙ part_add a i (j - i) fs

module _ (q : Quality) (fs : List ℕ) (a : ℕ) (sound : Sound fs q) where
  abbrev threshold : ℕ
  threshold = q.qd * q.theta / q.qn

  factor : q.qd ≤ q.qn
  factor = omega (arith, sound.factor)

  -- counts above and up to the threshold
  heavy_cap : (f : ℕ) → threshold < f → q.qd * q.theta < q.qn * f
  heavy_cap f h = omega (arith, lt-div-mul-add {a = q.qd * q.theta} {b = q.qn} (omega (arith, factor, sound.qd_some)), mul-le-mul_left q.qn h)

  light_cap : (f : ℕ) → f ≤ threshold → q.qn * f ≤ q.qd * q.theta
  light_cap f h = omega (arith, div-mul-le_self (q.qd * q.theta) q.qn, mul-le-mul_left q.qn h)

  -- what is tested of a number s at width w
  record Tests (b : Bounds) (s w : ℕ) : Type 0 where
    lower : b.low.top * (q.qd * w) ≤ q.qn * s * b.low.bottom
    upper : b.up.top * (q.qd * s) ≤ q.qn * w * b.up.bottom
    light : b.longest * s ≤ q.theta * w

  module _ (w s : ℕ) (b : Bounds) (known : BoundsSeen q fs a w 0 b) where
    bounded : bucketlet_fits q fs a w s ≡ true → (i j : ℕ) → i ≤ j → j ≤ w → Bounded q (part_sum (a + i) (j - i) fs) (j - i) s w
    unfolding bucketlet_fits ranges_fit
    bounded t i j h k =
        let r = both_right (near q (part_sum a w fs) (w * s) w) _ t in
        let e = each_at (suc w) (λ i. each (suc (w - i)) (λ n. fits q (part_sum (a + i) n fs) (n * s) w)) r i (omega arith) in
        fits_bounded q sound.qd_some factor (part_sum (a + i) (j - i) fs) (j - i) s w
        (each_at (suc (w - i)) (λ n. fits q (part_sum (a + i) n fs) (n * s) w) e (j - i) (omega arith))

    fits_tests : bucketlet_fits q fs a w s ≡ true → Tests b s w
    fits_tests t = record { lower = known.low.greatest.reached (q.qn * s) (q.qd * w) below; upper = known.up.greatest.reached (q.qn * w) (q.qd * s) cap; light = short }
      where
        below : (i j : ℕ) → HeavySeen q.theta fs a w 0 i j → (part_sum a j fs - part_sum a i fs) * (q.qd * w) ≤ q.qn * s * (j - i)
        below i j h =
            let before = heavy_some fs a q.theta i j h.heavy in
            let f = part_sum (a + i) (j - i) fs in
            let e : part_sum a j fs - part_sum a i fs ≡ f = omega (arith, range_count_lem fs a i j (omega arith)) in
            rw e ((bounded t i j (omega arith) h.inside).below (omega (arith, h.heavy)))

        cap : (i j : ℕ) → HeavySeen threshold fs a w 0 i j → (j - i) * (q.qd * s) ≤ q.qn * w * (part_sum a j fs - part_sum a i fs)
        cap i j h =
            let before = heavy_some fs a threshold i j h.heavy in
            let f = part_sum (a + i) (j - i) fs in
            let e : part_sum a j fs - part_sum a i fs ≡ f = omega (arith, range_count_lem fs a i j (omega arith)) in
            let m : max (q.qd * q.theta) (q.qn * f) ≡ q.qn * f = omega (arith, heavy_cap f (omega (arith, h.heavy))) in
            let c = (bounded t i j (omega arith) h.inside).above in
            rw e (omega (arith, ap (λ (z : ℕ). w * z) m))

        short : b.longest * s ≤ q.theta * w
        short =
            let i = known.longest.start in
            let j = known.longest.end in
            let r = known.longest.reached in
            let f = part_sum (a + i) (j - i) fs in
            let e = range_count_lem fs a i j r.some in
            let m : max (q.qd * q.theta) (q.qn * f) ≡ q.qd * q.theta = omega (arith, light_cap f (omega (arith, r.light))) in
            let c = (bounded t i j r.some r.inside).above in
            let p : q.qd * ((j - i) * s) ≤ q.qd * (q.theta * w) = omega (arith, ap (λ (z : ℕ). w * z) m) in
            rw known.longest.is (le_of_mul-le-mul_left p sound.qd_some)

    tests_fit : near q (part_sum a w fs) (w * s) w ≡ true → Tests b s w → bucketlet_fits q fs a w s ≡ true
    unfolding bucketlet_fits ranges_fit
    tests_fit t r =
        both (near q (part_sum a w fs) (w * s) w) _ t
        (each_all (suc w) (λ i. each (suc (w - i)) (λ n. fits q (part_sum (a + i) n fs) (n * s) w))
        (λ i h. each_all (suc (w - i)) (λ n. fits q (part_sum (a + i) n fs) (n * s) w) (λ m k. range i m (omega arith))))
      where
        seen : (t i m : ℕ) → i + m ≤ w → t < part_sum (a + i) m fs → HeavySeen t fs a w 0 i (i + m)
        seen t i m h k = record { inside = h; from = λ _. omega arith; heavy = omega (arith, part_add a i m fs) }

        count : (i m : ℕ) → part_sum a (i + m) fs - part_sum a i fs ≡ part_sum (a + i) m fs
        count i m = omega (arith, part_add a i m fs)

        length : (i m : ℕ) → i + m - i ≡ m
        length i m = omega arith

        below : (i m : ℕ) → i + m ≤ w → q.theta < part_sum (a + i) m fs → part_sum (a + i) m fs * (q.qd * w) ≤ q.qn * s * m
        below i m h k =
            rw (count i m, length i m) at
            (each_at_most (range_top Length fs a) (range_bottom Length fs a) (HeavySeen q.theta fs a w 0) (HeavySeen q.theta fs a w 0) b.low.top b.low.bottom known.low.greatest
            (q.qn * s) (q.qd * w) i (i + m) r.lower (seen q.theta i m h k))

        heavy : (i m : ℕ) → i + m ≤ w → threshold < part_sum (a + i) m fs → m * (q.qd * s) ≤ w * max (q.qd * q.theta) (q.qn * part_sum (a + i) m fs)
        heavy i m h k =
            let f = part_sum (a + i) m fs in
            let p : m * (q.qd * s) ≤ q.qn * w * f =
            rw (count i m, length i m) at
            (each_at_most (range_top Count fs a) (range_bottom Count fs a) (HeavySeen threshold fs a w 0) (HeavySeen threshold fs a w 0) b.up.top b.up.bottom known.up.greatest
            (q.qn * w) (q.qd * s) i (i + m) r.upper (seen threshold i m h k)) in
            let c : q.qn * f ≤ max (q.qd * q.theta) (q.qn * f) = omega arith in
            omega (arith, mul-le-mul_left w c)

        light : (i m : ℕ) → i + m ≤ w → part_sum (a + i) m fs ≤ threshold → m * (q.qd * s) ≤ w * max (q.qd * q.theta) (q.qn * part_sum (a + i) m fs)
        light i m h k =
            let p = known.longest.covers i (i + m) (record { some = omega arith; inside = h; from = λ _. omega arith; light = omega (arith, part_add a i m fs) }) in
            let o : m ≤ b.longest = omega arith in
            let c : q.qd * q.theta ≤ max (q.qd * q.theta) (q.qn * part_sum (a + i) m fs) = omega arith in
            let d : m * s ≤ q.theta * w = omega (arith, mul-le-mul_right s o, r.light) in
            omega (arith, mul-le-mul_left w c, mul-le-mul_left q.qd d)

        cap : (i m : ℕ) → i + m ≤ w → (t : Bool) → ltb threshold (part_sum (a + i) m fs) ≡ t → m * (q.qd * s) ≤ w * max (q.qd * q.theta) (q.qn * part_sum (a + i) m fs)
        cap i m h true e = heavy i m h (ltb-true threshold (part_sum (a + i) m fs) e)
        cap i m h false e = light i m h (ltb-false threshold (part_sum (a + i) m fs) e)

        range : (i m : ℕ) → i + m ≤ w → fits q (part_sum (a + i) m fs) (m * s) w ≡ true
        range i m h =
            bounded_fits q sound.qd_some factor (part_sum (a + i) m fs) m s w
            (record { below = below i m h; above = cap i m h (ltb threshold (part_sum (a + i) m fs)) refl })

    -- the tests of the code are those of the definition
    pub test_fits : s ≡ class_value (part_sum a w fs) → passes q b s w ≡ fits_at q fs a w
    unfolding fits_at
    test_fits e = same_test (passes q b s w) (bucketlet_fits q fs a w (class_value (part_sum a w fs))) there back
      where
        first : Bool
        first = leb (q.qd * b.low.top * w) (q.qn * s * b.low.bottom)

        second : Bool
        second = leb (q.qd * b.up.top * s) (q.qn * b.up.bottom * w)

        there : passes q b s w ≡ true → bucketlet_fits q fs a w (class_value (part_sum a w fs)) ≡ true
        there t =
            let r = both_right first _ t in
            let lower = leb-true (q.qd * b.low.top * w) (q.qn * s * b.low.bottom) (both_left first _ t) in
            let upper = leb-true (q.qd * b.up.top * s) (q.qn * b.up.bottom * w) (both_left second _ r) in
            let n = value_near q fs sound (part_sum a w fs) w (count_small q fs sound a w) in
            rw (sym e)
            (tests_fit (rw e (says_near q (part_sum a w fs) (w * class_value (part_sum a w fs)) w n))
            (record { lower = omega arith; upper = omega arith; light = leb-true _ _ (both_right second _ r) }))

        back : bucketlet_fits q fs a w (class_value (part_sum a w fs)) ≡ true → passes q b s w ≡ true
        back t =
            let r = fits_tests (rw e t) in
            both first _ (le-leb (q.qd * b.low.top * w) (q.qn * s * b.low.bottom) (omega (arith, r.lower)))
            (both second _ (le-leb (q.qd * b.up.top * s) (q.qn * b.up.bottom * w) (omega (arith, r.upper))) (le-leb (b.longest * s) (q.theta * w) r.light))

  -- ---- a width more

  pub fits_none : (most : ℕ) → FitsTo q fs a most (point fs a 0)
  fits_none most = record { within = omega arith; is_point = refl; fitting = λ m h. absurd (omega arith) }

  -- with a larger limit
  pub fits_wider : (few most : ℕ) (p : Point) → few ≤ most → FitsTo q fs a few p → FitsTo q fs a most p
  fits_wider few most p h f = record { within = omega (arith, f.within); is_point = f.is_point; fitting = f.fitting }

  -- what the test of the next width says
  pub end_fits : (i s : ℕ) (end : Point) (b : Bounds) (t : Bool) → t ≡ passes q b s end.at → end ≡ point fs a i → s ≡ class_value end.count
      → BoundsSeen q fs a end.at 0 b → t ≡ fits_at q fs a i
  end_fits i s end b t p e d k =
      let at = ap (λ (p : Point). p.at) e in
      let count = ap (λ (p : Point). p.count) e ∙ ap (λ (j : ℕ). part_sum a j fs) (sym at) in
      p ∙ test_fits end.at s b k (d ∙ ap class_value count) ∙ ap (fits_at q fs a) at

  pub fits_next : (most : ℕ) (p end : Point) → FitsTo q fs a most p → p.at < most → end ≡ point fs a (suc p.at) → fits_at q fs a (suc p.at) ≡ true
      → FitsTo q fs a most end
  fits_next most p end f h e t =
      rw e
      (record {
        within = h;
        is_point = refl;
        fitting = λ m l. below_more (λ (m : ℕ). fits_at q fs a (suc m) ≡ true) p.at f.fitting t m (omega arith);
      })

  -- each width up to w fits, and w is the limit or the next does not fit
  pub width_is : (most : ℕ) (p : Point) → FitsTo q fs a most p → (p.at < most → fits_at q fs a (suc p.at) ≡ false) → p.at ≡ width q fs a most
  unfolding width
  width_is most p f n = sym (largest_unique (fits_at q fs a) most p.at (record { within = f.within; passing = f.fitting; next = n }))

  -- the same where it has been reached up to a smaller limit
  pub width_early : (few most : ℕ) (p : Point) → few ≤ most → p.at < few → FitsTo q fs a few p → (p.at < few → fits_at q fs a (suc p.at) ≡ false) → p.at ≡ width q fs a most
  width_early few most p h l f n = width_is most p (fits_wider few most p h f) (λ _. n l)
