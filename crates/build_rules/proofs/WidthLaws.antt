-- Laws of the width: the class of a count is within 5/4 of it, so a whole bucketlet always meets its rule, width 1 always fits, and the width is
-- the largest within its limit.
-- Assumes nothing.
use mathlib.Core.Path.{◌≡◌}
use mathlib.Core.Bool.{true, false}
use mathlib.Core.List.{List}
use Prim.Native.Nat.{ℕ, zero, suc, ◌+◌, ◌-◌, ◌*◌, ◌^◌, ◌≤◌, ◌<◌}
use native.Mathlib.Nat.{le_trans, mul-le-mul_left, mul-le-mul_right}
use native.Mathlib.Omega.{arith}
use lib.ListN.{length}
use Rattle.laws.specs.Each.{each}
use Rattle.laws.specs.Search.{largest}
use Rattle.laws.specs.Sums.{part_sum}
use Rattle.laws.proofs.Tests.{both, true_not_false}
use Rattle.laws.proofs.EachLaws.{each_all}
use Rattle.laws.proofs.SearchLaws as Search
use Rattle.laws.proofs.SearchLaws.{largest_is}
use Rattle.laws.proofs.SumsLaws.{part_le}
use Rattle.counts_rules.specs.Limit.{limit}
use Rattle.counts_rules.specs.Form.{base}
use Rattle.counts_rules.specs.Class.{class_of, class_value}
use Rattle.counts_rules.proofs.BaseLaws.{class_used, number_small, count_close}
use Rattle.list_rules.specs.declared.Quality.{Quality}
use Rattle.fit.specs.Fit.{near, fits, ranges_fit, bucketlet_fits}
use Rattle.fit.proofs.FitLaws.{Near, says_near, near_fits, small_fits}
use Rattle.list_rules.specs.Private.Sound.{Sound}
use Rattle.build_rules.specs.Width.{fits_at, width}
use Rattle.build_rules.specs.Claims.{Largest}

pub value_small : (v : ℕ) → v ≤ limit → class_value v < 2 ^ 31
value_small v l = number_small (class_of base v) (class_used v l)

module _ (q : Quality) (fs : List ℕ) (sound : Sound fs q) where
  pub count_small : (i n : ℕ) → part_sum i n fs ≤ limit
  count_small i n = le_trans (part_le i n fs) sound.total

  -- a count and its number are within q, since q is at least 5/4
  pub value_near : (v w : ℕ) → v ≤ limit → Near q v (w * class_value v) w
  value_near v w l =
      let c = count_close v l in
      let s = class_value v in
      let over : 4 * (q.qd * v) ≤ 4 * (q.qn * s) = omega (arith, mul-le-mul_left q.qd c.count, mul-le-mul_right s sound.factor) in
      let under : 4 * (q.qd * s) ≤ 4 * (q.qn * v) = omega (arith, mul-le-mul_left q.qd c.number, mul-le-mul_right v sound.factor) in
      let over' : q.qd * v ≤ q.qn * s = omega arith in
      let under' : q.qd * s ≤ q.qn * v = omega arith in
      record { count = omega (arith, mul-le-mul_right w over'); estimate = omega (arith, mul-le-mul_right w under') }

  -- so width 1 fits: its ranges are the empty ones and the whole
  pub one_fits : (a : ℕ) → a < length fs → fits_at q fs a 1 ≡ true
  unfolding fits_at bucketlet_fits ranges_fit
  one_fits a h =
      let s = class_value (part_sum a 1 fs) in
      let n = value_near (part_sum a 1 fs) 1 (count_small a 1) in
      both (near q (part_sum a 1 fs) (1 * s) 1) _ (says_near q (part_sum a 1 fs) (1 * s) 1 n)
      (each_all 2 (λ i. each (suc (1 - i)) (λ n. fits q (part_sum (a + i) n fs) (n * s) 1))
      (λ i l. each_all (suc (1 - i)) (λ n. fits q (part_sum (a + i) n fs) (n * s) 1) (λ k g. range n i k (omega arith))))
    where
      s : ℕ
      s = class_value (part_sum a 1 fs)

      range : Near q (part_sum a 1 fs) (1 * s) 1 → (i k : ℕ) → i + k ≤ 1 → fits q (part_sum (a + i) k fs) (k * s) 1 ≡ true
      range n i zero l = small_fits q (part_sum (a + i) 0 fs) (0 * s) 1 (record { count = omega arith; estimate = omega arith })
      range n i (suc k) l =
          let e : a + i ≡ a = omega arith in
          let d : suc k ≡ 1 = omega arith in
          rw (e, d) (near_fits q (part_sum a 1 fs) (1 * s) 1 n)

  -- the width is at least 1 where there is an entry, and within its limit
  pub width_some : (a most : ℕ) → 1 ≤ most → a < length fs → 1 ≤ width q fs a most
  unfolding width
  width_some a most h l =
      let g = largest_is (fits_at q fs a) most in
      some (width q fs a most) g.within g.next
    where
      some : (w : ℕ) → w ≤ most → (w < most → fits_at q fs a (suc w) ≡ false) → 1 ≤ w
      some zero k n = absurd (true_not_false (one_fits a l) (n (omega arith)))
      some (suc w) k n = omega arith

pub width_within_lem : (q : Quality) (fs : List ℕ) (a most : ℕ) → width q fs a most ≤ most
unfolding width
width_within_lem q fs a most = (largest_is (fits_at q fs a) most).within

-- a width that holds an entry fits
pub width_fits : (q : Quality) (fs : List ℕ) (a most w : ℕ) → w ≡ width q fs a most → 1 ≤ w → fits_at q fs a w ≡ true
unfolding width
width_fits q fs a most zero e h = absurd (omega arith)
width_fits q fs a most (suc m) e h = (largest_is (fits_at q fs a) most).passing m (omega arith)

-- the width is the largest within its limit
pub width_largest : (q : Quality) (fs : List ℕ) (a most : ℕ) → Largest q fs a most (width q fs a most)
unfolding width
width_largest q fs a most =
    let l = largest_is (fits_at q fs a) most in
    record {
      within = l.within;
      fitting = λ v g h. fitting l v g h;
      largest = λ v g f. let over : width q fs a most < v → ⊥ = λ h. true_not_false (f (suc (width q fs a most)) (omega arith) h) (l.next (omega arith)) in omega arith;
    }
  where
    fitting : Search.Largest (fits_at q fs a) most (largest (fits_at q fs a) most) → (v : ℕ) → 1 ≤ v → v ≤ largest (fits_at q fs a) most → fits_at q fs a v ≡ true
    fitting l zero g h = absurd (omega arith)
    fitting l (suc m) g h = l.passing m h
