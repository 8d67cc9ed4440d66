-- A range fits exactly if it keeps two bounds: its count is not too large for its estimate, nor its estimate for its count. So the first start of a
-- range that does not fit is the earlier of theirs.
-- Assumes nothing.
use mathlib.Core.Path.{◌≡◌, refl, subst}
use mathlib.Core.Bool.{Bool, true, false}
use mathlib.Core.List.{List}
use mathlib.Core.Logic.{⊎_elim}
use Prim.Native.Nat.{ℕ, ◌+◌, ◌-◌, ◌*◌, ◌^◌, ◌≤◌, ◌<◌, min, max}
use native.Mathlib.Nat.{mul-le-mul, mul-le-mul_left, mul-le-mul_right, mul-lt-mul_of_pos_left}
use native.Mathlib.Omega.{arith}
use borrow.Author.Tests.{ltb-false, leb-true, leb-false, le-ltb}
use lib.Dec.{leb}
use Rattle.laws.specs.Sums.{part_sum}
use Rattle.laws.proofs.Tests.{true_not_false, not_holds, not_fails, is_false}
use Rattle.laws.proofs.SumsLaws.{part_le}
use Rattle.counts_rules.specs.Limit.{limit}
use Rattle.list_rules.specs.Limits.{max_q_part}
use Rattle.words_rules.specs.Limits.{max_width}
use Rattle.list_rules.specs.declared.Quality.{Quality}
use Rattle.fit.specs.Fit.{fits}
use Rattle.fit.proofs.FitLaws.{Near, Small, fits_says, small_fits, near_fits}
use Rattle.checker.specs.Private.Searching.{Searchable, FirstStart, unfit}
use Rattle.checker.specs.Private.Breaking.{breaks, range_breaks, count_bound, estimate_bound, Usable}

-- a range that is bad in one of two ways
module _ (w : ℕ) {bad one other : ℕ → ℕ → Bool}
    (neither : (x y : ℕ) → x < y → y ≤ w → one x y ≡ false → other x y ≡ false → bad x y ≡ false)
    (by_one : (x y : ℕ) → x < y → y ≤ w → one x y ≡ true → bad x y ≡ true) where
  earlier_start : (i j : ℕ) → FirstStart w one 0 i → FirstStart w other 0 j → i ≤ j → FirstStart w bad 0 i
  earlier_start i j c d h =
      record {
        within = c.within;
        earlier = λ x y o g l m. neither x y l m (c.earlier x y o g l m) (d.earlier x y o (omega arith) l m);
        ended = λ g. let e = c.ended g in record { end = e.end; after = e.after; inside = e.inside; is_bad = by_one i e.end e.after e.inside e.is_bad };
      }

module _ (q : Quality) (pos : 0 < q.qd) (above : q.qd ≤ q.qn) (a w s : ℕ) (some : 0 < w) where
  abbrev least : ℕ
  least = q.qd * (q.theta * w)

  -- a range that fits keeps both bounds
  module _ (f n : ℕ) (t : fits q f (n * s) w ≡ true) where
    keeps_count : breaks (count_bound q a w s) f n ≡ false
    keeps_count =
        le-ltb (max least (0 * f + q.qn * s * n)) (q.qd * w * f + 0 * n)
        (⊎_elim
        (λ (h : Small q f (n * s) w). omega (arith, mul-le-mul_left (q.qd * w) h.count))
        (λ (h : Near q f (n * s) w). omega (arith, h.count))
        (fits_says q f (n * s) w t))

    keeps_estimate : breaks (estimate_bound q a w s) f n ≡ false
    keeps_estimate =
        le-ltb (max least (q.qn * w * f + 0 * n)) (0 * f + q.qd * s * n)
        (⊎_elim
        (λ (h : Small q f (n * s) w). omega (arith, mul-le-mul_left q.qd h.estimate))
        (λ (h : Near q f (n * s) w). omega (arith, h.estimate))
        (fits_says q f (n * s) w t))

  -- and one that keeps both fits
  keeps_fits : (f n : ℕ) → breaks (count_bound q a w s) f n ≡ false → breaks (estimate_bound q a w s) f n ≡ false → fits q f (n * s) w ≡ true
  keeps_fits f n c e = light (leb f q.theta) refl
    where
      count : q.qd * (f * w) ≤ max least (q.qn * (n * s))
      count = omega (arith, ltb-false (max least (0 * f + q.qn * s * n)) (q.qd * w * f + 0 * n) c)

      estimate : q.qd * (n * s) ≤ max least (q.qn * (f * w))
      estimate = omega (arith, ltb-false (max least (q.qn * w * f + 0 * n)) (0 * f + q.qd * s * n) e)

      small : f ≤ q.theta → (t : Bool) → leb (n * s) (q.theta * w) ≡ t → fits q f (n * s) w ≡ true
      small h true t = small_fits q f (n * s) w (record { count = h; estimate = leb-true _ _ t })
      small h false t =
          let l = mul-lt-mul_of_pos_left (leb-false (n * s) (q.theta * w) t) pos in
          near_fits q f (n * s) w
          (record {
            count = omega (arith, mul-le-mul_left (q.qd * w) h, mul-le-mul_right (n * s) above);
            estimate = omega (arith, estimate);
          })

      light : (t : Bool) → leb f q.theta ≡ t → fits q f (n * s) w ≡ true
      light true t = small (leb-true _ _ t) (leb (n * s) (q.theta * w)) refl
      light false t =
          let h = leb-false f q.theta t in
          let l = mul-lt-mul_of_pos_left (mul-lt-mul_of_pos_left h some) pos in
          near_fits q f (n * s) w
          (record {
            count = omega (arith, count);
            estimate = omega (arith, estimate, mul-le-mul_right (f * w) above);
          })

module _ (fs : List ℕ) (q : Quality) (a w s : ℕ) (p : Searchable fs q a w s) where
  above : q.qd ≤ q.qn
  above = omega (arith, p.sound.factor)

  module _ (x y : ℕ) (h : x < y) (l : y ≤ w) where
    abbrev f : ℕ
    f = part_sum (a + x) (y - x) fs

    neither_breaks : range_breaks (count_bound q a w s) fs x y ≡ false → range_breaks (estimate_bound q a w s) fs x y ≡ false → unfit q fs a w s x y ≡ false
    neither_breaks c e = not_fails _ (keeps_fits q p.sound.qd_some above a w s (omega arith) f (y - x) c e)

    count_breaks : range_breaks (count_bound q a w s) fs x y ≡ true → unfit q fs a w s x y ≡ true
    count_breaks b = not_holds _ (is_false _ (λ t. true_not_false b (keeps_count q p.sound.qd_some above a w s (omega arith) f (y - x) t)))

    estimate_breaks : range_breaks (estimate_bound q a w s) fs x y ≡ true → unfit q fs a w s x y ≡ true
    estimate_breaks b = not_holds _ (is_false _ (λ t. true_not_false b (keeps_estimate q p.sound.qd_some above a w s (omega arith) f (y - x) t)))

  -- the earlier of the two starts
  pub first_of_both : (i j r : ℕ) → FirstStart w (range_breaks (count_bound q a w s) fs) 0 i → FirstStart w (range_breaks (estimate_bound q a w s) fs) 0 j → r ≡ min i j
      → FirstStart w (unfit q fs a w s) 0 r
  first_of_both i j r c d e = go (leb i j) refl
    where
      go : (t : Bool) → leb i j ≡ t → FirstStart w (unfit q fs a w s) 0 r
      go true t =
          let h = leb-true i j t in
          subst (FirstStart w (unfit q fs a w s) 0) {x = i} {y = r} (omega arith) (earlier_start w neither_breaks count_breaks i j c d h)
      go false t =
          let h = leb-false i j t in
          subst (FirstStart w (unfit q fs a w s) 0) {x = j} {y = r} (omega arith)
          (earlier_start w (λ x y h l e c. neither_breaks x y h l c e) estimate_breaks j i d c (omega arith))

  -- ---- their numbers are small

  least_small : q.qd * (q.theta * w) < 2 ^ 53
  least_small = omega (arith, mul-le-mul p.sound.qd_small (mul-le-mul p.sound.theta_small p.narrow))

  -- a part of q times the width times the count, and one times the number and the width
  counts_small : (k : ℕ) → k ≤ max_q_part → (i n : ℕ) → k * w * part_sum i n fs < 2 ^ 53
  counts_small k h i n =
      let c : part_sum i n fs ≤ limit = omega (arith, part_le i n fs, p.sound.total) in
      omega (arith, mul-le-mul (mul-le-mul h p.narrow) c)

  entries_small : (k : ℕ) → k ≤ max_q_part → (n : ℕ) → n ≤ w → k * s * n < 2 ^ 53
  entries_small k h n l =
      let g : s ≤ 2147483647 = omega (arith, p.number_small) in
      let m : n ≤ max_width = omega (arith, p.narrow) in
      omega (arith, mul-le-mul (mul-le-mul h g) m)

  pub count_usable : Usable fs (count_bound q a w s)
  count_usable =
      let over : q.qd * w * part_sum a w fs + 0 * w < 2 ^ 53 = omega (arith, counts_small q.qd p.sound.qd_small a w) in
      let under : 0 * part_sum (a + 0) (w - 0) fs + q.qn * s * (w - 0) < 2 ^ 53 = omega (arith, entries_small q.qn p.sound.qn_small (w - 0) (omega arith)) in
      record {
        inside = p.inside;
        many = p.sound.many;
        least_small = least_small;
        over_small = over;
        under_small = under;
      }

  pub estimate_usable : Usable fs (estimate_bound q a w s)
  estimate_usable =
      let over : 0 * part_sum a w fs + q.qd * s * w < 2 ^ 53 = omega (arith, entries_small q.qd p.sound.qd_small w (omega arith)) in
      let under : q.qn * w * part_sum (a + 0) (w - 0) fs + 0 * (w - 0) < 2 ^ 53 = omega (arith, counts_small q.qn p.sound.qn_small (a + 0) (w - 0)) in
      record {
        inside = p.inside;
        many = p.sound.many;
        least_small = least_small;
        over_small = over;
        under_small = under;
      }
