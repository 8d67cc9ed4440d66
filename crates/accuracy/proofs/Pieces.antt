-- What a bucketlet gives to an estimate is close to what it counts (Close.antt): missed or wholly inside it is within the factor that its number keeps
-- to, and cut it is within q or excused.
-- Assumes nothing.
use mathlib.Core.Path.{◌≡◌, ap, subst, sym, ◌∙◌}
use mathlib.Core.Bool.{true, false}
use mathlib.Core.List.{List}
use mathlib.Core.Logic.{◌⊎◌, inl, inr, ⊎_elim}
use Prim.Native.Nat.{ℕ, suc, ◌+◌, ◌-◌, ◌*◌, ◌≤◌, ◌<◌, max}
use native.Mathlib.Nat.{le_of_mul-le-mul_right, eq-zero-or-pos}
use native.Mathlib.Omega.{arith}
use Rattle.laws.specs.Each.{each}
use Rattle.laws.specs.Sums.{part_sum}
use Rattle.laws.proofs.Tests.{both_left, both_right, tested}
use Rattle.laws.proofs.EachLaws.{each_at}
use Rattle.list_rules.specs.declared.Quality.{Quality}
use Rattle.fit.specs.Fit.{near, fits, ranges_fit, bucketlet_fits}
use Rattle.fit.proofs.FitLaws.{Near, Small, near_says, fits_says}
use Rattle.estimate_rules.specs.declared.Fraction.{Fraction}
use Rattle.estimate_rules.specs.Fraction.{number, quotient, rounded}
use Rattle.estimate_rules.specs.Exact.{inside, overlap, piece}
use Rattle.estimate_rules.proofs.FractionLaws.{rounded_most}
use Rattle.estimate_rules.proofs.ExactLaws.{inside_says, piece_none, piece_whole, piece_cut}
use Rattle.estimate_rules.proofs.CutLaws.{cuts, cut_some}
use Rattle.accuracy.specs.Sharper.{WithinFactor}
use Rattle.accuracy.proofs.Close.{Close, close_near, close_small, close_nothing, close_more, close_as, TwoWays, Capped, capped_whole, capped_near, capped_small, capped_adds}
use Rattle.accuracy.proofs.Ranges.{count_in, count_none, count_some, Spanned}

-- what fitting says of a range inside a bucketlet
range_fits : (q : Quality) (fs : List ℕ) (a w s i n : ℕ) → bucketlet_fits q fs a w s ≡ true → i + n ≤ w → fits q (part_sum (a + i) n fs) (n * s) w ≡ true
unfolding ranges_fit bucketlet_fits
range_fits q fs a w s i n t h =
    each_at (suc (w - i)) (λ n. fits q (part_sum (a + i) n fs) (n * s) w)
    (each_at (suc w) (λ i. each (suc (w - i)) (λ n. fits q (part_sum (a + i) n fs) (n * s) w)) (both_right (near q (part_sum a w fs) (w * s) w) _ t) i (omega arith))
    n (omega arith)

-- and of the whole bucketlet: its number keeps to q
pub whole_keeps : (q : Quality) (fs : List ℕ) (a w s : ℕ) → 0 < w → bucketlet_fits q fs a w s ≡ true → WithinFactor (q.qn, q.qd) (part_sum a w fs) s
unfolding bucketlet_fits
whole_keeps q fs a w s some t =
    let n = near_says q (part_sum a w fs) (w * s) w (both_left (near q (part_sum a w fs) (w * s) w) _ t) in
    record {
      count_at_most = le_of_mul-le-mul_right {k = w} (omega (arith, n.count)) some;
      number_at_most = le_of_mul-le-mul_right {k = w} (omega (arith, n.estimate)) some;
    }

-- a count and the number of what it is the count of
pub number_close : (p : ℕ × ℕ) (theta f s : ℕ) → WithinFactor p f s → Close p.0 p.1 theta 0 f (number s)
number_close p theta f s h =
    close_near p.0 p.1 theta f (number s) (omega arith) (omega (arith, h.count_at_most)) (omega (arith, h.number_at_most))

-- how many entries of the bucketlet the range holds
abbrev pub met : ℕ → ℕ → ℕ → ℕ → ℕ
met x y a w = overlap x y a (a + w)

-- a bucketlet that is missed or wholly inside has nothing to excuse and nothing to round; any other is cut

abbrev Uncut : ℕ × ℕ → ℕ → List ℕ → ℕ → ℕ → ℕ → ℕ → ℕ → Type 0
Uncut p theta fs x y a w s = Close p.0 p.1 theta 0 (count_in fs x y a (a + w)) (piece x y a w s) × ((piece x y a w s).top ≡ 0)

abbrev Cut : ℕ → ℕ → ℕ → ℕ → Type 0
Cut x y a w = (0 < met x y a w) × (inside x y a (a + w) ≡ false)

-- of a bucketlet whose number is within p of its count
module _ (p : ℕ × ℕ) (theta : ℕ) (fs : List ℕ) (x y a w s : ℕ) (ordered : x ≤ y) (keeps : 0 < w → WithinFactor p (part_sum a w fs) s) where
  none_close : met x y a w ≡ 0 → Close p.0 p.1 theta 0 (count_in fs x y a (a + w)) (piece x y a w s)
  none_close z = close_as (close_nothing p.0 p.1 theta) _ (piece x y a w s) (count_none fs x y a (a + w) ordered z) (piece_none x y a w s z)

  whole_close : 0 < met x y a w → inside x y a (a + w) ≡ true → Close p.0 p.1 theta 0 (count_in fs x y a (a + w)) (piece x y a w s)
  whole_close some t =
      let says = inside_says x y a (a + w) t in
      let from : max x a ≡ a = omega arith in
      let all : met x y a w ≡ w = omega arith in
      let c = count_some fs x y a (a + w) ordered some ∙ ap (λ (i : ℕ). part_sum i (met x y a w) fs) from ∙ ap (λ (n : ℕ). part_sum a n fs) all in
      close_as (number_close p theta _ s (keeps (omega arith))) _ (piece x y a w s) c (piece_whole x y a w s some t)

  uncut_or_cut : Uncut p theta fs x y a w s ⊎ Cut x y a w
  uncut_or_cut =
      ⊎_elim
      (λ (z : met x y a w ≡ 0). inl (none_close z, ap (λ (e : Fraction). e.top) (piece_none x y a w s z)))
      (λ (some : 0 < met x y a w).
      ⊎_elim
      (λ (t : inside x y a (a + w) ≡ true). inl (whole_close some t, ap (λ (e : Fraction). e.top) (piece_whole x y a w s some t)))
      (λ (t : inside x y a (a + w) ≡ false). inr (some, t))
      (tested (inside x y a (a + w))))
      (eq-zero-or-pos (met x y a w))

  -- what it gives is within p if no end of the range cuts it
  pub bucketlet_whole : cuts x a (a + w) + cuts y a (a + w) ≡ 0 → Uncut p theta fs x y a w s
  bucketlet_whole z =
      ⊎_elim (λ (u : Uncut p theta fs x y a w s). u) (λ (c : Cut x y a w). absurd (omega (arith, cut_some x y a (a + w) c.0 c.1))) uncut_or_cut

-- of a bucketlet that fits
module _ (q : Quality) (fs : List ℕ) (x y a w s : ℕ) (ordered : x ≤ y) (good : 0 < w → bucketlet_fits q fs a w s ≡ true) where
  abbrev here : ℕ
  here = count_in fs x y a (a + w)

  abbrev cut : Fraction
  cut = quotient (met x y a w * s) w

  cut_range : 0 < met x y a w → fits q here (met x y a w * s) w ≡ true
  cut_range some =
      let from : a + (max x a - a) ≡ max x a = omega arith in
      let fit = range_fits q fs a w s (max x a - a) (met x y a w) (good (omega arith)) (omega arith) in
      subst (λ (f : ℕ). fits q f (met x y a w * s) w ≡ true) (ap (λ (i : ℕ). part_sum i (met x y a w) fs) from ∙ sym (count_some fs x y a (a + w) ordered some)) fit

  cut_near : 0 < met x y a w → Near q here (met x y a w * s) w → Close q.qn q.qd q.theta 0 here cut
  cut_near some h = close_near q.qn q.qd q.theta here cut (omega arith) (omega (arith, h.count)) (omega (arith, h.estimate))

  -- what is shown of it, if it is where the bucketlet is not cut, where a cut is excused, and where it is within q
  by_cases : (p : ℕ × ℕ) → (0 < w → WithinFactor p (part_sum a w fs) s) → (P : Fraction → Type 0)
      → (Uncut p q.theta fs x y a w s → P (piece x y a w s))
      → (Cut x y a w → Small q here (met x y a w * s) w → P cut)
      → (Cut x y a w → Near q here (met x y a w * s) w → P cut)
      → P (piece x y a w s)
  by_cases p keeps P uncut small near =
      ⊎_elim uncut
      (λ (c : Cut x y a w).
      subst P (sym (piece_cut x y a w s c.0 c.1))
      (⊎_elim (small c) (near c) (fits_says q here (met x y a w * s) w (cut_range c.0))))
      (uncut_or_cut p q.theta fs x y a w s ordered keeps)

  -- it is within p or, cut, excused; or, cut, within q
  pub bucketlet_ways : (p : ℕ × ℕ) → (0 < w → WithinFactor p (part_sum a w fs) s)
      → Spanned (TwoWays p (q.qn, q.qd) q.theta) 1 1 fs x y a (a + w) (piece x y a w s)
  bucketlet_ways p keeps =
      by_cases p keeps (Spanned (TwoWays p (q.qn, q.qd) q.theta) 1 1 fs x y a (a + w))
      (λ u. inl (close_more u.0 _ (omega arith)))
      (λ c h. let some = c.0 in
      inl (close_more (close_small p.0 p.1 q.theta here cut (omega arith) h.count (omega (arith, h.estimate))) _ (omega (arith, cut_some x y a (a + w) c.0 c.1))))
      (λ c h. inr (record { excused = 0; fewer = omega (arith, cut_some x y a (a + w) c.0 c.1); close = cut_near c.0 h }))

  -- and rounds up, with a theta if it is cut
  pub bucketlet_capped : 1 ≤ q.theta → Spanned (Capped q.qn q.qd q.theta) 1 1 fs x y a (a + w) (piece x y a w s)
  bucketlet_capped least =
      by_cases (q.qn, q.qd) (λ some. whole_keeps q fs a w s some (good some)) (Spanned (Capped q.qn q.qd q.theta) 1 1 fs x y a (a + w))
      (λ u. (capped_adds q.qn q.qd q.theta).more 0 _ here (piece x y a w s) (omega arith) (capped_whole q.qn q.qd q.theta here (piece x y a w s) u.1 u.0))
      (λ c h. with_theta c (capped_small q.qn q.qd q.theta here cut (omega (arith, h.estimate))))
      (λ c h. with_theta c (capped_near q.qn q.qd q.theta here cut least (cut_near c.0 h)))
    where
      with_theta : Cut x y a w → Capped q.qn q.qd q.theta 1 here cut → Spanned (Capped q.qn q.qd q.theta) 1 1 fs x y a (a + w) cut
      with_theta c s = (capped_adds q.qn q.qd q.theta).more 1 _ here cut (omega (arith, cut_some x y a (a + w) c.0 c.1)) s

  -- above theta it is within q
  pub bucketlet_above : (q.theta < here) ⊎ (q.theta < rounded (piece x y a w s)) → Close q.qn q.qd q.theta 0 here (piece x y a w s)
  bucketlet_above =
      by_cases (q.qn, q.qd) (λ some. whole_keeps q fs a w s some (good some))
      (λ (e : Fraction). (q.theta < here) ⊎ (q.theta < rounded e) → Close q.qn q.qd q.theta 0 here e)
      (λ u r. u.0)
      (λ c h r.
      let some = c.0 in
      let most = rounded_most cut q.theta (omega arith) (omega (arith, h.estimate)) in
      absurd (⊎_elim (λ (g : q.theta < here). omega (arith, h.count)) (λ (g : q.theta < rounded cut). omega arith) r))
      (λ c h r. cut_near c.0 h)
