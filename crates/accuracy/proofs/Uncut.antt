-- A range that cuts no bucketlet: nothing is excused and nothing rounded, so count and estimate are within the factor that the numbers keep to.
-- Assumes nothing.
use mathlib.Core.Path.{◌≡◌, ap, subst, ◌∙◌}
use mathlib.Core.Bool.{true, false}
use mathlib.Core.List.{List}
use mathlib.Core.Logic.{⊎_elim}
use Prim.Native.Nat.{ℕ, ◌+◌, ◌-◌, ◌*◌, ◌≤◌, ◌<◌}
use native.Mathlib.Nat.{le_of_mul-le-mul_right}
use native.Mathlib.Omega.{arith}
use Rattle.laws.specs.Sums.{part_sum}
use Rattle.laws.proofs.Tests.{tested}
use Rattle.words_rules.specs.Words.{entries, theta, buckets, start, end}
use Rattle.words_rules.specs.Decoded.{bucket_at, bucketlet_start, width_at, number_at}
use Rattle.words_rules.proofs.EntryLaws.{bucketlet_end_lem}
use Rattle.estimate_rules.specs.declared.Fraction.{Fraction}
use Rattle.estimate_rules.specs.Fraction.{rounded, numerator}
use Rattle.estimate_rules.specs.Exact.{inside, bucketlet_piece, bucket_piece, exact}
use Rattle.estimate_rules.proofs.FractionLaws.{rounded_whole, sum_whole}
use Rattle.estimate_rules.proofs.ExactLaws.{bucket_whole, bucket_parts}
use Rattle.estimate_rules.proofs.CutLaws.{cuts, cuts_none}
use Rattle.accuracy.specs.Claims.{CutsNone}
use Rattle.accuracy.specs.Sharper.{WholeWithin}
use Rattle.accuracy.proofs.ButFor.{Factor, factor_sure}
use Rattle.accuracy.proofs.Close.{Close, close_more}
use Rattle.accuracy.proofs.Pieces.{bucketlet_whole}
use Rattle.fit.proofs.AcceptedLaws.{Fitting}
use Rattle.accuracy.proofs.Estimate.{OfBucketlet, by_width, range_close}

module _ (fs ws : List ℕ) (ok : Fitting fs ws) (x y : ℕ) (ordered : x ≤ y) (from : CutsNone ws x) (to : CutsNone ws y)
    (p : ℕ × ℕ) (keeps : WholeWithin p fs ws) where
  uncut : (b j : ℕ) → b < buckets ws → j < 8 → OfBucketlet fs ws ok x y ordered (Close p.0 p.1 (theta ws)) 0 0 b j × ((bucketlet_piece x y (bucket_at ws b) j).top ≡ 0)
  uncut b j h l =
      let r = bucket_at ws b in
      let a = bucketlet_start r j in
      let w = width_at r j in
      let e = bucketlet_end_lem r j in
      let none : (z : ℕ) → CutsNone ws z → cuts z a (a + w) ≡ 0 = λ z c. cuts_none z a (a + w) (λ g. subst (λ (t : ℕ). t ≤ z) e (c b j h l g)) in
      let u = bucketlet_whole p (theta ws) fs x y a w (number_at r j) ordered (keeps.bucketlets b j h l) (omega (arith, none x from, none y to)) in
      (by_width fs ws ok x y ordered (Close p.0 p.1 (theta ws)) 0 0 b j (close_more u.0 _ (omega arith)), u.1)

  bucket_top : (b : ℕ) → b < buckets ws → (bucket_piece ws x y b).top ≡ 0
  bucket_top b h =
      ⊎_elim
      (λ (t : inside x y (start ws b) (end ws b) ≡ true). ap (λ (e : Fraction). e.top) (bucket_whole ws x y b t))
      (λ (t : inside x y (start ws b) (end ws b) ≡ false).
      ap (λ (e : Fraction). e.top) (bucket_parts ws x y b t) ∙ sum_whole 8 (bucketlet_piece x y (bucket_at ws b)) (λ j l. (uncut b j h l).1))
      (tested (inside x y (start ws b) (end ws b)))

  exact_top : (exact ws x y).top ≡ 0
  unfolding exact
  exact_top = sum_whole (buckets ws) (bucket_piece ws x y) bucket_top

  pub uncut_within : y ≤ entries ws
      → (p.1 * part_sum x (y - x) fs ≤ p.0 * rounded (exact ws x y)) × (p.1 * rounded (exact ws x y) ≤ p.0 * part_sum x (y - x) fs)
  uncut_within l =
      let e = exact ws x y in
      let s = range_close fs ws ok x y ordered p keeps (λ b j h l. (uncut b j h l).0) l in
      let w : Factor p.0 p.1 0 (part_sum x (y - x) fs * e.bottom) (numerator e) = factor_sure s.but_for (omega arith) in
      let v = rounded_whole e s.positive exact_top in (
        le_of_mul-le-mul_right {k = e.bottom} (omega (arith, w.f_within, ap (λ (t : ℕ). p.0 * t) v)) s.positive,
        le_of_mul-le-mul_right {k = e.bottom} (omega (arith, w.v_within, ap (λ (t : ℕ). p.1 * t) v)) s.positive,
      )
