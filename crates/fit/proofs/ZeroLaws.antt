-- 0 is within a factor of 0, and of no other number. Assumes nothing.
use mathlib.Core.Path.{◌≡◌, ap, subst}
use mathlib.Core.Bool.{true}
use mathlib.Core.List.{List}
use mathlib.Core.Logic.{⊎_elim}
use Prim.Native.Nat.{ℕ, ◌*◌, ◌≤◌, ◌<◌}
use native.Mathlib.Nat.{eq-zero-or-pos, mul-le-mul_right}
use native.Mathlib.Omega.{arith}
use Rattle.laws.specs.Sums.{part_sum}
use Rattle.laws.proofs.Tests.{both_left}
use Rattle.list_rules.specs.declared.Quality.{Quality}
use Rattle.fit.specs.Fit.{near, bucketlet_fits}
use Rattle.fit.proofs.FitLaws.{near_says, says_near}

pub both_0 : (q : Quality) (w : ℕ) → near q 0 (w * 0) w ≡ true
both_0 q w = says_near q 0 (w * 0) w (record { count = omega arith; estimate = omega arith })

pub count_0 : (q : Quality) (x w : ℕ) → 1 ≤ q.qd → near q 0 x w ≡ true → x ≡ 0
count_0 q x w h t = omega (arith, (near_says q 0 x w t).estimate, mul-le-mul_right x h)

pub number_0 : (q : Quality) (f w : ℕ) → 1 ≤ q.qd → 1 ≤ w → near q f 0 w ≡ true → f ≡ 0
number_0 q f w h p t = omega (arith, (near_says q f 0 w t).count, mul-le-mul_right (f * w) h, mul-le-mul_right f p)

-- a bucketlet that fits and stands for 0 counts 0
pub none_counted : (q : Quality) (fs : List ℕ) (a w s : ℕ) → 1 ≤ q.qd → (0 < w → bucketlet_fits q fs a w s ≡ true) → s ≡ 0 → part_sum a w fs ≡ 0
unfolding bucketlet_fits
none_counted q fs a w s h good z =
    ⊎_elim
    (λ (e : w ≡ 0). ap (λ (w : ℕ). part_sum a w fs) e)
    (λ (p : 0 < w).
    let n = both_left (near q (part_sum a w fs) (w * s) w) _ (good p) in
    number_0 q (part_sum a w fs) w h p (subst (λ (x : ℕ). near q (part_sum a w fs) x w ≡ true) (omega (arith, ap (λ (s : ℕ). w * s) z)) n))
    (eq-zero-or-pos w)
