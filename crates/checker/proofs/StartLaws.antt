-- Where the search of a bucketlet begins: a whole that fails is a range of the first start; where it is near, the ranges that fail are those that do
-- not fit; one entry has no other range.
-- Assumes nothing.
use mathlib.Core.Path.{◌≡◌, refl, sym, ap, ◌∙◌}
use mathlib.Core.Bool.{true, false, cond}
use mathlib.Core.List.{List}
use Prim.Native.Nat.{ℕ, ◌+◌, ◌-◌, ◌*◌, ◌≤◌, ◌<◌}
use native.Mathlib.Omega.{arith}
use borrow.Author.Tests.{not-true, not-false, eq-eqb}
use lib.Dec.{eqb}
use Rattle.std.specs.Prelude.{take, drop}
use Rattle.laws.specs.Sums.{sum, part_sum}
use Rattle.laws.proofs.Tests.{true_not_false, not_holds, not_fails, is_false}
use Rattle.list_rules.specs.declared.Quality.{Quality}
use Rattle.fit.specs.Fit.{near, fits}
use Rattle.check_rules.specs.Failing.{count_good}
use Rattle.check_rules.proofs.RangeLaws.{good_fits, whole_near, is_good}
use Rattle.checker.specs.Private.Searching.{FirstStart, unfit, fails}

pub same_near : (q : Quality) (w f g x y : ℕ) → f ≡ g → x ≡ y → near q f x w ≡ near q g y w
same_near q w f g x y e d = λ k. near q (e k) (d k) w

-- the slice from a to a + n
pub part_of : (a n : ℕ) (fs : List ℕ) → sum (take (a + n - a) (drop a fs)) ≡ part_sum a n fs
part_of a n fs = ap (λ (m : ℕ). part_sum a m fs) {x = a + n - a} {y = n} (omega arith)

module _ (q : Quality) (fs : List ℕ) (a w s : ℕ) where
  -- the test of the whole is the second half
  pub whole_tested : (f : ℕ) → f ≡ part_sum a w fs → count_good q f w s w ≡ near q (part_sum a w fs) (w * s) w
  whole_tested f e =
      let t : eqb w w ≡ true = eq-eqb w w refl in
      λ k. cond (t k) (near q (e k) (w * s) w) (fits q (e k) (w * s) w)

  -- the range from 0 to w is the whole
  whole_is : near q (part_sum (a + 0) (w - 0) fs) ((w - 0) * s) w ≡ near q (part_sum a w fs) (w * s) w
  whole_is =
      let x : a + 0 ≡ a = omega arith in
      let y : w - 0 ≡ w = omega arith in
      λ k. near q (part_sum (x k) (y k) fs) (y k * s) w

  pub whole_first : near q (part_sum a w fs) (w * s) w ≡ false → FirstStart w (fails q fs a w s) 0 0
  whole_first e =
      record {
        within = omega arith;
        earlier = λ x y o h. absurd (omega arith);
        ended = λ h.
            record {
              end = w;
              after = h;
              inside = omega arith;
              is_bad = not_holds _ (is_false _ (λ t. true_not_false (sym whole_is ∙ whole_near q _ (w - 0) s w (omega arith) t) e));
            };
      }

  module _ (e : near q (part_sum a w fs) (w * s) w ≡ true) where
    -- a range as long as the bucketlet is the whole
    whole : (x y : ℕ) → x < y → y ≤ w → y - x ≡ w → near q (part_sum (a + x) (y - x) fs) ((y - x) * s) w ≡ true
    whole x y g l n = let z : a + x ≡ a = omega arith in rw (z, n) e

    pub unfit_first : (i : ℕ) → FirstStart w (unfit q fs a w s) 0 i → FirstStart w (fails q fs a w s) 0 i
    unfit_first i d =
        record {
          within = d.within;
          earlier = λ x y o h g l. not_fails _ (is_good q _ (y - x) s w (not-false _ (d.earlier x y o h g l)) (whole x y g l));
          ended = λ h.
              let b = d.ended h in
              record {
                end = b.end;
                after = b.after;
                inside = b.inside;
                is_bad = not_holds _ (is_false _ (λ t. true_not_false (good_fits q _ (b.end - i) s w t) (not-true _ b.is_bad)));
              };
        }
