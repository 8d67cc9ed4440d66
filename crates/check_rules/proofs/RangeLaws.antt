-- Nothing fails inside a bucketlet exactly if it is empty or fits (specs/Failing.antt, and `bucketlet_fits` of the crate fit).
-- Assumes nothing.
use mathlib.Core.Path.{◌≡◌, refl, sym, ap, subst, ◌∙◌}
use mathlib.Core.Bool.{Bool, true, false, cond}
use mathlib.Core.List.{List}
use mathlib.Core.Logic.{⊎_elim}
use Prim.Native.Nat.{ℕ, suc, ◌+◌, ◌-◌, ◌*◌, ◌≤◌, ◌<◌}
use native.Mathlib.Nat.{eq-or-lt_of_le}
use native.Mathlib.Omega.{arith}
use borrow.Author.Tests.{eq-eqb, eqb-true}
use lib.Dec.{eqb}
use Rattle.laws.specs.Sums.{part_sum}
use Rattle.laws.proofs.Tests.{both, both_left, both_right}
use Rattle.laws.proofs.EachLaws.{each_at, each_all}
use Rattle.list_rules.specs.declared.Quality.{Quality}
use Rattle.fit.specs.Fit.{near, fits, ranges_fit, bucketlet_fits}
use Rattle.fit.proofs.FitLaws.{near_says, near_fits, small_fits}
use Rattle.check_rules.specs.declared.Failing.{Failing}
use Rattle.check_rules.specs.declared.Verdict.TheVariants.{Accepted, Fails}
use Rattle.check_rules.specs.Failing.{count_good, range_good, sort_of, range_verdict, start_verdict, bucketlet_verdict}
use Rattle.check_rules.specs.Claims.{FirstRange}
use Rattle.check_rules.proofs.FirstLaws.{all_accepted, accepted_all, first_at}

-- accepted if a test holds, and else a failure
module _ (t : Bool) (f : Failing) where
  pub good_accepted : t ≡ true → cond t Accepted (Fails f) ≡ Accepted
  good_accepted e = ap (λ (u : Bool). cond u Accepted (Fails f)) e

  pub bad_fails : t ≡ false → cond t Accepted (Fails f) ≡ Fails f
  bad_fails e = ap (λ (u : Bool). cond u Accepted (Fails f)) e

-- no failure is accepted
pub not_accepted : {f : Failing} → Fails f ≡ Accepted → ⊥
not_accepted e = let z : ◌≡◌ {A = ℕ} 0 1 = cc in omega arith

pub accepted_good : (t : Bool) (f : Failing) → cond t Accepted (Fails f) ≡ Accepted → t ≡ true
accepted_good true f e = refl
accepted_good false f e = absurd (not_accepted e)

-- a good range fits, and the whole bucketlet meets the second half
module _ (q : Quality) (f n s w : ℕ) where
  pub good_fits : count_good q f n s w ≡ true → fits q f (n * s) w ≡ true
  good_fits t = go (eqb n w) t
    where
      go : (b : Bool) → cond b (near q f (n * s) w) (fits q f (n * s) w) ≡ true → fits q f (n * s) w ≡ true
      go true t = near_fits q f (n * s) w (near_says q f (n * s) w t)
      go false t = t

  pub whole_near : n ≡ w → count_good q f n s w ≡ true → near q f (n * s) w ≡ true
  whole_near e t = sym (ap (λ (b : Bool). cond b (near q f (n * s) w) (fits q f (n * s) w)) (eq-eqb n w e)) ∙ t

  pub is_good : fits q f (n * s) w ≡ true → (n ≡ w → near q f (n * s) w ≡ true) → count_good q f n s w ≡ true
  is_good h g = go (eqb n w) refl
    where
      go : (b : Bool) → eqb n w ≡ b → cond b (near q f (n * s) w) (fits q f (n * s) w) ≡ true
      go true e = g (eqb-true n w e)
      go false e = h

module _ (q : Quality) (fs : List ℕ) (a w s : ℕ) where
  -- each range inside is good
  abbrev pub AllGood : Type 0
  AllGood = (i j : ℕ) → i < j → j ≤ w → range_good q fs a w s i j ≡ true

  all_good : bucketlet_verdict q fs a w s ≡ Accepted → AllGood
  unfolding bucketlet_verdict start_verdict range_verdict
  all_good e i j h l =
      let v = accepted_all (start_verdict q fs a w s) w 0 e i (omega arith) (omega arith) in
      accepted_good _ _ (accepted_all (range_verdict q fs a w s i) (w - i) (suc i) v j h (omega arith))

  pub nothing_fails : AllGood → bucketlet_verdict q fs a w s ≡ Accepted
  unfolding bucketlet_verdict start_verdict range_verdict
  nothing_fails g =
      all_accepted (start_verdict q fs a w s) w 0
      (λ i _ l. all_accepted (range_verdict q fs a w s i) (w - i) (suc i) (λ j h m. good_accepted _ _ (g i j h (omega arith))))

  pub empty_verdict : w ≡ 0 → bucketlet_verdict q fs a w s ≡ Accepted
  empty_verdict e = nothing_fails (λ i j h l. absurd (omega arith))

  pub verdict_fits : 0 < w → bucketlet_verdict q fs a w s ≡ Accepted → bucketlet_fits q fs a w s ≡ true
  unfolding bucketlet_fits ranges_fit
  verdict_fits p e =
      both (near q (part_sum a w fs) (w * s) w) _
      whole
      (each_all (suc w) _ (λ i l. each_all (suc (w - i)) _ (λ n h. ⊎_elim (λ (z : 0 ≡ n). none i n z) (λ (m : 0 < n). good_fits q _ n s w (part i n m (omega arith))) (eq-or-lt_of_le (omega arith)))))
    where
      part : (i n : ℕ) → 0 < n → i + n ≤ w → count_good q (part_sum (a + i) n fs) n s w ≡ true
      part i n m l = subst (λ (k : ℕ). count_good q (part_sum (a + i) k fs) k s w ≡ true) {x = i + n - i} {y = n} (omega arith) (all_good e i (i + n) (omega arith) l)

      whole : near q (part_sum a w fs) (w * s) w ≡ true
      whole = whole_near q (part_sum a w fs) w s w refl (subst (λ (b : ℕ). count_good q (part_sum b w fs) w s w ≡ true) {x = a + 0} {y = a} (omega arith) (part 0 w p (omega arith)))

      -- the empty range
      none : (i n : ℕ) → 0 ≡ n → fits q (part_sum (a + i) n fs) (n * s) w ≡ true
      none i n z = rw (← z) (small_fits q 0 (0 * s) w (record { count = omega arith; estimate = omega arith }))

  pub fits_verdict : bucketlet_fits q fs a w s ≡ true → bucketlet_verdict q fs a w s ≡ Accepted
  unfolding bucketlet_fits ranges_fit
  fits_verdict t =
      nothing_fails (λ i j h l.
      is_good q (part_sum (a + i) (j - i) fs) (j - i) s w
      (each_at (suc (w - i)) (λ n. fits q (part_sum (a + i) n fs) (n * s) w) (each_at (suc w) _ (both_right (near q (part_sum a w fs) (w * s) w) _ t) i (omega arith)) (j - i) (omega arith))
      (λ e.
      let z : a + i ≡ a = omega arith in
      rw (z, e) (both_left (near q (part_sum a w fs) (w * s) w) _ t)))

  -- the first failing range is the answer
  pub first_range : (i j : ℕ) → FirstRange q fs a w s i j → bucketlet_verdict q fs a w s ≡ Fails (record { start = a + i; end = a + j; sort = sort_of (j - i) w })
  unfolding bucketlet_verdict start_verdict range_verdict
  first_range i j r =
      first_at (start_verdict q fs a w s) w 0 i (omega arith) (omega (arith, r.some, r.inside))
      (λ x _ l. all_accepted (range_verdict q fs a w s x) (w - x) (suc x) (λ y g h. good_accepted _ _ (r.earlier_start x y l (omega arith) (omega (arith, r.some, r.inside)))))
      (λ e. not_accepted (sym start ∙ e))
      ∙ start
    where
      start : start_verdict q fs a w s i ≡ Fails (record { start = a + i; end = a + j; sort = sort_of (j - i) w })
      start =
          first_at (range_verdict q fs a w s i) (w - i) (suc i) j (omega (arith, r.some)) (omega (arith, r.some, r.inside))
          (λ y g h. good_accepted _ _ (r.earlier_end y g h))
          (λ e. not_accepted (sym (bad_fails _ _ r.fails) ∙ e))
          ∙ bad_fails _ _ r.fails
