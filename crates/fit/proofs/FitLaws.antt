-- Laws of fitting: the tests as statements, and a range fits exactly if two bounds hold that involve its own count and length alone and the
-- bucketlet's number and width alone.
-- Assumes nothing.
use mathlib.Core.Path.{◌≡◌, refl, ap}
use mathlib.Core.Bool.{Bool, true, false, ◌&&◌, ◌||◌}
use mathlib.Core.Logic.{◌⊎◌, inl, inr, ⊎_elim}
use Prim.Native.Nat.{ℕ, ◌*◌, ◌≤◌, ◌<◌, max}
use native.Mathlib.Nat.{le_of_mul-le-mul_left, mul-le-mul_left, mul-le-mul_right}
use native.Mathlib.Omega.{arith}
use borrow.Author.Tests.{leb-true, leb-false, le-leb}
use lib.Dec.{leb}
use Rattle.laws.proofs.Tests.{both, both_left, both_right, either, holds_left, holds_right, is_false}
use Rattle.list_rules.specs.declared.Quality.{Quality}
use Rattle.fit.specs.Fit.{near, fits}

-- what the second half says
pub record Near (q : Quality) (f x w : ℕ) : Type 0 where
  pub count : q.qd * (f * w) ≤ q.qn * x
  pub estimate : q.qd * x ≤ q.qn * (f * w)

pub near_says : (q : Quality) (f x w : ℕ) → near q f x w ≡ true → Near q f x w
near_says q f x w t =
    record {
      count = leb-true _ _ (both_left (leb (q.qd * (f * w)) (q.qn * x)) _ t);
      estimate = leb-true _ _ (both_right (leb (q.qd * (f * w)) (q.qn * x)) _ t);
    }

pub says_near : (q : Quality) (f x w : ℕ) → Near q f x w → near q f x w ≡ true
says_near q f x w n = both (leb (q.qd * (f * w)) (q.qn * x)) _ (le-leb _ _ n.count) (le-leb _ _ n.estimate)

-- what the first half says
pub record Small (q : Quality) (f x w : ℕ) : Type 0 where
  pub count : f ≤ q.theta
  pub estimate : x ≤ q.theta * w

pub fits_says : (q : Quality) (f x w : ℕ) → fits q f x w ≡ true → Small q f x w ⊎ Near q f x w
fits_says q f x w t =
    ⊎_elim
    (λ (s : (leb f q.theta && leb x (q.theta * w)) ≡ true).
    inl (record { count = leb-true _ _ (both_left (leb f q.theta) _ s); estimate = leb-true _ _ (both_right (leb f q.theta) _ s) }))
    (λ (s : near q f x w ≡ true). inr (near_says q f x w s))
    (either (leb f q.theta && leb x (q.theta * w)) (near q f x w) t)

pub small_fits : (q : Quality) (f x w : ℕ) → Small q f x w → fits q f x w ≡ true
small_fits q f x w s = holds_left (leb f q.theta && leb x (q.theta * w)) _ (both (leb f q.theta) _ (le-leb _ _ s.count) (le-leb _ _ s.estimate))

pub near_fits : (q : Quality) (f x w : ℕ) → Near q f x w → fits q f x w ≡ true
near_fits q f x w n = holds_right (leb f q.theta && leb x (q.theta * w)) _ (says_near q f x w n)

-- ---- the two bounds

-- the number over the width is not too low for a count above theta, and not too high
pub record Bounded (q : Quality) (f n s w : ℕ) : Type 0 where
  pub below : q.theta < f → f * (q.qd * w) ≤ q.qn * s * n
  pub above : n * (q.qd * s) ≤ w * max (q.qd * q.theta) (q.qn * f)

module _ (q : Quality) (pos : 0 < q.qd) (above : q.qd ≤ q.qn) where
  pub fits_bounded : (f n s w : ℕ) → fits q f (n * s) w ≡ true → Bounded q f n s w
  fits_bounded f n s w t =
      ⊎_elim
      (λ (h : Small q f (n * s) w).
      record {
        below = λ l. absurd (omega (arith, h.count));
        above = omega (arith, mul-le-mul_left q.qd h.estimate, mul-le-mul_left w (le_max_left' (q.qd * q.theta) (q.qn * f)));
      })
      (λ (h : Near q f (n * s) w).
      record {
        below = λ l. omega (arith, h.count);
        above = omega (arith, h.estimate, mul-le-mul_left w (le_max_right' (q.qd * q.theta) (q.qn * f)));
      })
      (fits_says q f (n * s) w t)
    where
      le_max_left' : (a b : ℕ) → a ≤ max a b
      le_max_left' a b = omega arith

      le_max_right' : (a b : ℕ) → b ≤ max a b
      le_max_right' a b = omega arith

  -- with a count above theta the larger cap is that of q
  pub heavy_cap : (f : ℕ) → q.theta ≤ f → max (q.qd * q.theta) (q.qn * f) ≡ q.qn * f
  heavy_cap f h = omega (arith, mul-le-mul_left q.qd h, mul-le-mul_right f above)

  pub bounded_fits : (f n s w : ℕ) → Bounded q f n s w → fits q f (n * s) w ≡ true
  bounded_fits f n s w b = light (leb f q.theta) refl
    where
      -- a count of at most theta with an estimate above it
      uneven : f ≤ q.theta → q.theta * w < n * s → Near q f (n * s) w
      uneven h l =
          let c = ⊎_elim
          (λ (e : max (q.qd * q.theta) (q.qn * f) ≡ q.qd * q.theta).
          let k : n * s ≤ q.theta * w = le_of_mul-le-mul_left {k = q.qd} (omega (arith, b.above, ap (λ (m : ℕ). w * m) e)) pos in
          absurd (omega arith))
          (λ (e : max (q.qd * q.theta) (q.qn * f) ≡ q.qn * f). let k : q.qd * (n * s) ≤ q.qn * (f * w) = omega (arith, b.above, ap (λ (m : ℕ). w * m) e) in k)
          (max_is (q.qd * q.theta) (q.qn * f)) in
          record {
            count = omega (arith, mul-le-mul_left q.qd (mul-le-mul_right w h), mul-le-mul_left q.qd l, mul-le-mul_right (n * s) above);
            estimate = c;
          }
        where
          max_is : (x y : ℕ) → (max x y ≡ x) ⊎ (max x y ≡ y)
          max_is x y = go (leb x y) refl
            where
              go : (t : Bool) → leb x y ≡ t → (max x y ≡ x) ⊎ (max x y ≡ y)
              go true e = inr (omega (arith, leb-true x y e))
              go false e = inl (omega (arith, leb-false x y e))

      small : f ≤ q.theta → (t : Bool) → leb (n * s) (q.theta * w) ≡ t → fits q f (n * s) w ≡ true
      small h true e = small_fits q f (n * s) w (record { count = h; estimate = leb-true _ _ e })
      small h false e = near_fits q f (n * s) w (uneven h (leb-false _ _ e))

      light : (t : Bool) → leb f q.theta ≡ t → fits q f (n * s) w ≡ true
      light true e = small (leb-true _ _ e) (leb (n * s) (q.theta * w)) refl
      light false e =
          let l = leb-false f q.theta e in
          near_fits q f (n * s) w
          (record {
            count = omega (arith, b.below l);
            estimate = omega (arith, b.above, ap (λ (m : ℕ). w * m) (heavy_cap f (omega arith)));
          })

-- where the first half does not hold the second decides
pub fits_near : (q : Quality) (f x w : ℕ) → (Small q f x w → ⊥) → fits q f x w ≡ near q f x w
fits_near q f x w h =
    ap (λ (t : Bool). t || near q f x w)
    (is_false (leb f q.theta && leb x (q.theta * w))
    (λ t. h (record { count = leb-true _ _ (both_left (leb f q.theta) _ t); estimate = leb-true _ _ (both_right (leb f q.theta) _ t) })))
