-- The one lemma, on plain numbers. Two numbers f and v are within a factor p = pn/pd of one another but for m times t. If f or v reaches k times
-- t, then neither is above p times k/(k - m) times the other; and it stays below by more, the more f or v is above k times t. No number here is
-- rounded, and none but pd ≤ pn and m ≤ k is asked of the others. Each proof hands `omega` its hypotheses, each times a factor.
-- Assumes nothing.
use mathlib.Core.Path.{◌≡◌, ap}
use mathlib.Core.Logic.{◌⊎◌, inl, inr, ⊎_elim}
use Prim.Native.Nat.{ℕ, ◌+◌, ◌-◌, ◌*◌, ◌≤◌}
use native.Mathlib.Nat.{mul-le-mul_left, mul-le-mul_right, le_of_mul-le-mul_right, sub-add_cancel}
use native.Mathlib.Omega.{arith}

pub record ButFor (pn pd t m f v : ℕ) : Type 0 where
  pub f_over : pd * f ≤ pn * v + pd * (m * t)
  pub v_over : pd * v ≤ pn * f + pd * (m * t)

-- neither is more than n/d times the other, and each is below that by something over d
pub record Factor (n d below f v : ℕ) : Type 0 where
  pub f_within : d * f + below ≤ n * v
  pub v_within : d * v + below ≤ n * f

-- a factor that is a difference
mul_sub_add : (x : ℕ) {k m : ℕ} → m ≤ k → x * (k - m) + x * m ≡ x * k
mul_sub_add x h = omega (arith, ap (λ (t : ℕ). x * t) (sub-add_cancel h))

-- one side, where a or b is above k times t by s
module _ (pn pd t m a b : ℕ) (over : pd * a ≤ pn * b + pd * (m * t)) (k s : ℕ) (h : pd ≤ pn) (l : m ≤ k) where
  by_a : k * t + s ≤ a → pd * (k - m) * a + pd * m * s ≤ pn * k * b
  by_a r = omega (arith, mul-le-mul_right k over, mul-le-mul_right (pd * m) r, mul_sub_add (pd * a) l)

  by_b : k * t + s ≤ b → pd * (k - m) * a + pd * m * s ≤ pn * k * b
  by_b r =
      less (mul-le-mul_right (k - m) over) (mul_sub_add (pd * (m * t)) l) (mul_sub_add (pn * b) l) (mul-le-mul_right (pn * m) r) (mul-le-mul_right (m * (k * t)) h)
      (mul-le-mul_right (m * s) h)
    where
      less : pd * a * (k - m) ≤ (pn * b + pd * (m * t)) * (k - m) → pd * (m * t) * (k - m) + pd * (m * t) * m ≡ pd * (m * t) * k
          → pn * b * (k - m) + pn * b * m ≡ pn * b * k → (k * t + s) * (pn * m) ≤ b * (pn * m) → pd * (m * (k * t)) ≤ pn * (m * (k * t))
          → pd * (m * s) ≤ pn * (m * s) → pd * (k - m) * a + pd * m * s ≤ pn * k * b
      less x y z u v w = omega arith

  one_side : (k * t + s ≤ a) ⊎ (k * t + s ≤ b) → pd * (k - m) * a + pd * m * s ≤ pn * k * b
  one_side = ⊎_elim by_a by_b

module _ {pn pd t m f v : ℕ} (p : ButFor pn pd t m f v) where
  pub factor : (k s : ℕ) → pd ≤ pn → m ≤ k → (k * t + s ≤ f) ⊎ (k * t + s ≤ v) → Factor (pn * k) (pd * (k - m)) (pd * m * s) f v
  factor k s h l r =
      record {
        f_within = one_side pn pd t m f v p.f_over k s h l r;
        v_within = one_side pn pd t m v f p.v_over k s h l (⊎_elim (λ (x : k * t + s ≤ f). inr x) (λ (x : k * t + s ≤ v). inl x) r);
      }

  -- where nothing is excused the factor is p
  pub factor_sure : m * t ≡ 0 → Factor pn pd 0 f v
  factor_sure z =
      let none : pd * (m * t) ≡ 0 = omega (arith, ap (λ (x : ℕ). pd * x) z) in
      record { f_within = omega (arith, p.f_over); v_within = omega (arith, p.v_over) }

  -- more may be excused
  pub but_for_more : (n : ℕ) → m ≤ n → ButFor pn pd t n f v
  but_for_more n h =
      let more = mul-le-mul_left pd (mul-le-mul_right t h) in
      record { f_over = omega (arith, p.f_over, more); v_over = omega (arith, p.v_over, more) }

  -- and the factor may be larger
  pub but_for_wider : (qn qd : ℕ) → 1 ≤ pd → pn * qd ≤ qn * pd → ButFor qn qd t m f v
  but_for_wider qn qd h l =
      record {
        f_over = le_of_mul-le-mul_right {k = pd} (omega (arith, mul-le-mul_right qd p.f_over, mul-le-mul_right v l)) h;
        v_over = le_of_mul-le-mul_right {k = pd} (omega (arith, mul-le-mul_right qd p.v_over, mul-le-mul_right f l)) h;
      }

  -- all times a number
  pub but_for_scale : (d : ℕ) → ButFor pn pd (t * d) m (f * d) (v * d)
  but_for_scale d = record { f_over = omega (arith, mul-le-mul_right d p.f_over); v_over = omega (arith, mul-le-mul_right d p.v_over) }

-- two pairs added
pub but_for_add : {pn pd t m₁ m₂ f₁ f₂ v₁ v₂ : ℕ} → ButFor pn pd t m₁ f₁ v₁ → ButFor pn pd t m₂ f₂ v₂ → ButFor pn pd t (m₁ + m₂) (f₁ + f₂) (v₁ + v₂)
but_for_add p q = record { f_over = omega (arith, p.f_over, q.f_over); v_over = omega (arith, p.v_over, q.v_over) }
