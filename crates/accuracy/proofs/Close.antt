-- A count and the fraction that estimates it, as the two numbers of the lemma (ButFor.antt) over the fraction's bottom: such pairs add up, and
-- rounding the fraction up costs less than one. Assumes nothing.
use mathlib.Core.Path.{◌≡◌, refl, ap}
use mathlib.Core.Logic.{◌⊎◌, inl, inr, ⊎_elim}
use Prim.Native.Nat.{ℕ, zero, suc, ◌+◌, ◌-◌, ◌*◌, ◌≤◌, ◌<◌}
use native.Mathlib.Nat.{le_of_lt, mul-le-mul_left, mul-le-mul_right, mul-pos, mul-lt-mul_of_pos_right, le_of_mul-le-mul_right, lt_of_mul-lt-mul_right}
use native.Mathlib.Omega.{arith}
use Rattle.estimate_rules.specs.declared.Fraction.{Fraction}
use Rattle.estimate_rules.specs.Fraction.{nothing, plus, rounded, numerator}
use Rattle.estimate_rules.proofs.FractionLaws.{rounded_reaches, rounded_tight}
use Rattle.accuracy.specs.Claims.{Within}
use Rattle.accuracy.specs.Sharper.{UpTo}
use Rattle.accuracy.proofs.ButFor.{ButFor, Factor, factor, but_for_more, but_for_wider, but_for_scale, but_for_add}
use Rattle.accuracy.proofs.Ranges.{Adding}

pub record Close (pn pd theta m f : ℕ) (e : Fraction) : Type 0 where
  pub positive : 0 < e.bottom
  pub but_for : ButFor pn pd (theta * e.bottom) m (f * e.bottom) (numerator e)

module _ (pn pd theta : ℕ) where
  -- within p
  pub close_near : (f : ℕ) (e : Fraction) → 0 < e.bottom → pd * (f * e.bottom) ≤ pn * numerator e → pd * numerator e ≤ pn * (f * e.bottom)
      → Close pn pd theta 0 f e
  close_near f e p h k =
      record { positive = p; but_for = record { f_over = omega (arith, h); v_over = omega (arith, k) } }

  -- both at most theta
  pub close_small : (f : ℕ) (e : Fraction) → 0 < e.bottom → f ≤ theta → numerator e ≤ theta * e.bottom → Close pn pd theta 1 f e
  close_small f e p h k =
      record {
        positive = p;
        but_for = record { f_over = omega (arith, mul-le-mul_left pd (mul-le-mul_right e.bottom h)); v_over = omega (arith, mul-le-mul_left pd k) };
      }

  pub close_nothing : Close pn pd theta 0 0 nothing
  close_nothing = close_near 0 nothing (omega arith) (omega arith) (omega arith)

module _ {pn pd theta m f : ℕ} {e : Fraction} (s : Close pn pd theta m f e) where
  pub close_more : (n : ℕ) → m ≤ n → Close pn pd theta n f e
  close_more n h = record { positive = s.positive; but_for = but_for_more s.but_for n h }

  pub close_wider : (qn qd : ℕ) → 1 ≤ pd → pn * qd ≤ qn * pd → Close qn qd theta m f e
  close_wider qn qd h l = record { positive = s.positive; but_for = but_for_wider s.but_for qn qd h l }

  -- the same count and the same fraction, in other words
  pub close_as : (g : ℕ) (d : Fraction) → g ≡ f → d ≡ e → Close pn pd theta m g d
  close_as g d p q = rw (p, q) s

  -- the lemma, for the fraction rounded up
  pub close_within : (k : ℕ) → 0 < pd → pd ≤ pn → m < k → (k * theta < f) ⊎ (k * theta < rounded e) → Within (pn * k) (pd * (k - m)) 1 f (rounded e)
  close_within k p h l r =
      record {
        count_within = le_of_mul-le-mul_right {k = e.bottom} (omega (arith, w.f_within, mul-le-mul_right (pn * k) up)) s.positive;
        answer_within = below (rounded e) refl;
      }
    where
      up : numerator e ≤ rounded e * e.bottom
      up = rounded_reaches e s.positive

      down : rounded e * e.bottom < numerator e + e.bottom
      down = rounded_tight e s.positive

      reached : (k * (theta * e.bottom) + 0 ≤ f * e.bottom) ⊎ (k * (theta * e.bottom) + 0 ≤ numerator e)
      reached =
          ⊎_elim
          (λ (g : k * theta < f). inl (omega (arith, mul-le-mul_right e.bottom g)))
          (λ (g : k * theta < rounded e). inr (omega (arith, mul-le-mul_right e.bottom g, down)))
          r

      w : Factor (pn * k) (pd * (k - m)) (pd * m * 0) (f * e.bottom) (numerator e)
      w = factor s.but_for k 0 h (omega arith) reached

      -- a count above 0 where the answer is 0
      counted : (k * theta < f) ⊎ (k * theta < rounded e) → rounded e ≡ 0 → 0 < f
      counted r z = ⊎_elim (λ (g : k * theta < f). omega arith) (λ (g : k * theta < rounded e). absurd (omega arith)) r

      below : (n : ℕ) → rounded e ≡ n → pd * (k - m) * (n - 1) < pn * k * f
      below zero z = let some : 0 < pn * k * f = mul-pos (mul-pos {m = pn} {n = k} (omega arith) (omega arith)) (counted r z) in omega arith
      below (suc n) z =
          let some : 0 < pd * (k - m) = mul-pos p (omega arith) in
          let less : n * e.bottom < numerator e = omega (arith, down, ap (λ (t : ℕ). t * e.bottom) z) in
          let one : suc n - 1 ≡ n = omega arith in
          rw one (lt_of_mul-lt-mul_right e.bottom {m = pd * (k - m) * n} (omega (arith, w.v_within, mul-lt-mul_of_pos_right less some)))

close_add : {pn pd theta m₁ m₂ f₁ f₂ : ℕ} {e₁ e₂ : Fraction} → Close pn pd theta m₁ f₁ e₁ → Close pn pd theta m₂ f₂ e₂
    → Close pn pd theta (m₁ + m₂) (f₁ + f₂) (plus e₁ e₂)
close_add {pn} {pd} {theta} {m₁} {m₂} {f₁} {f₂} {e₁} {e₂} s₁ s₂ =
    record {
      positive = mul-pos s₁.positive s₂.positive;
      but_for =
          same (omega arith) (omega arith) (omega arith)
          (but_for_add (but_for_scale s₁.but_for e₂.bottom) (same {t = theta * e₂.bottom * e₁.bottom} (omega arith) refl refl (but_for_scale s₂.but_for e₁.bottom)));
    }
  where
    same : {m t t' f f' v v' : ℕ} → t ≡ t' → f ≡ f' → v ≡ v' → ButFor pn pd t m f v → ButFor pn pd t' m f' v'
    same p q r h = rw (← p, ← q, ← r) h

pub close_adds : (pn pd theta : ℕ) → Adding (Close pn pd theta)
close_adds pn pd theta = record { none = close_nothing pn pd theta; more = λ m n f e h s. close_more s n h; add = λ m n f g d e s t. close_add s t }

-- ---- two factors: m cuts, all excused and the rest within p, or fewer than m excused and the rest within q

pub record Fewer (q : ℕ × ℕ) (theta m f : ℕ) (e : Fraction) : Type 0 where
  pub excused : ℕ
  pub fewer : excused < m
  pub close : Close q.0 q.1 theta excused f e

abbrev pub TwoWays : ℕ × ℕ → ℕ × ℕ → ℕ → ℕ → ℕ → Fraction → Type 0
TwoWays p q theta m f e = Close p.0 p.1 theta m f e ⊎ Fewer q theta m f e

module _ (p q : ℕ × ℕ) (theta : ℕ) (up : UpTo q p) where
  -- what is within p is within q
  in_q : {m f : ℕ} {e : Fraction} → Close p.0 p.1 theta m f e → Close q.0 q.1 theta m f e
  in_q s = close_wider s q.0 q.1 up.positive up.most

  ways_more : (m n f : ℕ) (e : Fraction) → m ≤ n → TwoWays p q theta m f e → TwoWays p q theta n f e
  ways_more m n f e h (inl s) = inl (close_more s n h)
  ways_more m n f e h (inr s) = inr (record { excused = s.excused; fewer = omega (arith, s.fewer); close = s.close })

  ways_add : (m n f g : ℕ) (d e : Fraction) → TwoWays p q theta m f d → TwoWays p q theta n g e → TwoWays p q theta (m + n) (f + g) (plus d e)
  ways_add m n f g d e (inl s) (inl t) = inl (close_add s t)
  ways_add m n f g d e (inl s) (inr t) = inr (record { excused = m + t.excused; fewer = omega (arith, t.fewer); close = close_add (in_q s) t.close })
  ways_add m n f g d e (inr s) (inl t) = inr (record { excused = s.excused + n; fewer = omega (arith, s.fewer); close = close_add s.close (in_q t) })
  ways_add m n f g d e (inr s) (inr t) = inr (record { excused = s.excused + t.excused; fewer = omega (arith, s.fewer, t.fewer); close = close_add s.close t.close })

  pub ways_adds : Adding (TwoWays p q theta)
  ways_adds = record { none = inl (close_nothing p.0 p.1 theta); more = ways_more; add = ways_add }

-- ---- a whole number that the fraction does not pass: each of its cuts rounded up by itself

-- at most p times the count, and theta for each cut: one that is excused gives at most theta, and else rounding costs less than 1, which theta pays
pub record Capped (pn pd theta m f : ℕ) (e : Fraction) : Type 0 where
  pub cap : ℕ
  pub reached : numerator e ≤ cap * e.bottom
  pub under : pd * cap ≤ pn * f + pd * (m * theta)

module _ (pn pd theta : ℕ) where
  -- a whole number
  pub capped_whole : (f : ℕ) (e : Fraction) → e.top ≡ 0 → Close pn pd theta 0 f e → Capped pn pd theta 0 f e
  capped_whole f e z s =
      record {
        cap = e.whole;
        reached = omega arith;
        under = le_of_mul-le-mul_right {k = e.bottom} (omega (arith, s.but_for.v_over, ap (λ (t : ℕ). pd * t) z)) s.positive;
      }

  -- a cut that is not excused
  pub capped_near : (f : ℕ) (e : Fraction) → 1 ≤ theta → Close pn pd theta 0 f e → Capped pn pd theta 1 f e
  capped_near f e h s =
      record {
        cap = rounded e;
        reached = rounded_reaches e s.positive;
        under =
            le_of_mul-le-mul_right {k = e.bottom}
            (omega (arith, s.but_for.v_over, mul-le-mul_left pd (le_of_lt (rounded_tight e s.positive)), mul-le-mul_right (pd * e.bottom) h)) s.positive;
      }

  -- and one that is
  pub capped_small : (f : ℕ) (e : Fraction) → numerator e ≤ theta * e.bottom → Capped pn pd theta 1 f e
  capped_small f e h = record { cap = theta; reached = h; under = omega arith }

  pub capped_adds : Adding (Capped pn pd theta)
  capped_adds =
      record {
        none = record { cap = 0; reached = omega arith; under = omega arith };
        more = λ m n f e h c. record { cap = c.cap; reached = c.reached; under = omega (arith, c.under, mul-le-mul_left pd (mul-le-mul_right theta h)) };
        add = λ m n f g d e c b.
            record {
              cap = c.cap + b.cap;
              reached = omega (arith, mul-le-mul_right e.bottom c.reached, mul-le-mul_right d.bottom b.reached);
              under = omega (arith, c.under, b.under);
            };
      }
