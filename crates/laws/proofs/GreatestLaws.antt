-- Laws of the greatest of a set of fractions (specs/Private/Greatest.antt): a member that is greater, and members that are not.
-- Assumes nothing.
use mathlib.Core.Path.{◌≡◌}
use mathlib.Core.Logic.{◌⊎◌, ⊎_elim}
use Prim.Native.Nat.{ℕ, ◌*◌, ◌≤◌, ◌<◌}
use native.Mathlib.Nat.{le_of_mul-le-mul_right, mul-le-mul_right}
use native.Mathlib.Omega.{arith}
use Rattle.laws.specs.Private.Greatest.{Greatest}

-- a/b ≤ c/d ≤ x/y
through : (a b c d x y : ℕ) → 0 < d → a * d ≤ c * b → c * y ≤ x * d → a * y ≤ x * b
through a b c d x y pos h k = le_of_mul-le-mul_right {k = d} (omega (arith, mul-le-mul_right y h, mul-le-mul_right b k)) pos

module _ (top bottom : ℕ → ℕ → ℕ) where
  pub of_none : (S : ℕ → ℕ → Type 0) → ((i n : ℕ) → S i n → ⊥) → Greatest top bottom S 0 1
  of_none S e = record { positive = omega arith; covers = λ i n m. absurd (e i n m); reached = λ x y h. omega arith }

  module _ (S T : ℕ → ℕ → Type 0) (pt pb : ℕ) (g : Greatest top bottom S pt pb) where
    -- where the greatest is at most x / y, so is every one
    pub each_at_most : (x y i n : ℕ) → pt * y ≤ x * pb → S i n → top i n * y ≤ x * bottom i n
    each_at_most x y i n h s = through (top i n) (bottom i n) pt pb x y g.positive (g.covers i n s) h

    -- T is S and i, n, whose fraction is not the smaller one
    pub of_greater : (i n : ℕ) → T i n → 0 < bottom i n → pt * bottom i n ≤ top i n * pb → ((x m : ℕ) → T x m → S x m ⊎ ((x ≡ i) × (m ≡ n)))
        → Greatest top bottom T (top i n) (bottom i n)
    of_greater i n new pos l split =
        record {
          positive = pos;
          covers = λ x m t. ⊎_elim (λ (s : S x m). each_at_most (top i n) (bottom i n) x m l s) (λ (e : (x ≡ i) × (m ≡ n)). rw (e.0, e.1) (omega arith)) (split x m t);
          reached = λ x y h. h i n new;
        }

    -- T is S and members that are at most the greatest
    pub of_others : ((i n : ℕ) → S i n → T i n) → ((i n : ℕ) → T i n → S i n ⊎ (top i n * pb ≤ pt * bottom i n)) → Greatest top bottom T pt pb
    of_others old split =
        record {
          positive = g.positive;
          covers = λ i n t. ⊎_elim (g.covers i n) (λ (l : top i n * pb ≤ pt * bottom i n). l) (split i n t);
          reached = λ x y h. g.reached x y (λ i n s. h i n (old i n s));
        }
