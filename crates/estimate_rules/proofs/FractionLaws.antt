-- Laws of fractions (specs/Fraction.antt): what a sum is where its terms are nothing or whole, and what rounding up does.
-- Assumes nothing.
use mathlib.Core.Path.{◌≡◌, refl, sym, ap, ◌∙◌}
use mathlib.Core.Logic.{⊎_elim}
use Prim.Native.Nat.{ℕ, zero, suc, ◌+◌, ◌-◌, ◌*◌, ◌≤◌, ◌<◌}
use native.Mathlib.Nat.{div-mul-le_self, lt-div-mul-add, eq-or-lt_of_le, le_of_suc-le-suc, mul-le-mul_right, lt_of_mul-lt-mul_right}
use native.Mathlib.Omega.{arith}
use Rattle.estimate_rules.specs.declared.Fraction.{Fraction}
use Rattle.estimate_rules.specs.Fraction.{number, nothing, plus, numerator, sum_of, rounded}

-- rounded e is the least whole number that is not below e

pub rounded_reaches : (e : Fraction) → 0 < e.bottom → numerator e ≤ rounded e * e.bottom
unfolding rounded
rounded_reaches e p = omega (arith, lt-div-mul-add {a = e.top + (e.bottom - 1)} p)

pub rounded_tight : (e : Fraction) → 0 < e.bottom → rounded e * e.bottom < numerator e + e.bottom
unfolding rounded
rounded_tight e p = omega (arith, div-mul-le_self (e.top + (e.bottom - 1)) e.bottom)

pub rounded_most : (e : Fraction) (n : ℕ) → 0 < e.bottom → numerator e ≤ n * e.bottom → rounded e ≤ n
rounded_most e n p h = le_of_suc-le-suc (lt_of_mul-lt-mul_right e.bottom {m = rounded e} {n = suc n} (omega (arith, rounded_tight e p)))

-- a whole number stays
pub rounded_whole : (e : Fraction) → 0 < e.bottom → e.top ≡ 0 → rounded e * e.bottom ≡ numerator e
rounded_whole e p z = omega (arith, rounded_reaches e p, mul-le-mul_right e.bottom (rounded_most e e.whole p (omega arith)))

-- the three parts of a fraction determine it
same : (a b : Fraction) → a.whole ≡ b.whole → a.top ≡ b.top → a.bottom ≡ b.bottom → a ≡ b
same a b p q r = λ i. record { whole = p i; top = q i; bottom = r i }

pub plus_nothing : (e : Fraction) → plus e nothing ≡ e
plus_nothing e = same (plus e nothing) e (omega arith) (omega arith) (omega arith)

pub nothing_plus : (e : Fraction) → plus nothing e ≡ e
nothing_plus e = same (plus nothing e) e (omega arith) (omega arith) (omega arith)

-- two whole numbers are added as one
pub plus_numbers : (e : Fraction) (m n : ℕ) → plus (plus e (number m)) (number n) ≡ plus e (number (m + n))
plus_numbers e m n = same (plus (plus e (number m)) (number n)) (plus e (number (m + n))) (omega arith) (omega arith) (omega arith)

pub sum_none : (n : ℕ) (f : ℕ → Fraction) → ((i : ℕ) → i < n → f i ≡ nothing) → sum_of n f ≡ nothing
unfolding sum_of
sum_none zero f h = refl
sum_none (suc n) f h =
    ap (λ (e : Fraction). plus e (f n)) (sum_none n f (λ i l. h i (omega arith))) ∙ nothing_plus (f n) ∙ h n (omega arith)

-- terms that are nothing at the end
pub sum_rest : (n m : ℕ) (f : ℕ → Fraction) → m ≤ n → ((i : ℕ) → m ≤ i → i < n → f i ≡ nothing) → sum_of n f ≡ sum_of m f
unfolding sum_of
sum_rest zero m f l h = ap (λ (k : ℕ). sum_of k f) {x = 0} {y = m} (omega arith)
sum_rest (suc n) m f l h =
    ⊎_elim
    (λ (e : m ≡ suc n). ap (λ (k : ℕ). sum_of k f) (sym e))
    (λ (b : m < suc n).
    ap (plus (sum_of n f)) (h n (omega arith) (omega arith)) ∙ plus_nothing (sum_of n f) ∙ sum_rest n m f (le_of_suc-le-suc b) (λ i k g. h i k (omega arith)))
    (eq-or-lt_of_le l)

-- where all terms but one are nothing the sum is that one
pub sum_one : (n : ℕ) (f : ℕ → Fraction) (j : ℕ) → j < n → ((i : ℕ) → i < n → (i ≡ j → ⊥) → f i ≡ nothing) → sum_of n f ≡ f j
unfolding sum_of
sum_one zero f j l h = absurd (omega arith)
sum_one (suc n) f j l h =
    ⊎_elim
    (λ (e : j ≡ n).
    ap (λ (s : Fraction). plus s (f n)) (sum_none n f (λ i l. h i (omega arith) (λ z. omega arith))) ∙ nothing_plus (f n) ∙ ap f (sym e))
    (λ (b : j < n).
    ap (plus (sum_of n f)) (h n (omega arith) (λ z. omega arith)) ∙ plus_nothing (sum_of n f) ∙ sum_one n f j b (λ i l. h i (omega arith)))
    (eq-or-lt_of_le (le_of_suc-le-suc l))

-- a sum of whole numbers is one
pub sum_whole : (n : ℕ) (f : ℕ → Fraction) → ((i : ℕ) → i < n → (f i).top ≡ 0) → (sum_of n f).top ≡ 0
unfolding sum_of
sum_whole zero f h = refl
sum_whole (suc n) f h =
    let p = ap (λ (t : ℕ). t * (f n).bottom) (sum_whole n f (λ i l. h i (omega arith))) in
    let q = ap (λ (t : ℕ). t * (sum_of n f).bottom) (h n (omega arith)) in
    omega arith
