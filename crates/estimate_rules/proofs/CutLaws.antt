-- The ends of a range against spans that follow one another: each end lies strictly inside at most one of them, and a span that the range
-- meets without holding it has an end inside. Assumes nothing.
use mathlib.Core.Path.{◌≡◌, ap}
use mathlib.Core.Bool.{true, false}
use mathlib.Core.Logic.{◌⊎◌, inl, inr, ⊎_elim}
use Prim.Native.Nat.{ℕ, zero, suc, ◌+◌, ◌-◌, ◌≤◌, ◌<◌, zero-le, min}
use native.Mathlib.Nat.{le_of_eq, le_of_suc-le-suc, eq-or-lt_of_le}
use native.Mathlib.Omega.{arith}
use borrow.Author.Tests.{leb-false}
use lib.Dec.{leb}
use Rattle.laws.proofs.Tests.{fails_other, tested}
use Rattle.estimate_rules.specs.Exact.{inside, overlap}

pub before_or_not : (x y : ℕ) → (x < y) ⊎ (y ≤ x)
before_or_not x zero = inr zero-le
before_or_not zero (suc y) = inl (omega arith)
before_or_not (suc x) (suc y) = ⊎_elim (λ (l : x < y). inl (omega arith)) (λ (g : y ≤ x). inr (omega arith)) (before_or_not x y)

-- 1 if a place lies strictly inside the span from a to e, else 0
unfoldable pub cuts : ℕ → ℕ → ℕ → ℕ
cuts x a e = min 1 (min (x - a) (e - x))

pub cuts_most : (x a e : ℕ) → cuts x a e ≤ 1
unfolding cuts
cuts_most x a e = omega arith

cuts_some : (x a e : ℕ) → a < x → x < e → cuts x a e ≡ 1
unfolding cuts
cuts_some x a e h k = omega arith

cuts_left : (x a e : ℕ) → x ≤ a → cuts x a e ≡ 0
unfolding cuts
cuts_left x a e h = omega arith

cuts_right : (x a e : ℕ) → e ≤ x → cuts x a e ≡ 0
unfolding cuts
cuts_right x a e h = omega arith

pub cuts_none : (x a e : ℕ) → (a < x → e ≤ x) → cuts x a e ≡ 0
cuts_none x a e h = ⊎_elim (λ (l : a < x). cuts_right x a e (h l)) (λ (g : x ≤ a). cuts_left x a e g) (before_or_not a x)

-- a place inside a part of a span is inside the span
cuts_wider : (x a b c e : ℕ) → a ≤ b → c ≤ e → cuts x b c ≤ cuts x a e
unfolding cuts
cuts_wider x a b c e h k = mins (x - b) (c - x) (x - a) (e - x) (omega arith) (omega arith)
  where
    mins : (p q r s : ℕ) → p ≤ r → q ≤ s → min 1 (min p q) ≤ min 1 (min r s)
    mins p q r s h k = omega arith

-- of two spans that meet only one is cut
pub cuts_join : (x a b e : ℕ) → a ≤ b → b ≤ e → cuts x a b + cuts x b e ≤ cuts x a e
cuts_join x a b e h k =
    ⊎_elim
    (λ (l : x < b). omega (arith, cuts_left x b e (omega arith), cuts_wider x a a b e (omega arith) k))
    (λ (g : b ≤ x). omega (arith, cuts_right x a b g, cuts_wider x a b e e h (omega arith)))
    (before_or_not x b)

-- a span that is neither missed nor wholly inside is cut by an end of the range
pub cut_some : (x y a e : ℕ) → 0 < overlap x y a e → inside x y a e ≡ false → 1 ≤ cuts x a e + cuts y a e
cut_some x y a e p f =
    ⊎_elim
    (λ (t : leb x a ≡ true).
    let l = leb-false e y (fails_other (leb x a) (leb e y) f t) in
    omega (arith, cuts_some y a e (omega arith) l))
    (λ (t : leb x a ≡ false).
    let l = leb-false x a t in
    omega (arith, cuts_some x a e l (omega arith)))
    (tested (leb x a))

-- places that rise
module _ (at : ℕ → ℕ) where
  pub rises : (i n : ℕ) → ((k : ℕ) → k < n → at k ≤ at (suc k)) → i ≤ n → at i ≤ at n
  rises i zero up h = let e : i ≡ 0 = omega arith in le_of_eq (ap at e)
  rises i (suc n) up h =
      ⊎_elim
      (λ (e : i ≡ suc n). le_of_eq (ap at e))
      (λ (l : i < suc n). omega (arith, rises i n (λ k g. up k (omega arith)) (le_of_suc-le-suc l), up n (omega arith)))
      (eq-or-lt_of_le h)

  -- of two spans one lies before the other
  pub apart : (n i j : ℕ) → ((k : ℕ) → k < n → at k ≤ at (suc k)) → i < n → j < n → (i ≡ j → ⊥) → (at (suc i) ≤ at j) ⊎ (at (suc j) ≤ at i)
  apart n i j up h k d =
      ⊎_elim
      (λ (l : i < j). inl (rises (suc i) j (λ m g. up m (omega arith)) l))
      (λ (g : j ≤ i). inr (rises (suc j) i (λ m g. up m (omega arith)) (omega arith)))
      (before_or_not i j)
