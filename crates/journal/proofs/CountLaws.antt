-- Laws of a count and a change to it: what it says that they come to a count, or to none (`changed_by` of specs/Private/Changing.antt).
-- Assumes nothing.
use mathlib.Core.Path.{◌≡◌, refl, ap}
use mathlib.Core.Bool.{Bool, true, false, cond}
use mathlib.Core.Logic.{◌⊎◌, inl, inr}
use Prim.Native.Nat.{ℕ, ◌≤◌, ◌<◌}
use native.Mathlib.Omega.{arith}
use borrow.Author.Tests.{leb-true, leb-false, ltb-true, lt-ltb}
use lib.Dec.{leb, ltb}
use lib.IntN.{ℤ, pos, negsuc}
use lib.Signed.{lt_z}
use Rattle.counts_rules.specs.Limit.{limit}
use Rattle.std.specs.Prelude.{None, Some}
use Rattle.journal.specs.Private.Changing.{count_of}

-- ---- what it says

pub to_is : (z : ℤ) (n : ℕ) → count_of z ≡ Some n → (z ≡ pos n) × (n ≤ limit)
to_is (pos m) n e = go (leb m limit) refl e
  where
    go : (t : Bool) → leb m limit ≡ t → cond t (Some m) None ≡ Some n → (pos m ≡ pos n) × (n ≤ limit)
    go true p q = let k : m ≡ n = cc in (ap pos k, omega (arith, leb-true m limit p))
    go false p q = let z : ◌≡◌ {A = ℕ} 0 1 = cc in absurd (omega arith)
to_is (negsuc m) n e = let z : ◌≡◌ {A = ℕ} 0 1 = cc in absurd (omega arith)

pub broken_is : (z : ℤ) → count_of z ≡ None → (lt_z z (pos 0) ≡ true) ⊎ (lt_z (pos limit) z ≡ true)
broken_is (pos m) e = go (leb m limit) refl e
  where
    go : (t : Bool) → leb m limit ≡ t → cond t (Some m) None ≡ None → (ltb m 0 ≡ true) ⊎ (ltb limit m ≡ true)
    go true p q = let z : ◌≡◌ {A = ℕ} 0 1 = cc in absurd (omega arith)
    go false p q = inr (lt-ltb limit m (leb-false m limit p))
broken_is (negsuc m) e = inl refl

pub above_is : (z : ℤ) → lt_z (pos limit) z ≡ true → (n : ℕ) × (z ≡ pos n) × (limit < n)
above_is (pos n) e = (n, refl, ltb-true limit n e)
above_is (negsuc n) e = let z : ◌≡◌ {A = ℕ} 0 1 = cc in absurd (omega arith)

-- ---- what a step answers: a count, unless a bound is broken

pub count_answered : (t : Bool) (v n : ℕ) → Some n ≡ cond t None (Some v) → (t ≡ false) × (n ≡ v)
count_answered true v n e = let z : ◌≡◌ {A = ℕ} 0 1 = cc in absurd (omega arith)
count_answered false v n e = let k : n ≡ v = cc in (refl, k)

pub broken_answered : (t : Bool) (v : ℕ) → None ≡ cond t None (Some v) → t ≡ true
broken_answered true v e = refl
broken_answered false v e = let z : ◌≡◌ {A = ℕ} 0 1 = cc in absurd (omega arith)
