-- Tests taken apart: what a conjunction, a negation or a choice says.
-- Assumes nothing.
use mathlib.Core.Path.{◌≡◌, refl, sym}
use mathlib.Core.Bool.{Bool, true, false, cond, not, ◌&&◌, ◌||◌}
use mathlib.Core.Logic.{◌⊎◌, inl, inr}
use Prim.Native.Nat.{ℕ, ◌≤◌, ◌<◌}
use native.Mathlib.Omega.{arith}
use borrow.Author.Tests.{eqb-true, eqb-false, leb-true, leb-false, ltb-true, ltb-false}
use lib.Dec.{eqb, leb, ltb}

pub true_not_false : {t : Bool} → t ≡ true → t ≡ false → ⊥
true_not_false p q = let z : ◌≡◌ {A = ℕ} 0 1 = cc in omega arith

-- both hold
pub both : (a b : Bool) → a ≡ true → b ≡ true → (a && b) ≡ true
both true b p q = q
both false b p q = p

pub both_left : (a b : Bool) → (a && b) ≡ true → a ≡ true
both_left true b p = refl
both_left false b p = p

pub both_right : (a b : Bool) → (a && b) ≡ true → b ≡ true
both_right true b p = p
both_right false b p = absurd (true_not_false p refl)

-- one of the two fails
pub fails_left : (a b : Bool) → a ≡ false → (a && b) ≡ false
fails_left true b p = absurd (true_not_false refl p)
fails_left false b p = refl

pub fails_right : (a b : Bool) → b ≡ false → (a && b) ≡ false
fails_right true b p = p
fails_right false b p = refl

-- and not the other
pub fails_other : (a b : Bool) → (a && b) ≡ false → a ≡ true → b ≡ false
fails_other true b p t = p
fails_other false b p t = absurd (true_not_false t refl)

-- one of the two holds
pub holds_left : (a b : Bool) → a ≡ true → (a || b) ≡ true
holds_left true b p = refl
holds_left false b p = absurd (true_not_false p refl)

pub holds_right : (a b : Bool) → b ≡ true → (a || b) ≡ true
holds_right true b p = refl
holds_right false b p = p

pub neither : (a b : Bool) → a ≡ false → b ≡ false → (a || b) ≡ false
neither true b p q = p
neither false b p q = q

pub neither_left : (a b : Bool) → (a || b) ≡ false → a ≡ false
neither_left true b p = p
neither_left false b p = refl

pub neither_right : (a b : Bool) → (a || b) ≡ false → b ≡ false
neither_right true b p = absurd (true_not_false refl p)
neither_right false b p = p

pub either : (a b : Bool) → (a || b) ≡ true → (a ≡ true) ⊎ (b ≡ true)
either true b p = inl refl
either false b p = inr p

-- the second holds where the first does not
pub holds_other : (a b : Bool) → (a || b) ≡ true → a ≡ false → b ≡ true
holds_other true b p q = absurd (true_not_false refl q)
holds_other false b p q = p

-- the opposite of a test
pub not_holds : (t : Bool) → t ≡ false → not t ≡ true
not_holds true p = absurd (true_not_false refl p)
not_holds false p = refl

pub not_fails : (t : Bool) → t ≡ true → not t ≡ false
not_fails true p = refl
not_fails false p = absurd (true_not_false p refl)

pub not_both : (a b : Bool) → not (a && b) ≡ (not a || not b)
not_both true b = refl
not_both false b = refl

-- a test that cannot fail holds, and one that cannot hold fails
pub is_true : (t : Bool) → (t ≡ false → ⊥) → t ≡ true
is_true true h = refl
is_true false h = absurd (h refl)

pub is_false : (t : Bool) → (t ≡ true → ⊥) → t ≡ false
is_false true h = absurd (h refl)
is_false false h = refl

-- two tests that hold and fail together are one
pub agree : (s t : Bool) → (s ≡ true → t ≡ true) → (s ≡ false → t ≡ false) → s ≡ t
agree true t p q = sym (p refl)
agree false t p q = sym (q refl)

-- two tests that imply one another are one
pub same_test : (s t : Bool) → (s ≡ true → t ≡ true) → (t ≡ true → s ≡ true) → s ≡ t
same_test true t f g = sym (f refl)
same_test false true f g = g refl
same_test false false f g = refl

-- a test holds or fails
pub tested : (t : Bool) → (t ≡ true) ⊎ (t ≡ false)
tested true = inl refl
tested false = inr refl

-- a choice by a test that is known
pub chosen {ℓ} : {A : Type ℓ} (t : Bool) (x y : A) → t ≡ true → x ≡ cond t x y
chosen true x y p = refl
chosen false x y p = absurd (true_not_false p refl)

pub not_chosen {ℓ} : {A : Type ℓ} (t : Bool) (x y : A) → t ≡ false → y ≡ cond t x y
not_chosen true x y p = absurd (true_not_false refl p)
not_chosen false x y p = refl

-- what a choice by a comparison gives, whichever way it went
decided : (t : Bool) (v x y : ℕ) → (t ≡ true → v ≡ x) → (t ≡ false → v ≡ y) → v ≡ cond t x y
decided true v x y p q = p refl
decided false v x y p q = q refl

module _ (a b v x y : ℕ) where
  pub by_eq : (a ≡ b → v ≡ x) → ((a ≡ b → ⊥) → v ≡ y) → v ≡ cond (eqb a b) x y
  by_eq p q = decided (eqb a b) v x y (λ t. p (eqb-true a b t)) (λ t. q (eqb-false a b t))

  pub by_le : (a ≤ b → v ≡ x) → (b < a → v ≡ y) → v ≡ cond (leb a b) x y
  by_le p q = decided (leb a b) v x y (λ t. p (leb-true a b t)) (λ t. q (leb-false a b t))

  pub by_lt : (a < b → v ≡ x) → (b ≤ a → v ≡ y) → v ≡ cond (ltb a b) x y
  by_lt p q = decided (ltb a b) v x y (λ t. p (ltb-true a b t)) (λ t. q (ltb-false a b t))
