-- A rule of a table, proved at all of its entries by one test that antt computes, one entry after the other.
-- Assumes nothing.
use mathlib.Core.Path.{◌≡◌, ◌∙◌, subst, sym}
use mathlib.Core.Bool.{Bool, true, ◌&&◌}
use mathlib.Core.List.{List, [], ◌∷◌}
use Prim.Native.Nat.{ℕ, zero, suc, ◌+◌, ◌≤◌, ◌<◌}
use native.Mathlib.Nat.{add-zero, zero-add, add-suc, suc-add, le_of_suc-le-suc, not-suc-le-zero}
use native.Mathlib.Omega.{arith}
use lib.ListN.{length, get_or, get_or-eq_default}
use Rattle.laws.proofs.Tests.{both_left, both_right}

-- the test passes at each entry of the list and its place, counted from i
abbrev pub every : (ℕ → ℕ → Bool) → ℕ → List ℕ → Bool
every f i [] = true
every f i (x ∷ xs) = f i x && every f (suc i) xs

from : (f : ℕ → ℕ → Bool) (xs : List ℕ) (i : ℕ) → every f i xs ≡ true → (k : ℕ) → k < length xs → f (i + k) (get_or xs k 0) ≡ true
from f [] i t k h = absurd (not-suc-le-zero h)
from f (x ∷ xs) i t zero h = subst (λ (m : ℕ). f m x ≡ true) (sym (add-zero i)) (both_left (f i x) (every f (suc i) xs) t)
from f (x ∷ xs) i t (suc k) h =
    subst (λ (m : ℕ). f m (get_or xs k 0) ≡ true) (suc-add i k ∙ sym (add-suc i k))
    (from f xs (suc i) (both_right (f i x) (every f (suc i) xs) t) k (le_of_suc-le-suc h))

pub at : (f : ℕ → ℕ → Bool) (xs : List ℕ) → every f 0 xs ≡ true → (k : ℕ) → k < length xs → f k (get_or xs k 0) ≡ true
at f xs t k h = subst (λ (m : ℕ). f m (get_or xs k 0) ≡ true) (zero-add k) (from f xs 0 t k h)

-- what the last arm of a `match` knows: its number is none of the n before
abbrev pub NoneOf : ℕ → ℕ → Type 0
NoneOf x zero = Unit
NoneOf x (suc n) = NoneOf x n × (x ≡ n → ⊥)

none_of_past : (x n : ℕ) → NoneOf x n → n ≤ x
none_of_past x zero h = omega arith
none_of_past x (suc n) h = let l = none_of_past x n h.0 in let e = h.1 in omega arith

-- so it reads past the table
pub past : (xs : List ℕ) (x : ℕ) → NoneOf x (length xs) → 0 ≡ get_or xs x 0
past xs x h = sym (get_or-eq_default xs 0 (none_of_past x (length xs) h))

-- an arm of a `match` on a number reads the entry at that number
pub entry : (xs : List ℕ) (x : ℕ) {n v : ℕ} → x ≡ n → v ≡ get_or xs n 0 → v ≡ get_or xs x 0
entry xs x {n} {v} e h = subst (λ (m : ℕ). v ≡ get_or xs m 0) (sym e) h
