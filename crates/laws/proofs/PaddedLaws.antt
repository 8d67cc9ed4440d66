-- Laws of lists that zeros follow (specs/Padded.antt).
-- Assumes nothing.
use mathlib.Core.Path.{◌≡◌, refl, sym, ap, ◌∙◌}
use mathlib.Core.List.{List, ◌++◌}
use Prim.Native.Nat.{ℕ, zero, suc, ◌+◌, ◌-◌}
use native.Mathlib.Omega.{arith}
use lib.ListN.{length, take, drop, set, take-append-drop}
use lib.Seq.{take_at, drop-drop, drop-set-lt}
use Rattle.laws.specs.Padded.{zeros, padded}

pub drop_zeros : (k n : ℕ) → drop k (zeros n) ≡ zeros (n - k)
drop_zeros zero n = ap zeros {x = n} {y = n - 0} (omega arith)
drop_zeros (suc k) zero = ap zeros {x = 0} {y = 0 - suc k} (omega arith)
drop_zeros (suc k) (suc n) = drop_zeros k n ∙ ap zeros {x = n - k} {y = suc n - suc k} (omega arith)

-- the list is the front
pub padded_front : (n : ℕ) (l : List ℕ) → take (length l) (padded n l) ≡ l
padded_front n l = take_at l (zeros (n - length l)) (length l) refl

-- one more place is filled of an array in which zeros follow
pub zeros_after : (m n v : ℕ) (l : List ℕ) → drop n l ≡ zeros (m - n) → drop (suc n) (set l n v) ≡ zeros (m - suc n)
zeros_after m n v l e =
    drop-set-lt (suc n) l n v (omega arith)
    ∙ ap (λ (k : ℕ). drop k l) {x = suc n} {y = n + 1} (omega arith)
    ∙ sym (drop-drop 1 n l)
    ∙ ap (drop 1) e
    ∙ drop_zeros 1 (m - n)
    ∙ ap zeros {x = m - n - 1} {y = m - suc n} (omega arith)

-- all of it, by its front and what follows
pub is_padded : (m n : ℕ) (l front : List ℕ) → take n l ≡ front → length front ≡ n → drop n l ≡ zeros (m - n) → l ≡ padded m front
is_padded m n l front t h d =
    sym (take-append-drop n l)
    ∙ ap (λ (r : List ℕ). r ++ drop n l) t
    ∙ ap (λ (r : List ℕ). front ++ r) (d ∙ ap (λ (k : ℕ). zeros (m - k)) (sym h))
