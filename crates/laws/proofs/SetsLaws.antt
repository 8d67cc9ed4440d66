-- Laws of a list that is put into another at a place, one element after the other.
-- Assumes nothing.
use mathlib.Core.Path.{◌≡◌, sym, ap, ◌∙◌}
use mathlib.Core.List.{List, [], ◌∷◌, ◌++◌}
use Prim.Native.Nat.{ℕ, suc, ◌+◌, ◌<◌}
use native.Mathlib.Numerals.{add-one}
use native.Mathlib.Omega.{arith}
use lib.ListN.{length, get_or, set, take}
use lib.Seq.{sets, take-suc, length-take-le}

pub sets_append : (l : List ℕ) (i : ℕ) (xs ys : List ℕ) → sets l i (xs ++ ys) ≡ sets (sets l i xs) (i + length xs) ys
sets_append l i [] ys = let same : i + 0 ≡ i = omega arith in ap (λ (k : ℕ). sets l k ys) (sym same)
sets_append l i (x ∷ xs) ys =
    let moved : suc i + length xs ≡ i + suc (length xs) = omega arith in
    sets_append (set l i x) (suc i) xs ys ∙ ap (λ (k : ℕ). sets (sets (set l i x) (suc i) xs) k ys) moved

-- the step of a loop: an element more of `part`, after those before it
pub put_next : (l : List ℕ) (at : ℕ) (part : List ℕ) (i : ℕ) → i < length part → (now : List ℕ) → now ≡ sets l at (take i part)
    → set now (at + i) (get_or part i 0) ≡ sets l at (take (i + 1) part)
put_next l at part i h now e =
    ap (λ (m : List ℕ). set m (at + i) (get_or part i 0)) e
    ∙ ap (λ (k : ℕ). set (sets l at (take i part)) (at + k) (get_or part i 0)) (sym (length-take-le i part (omega arith)))
    ∙ sym (sets_append l at (take i part) (get_or part i 0 ∷ []))
    ∙ ap (sets l at) (sym (take-suc part i 0 h))
    ∙ ap (λ (n : ℕ). sets l at (take n part)) (sym (add-one i))
