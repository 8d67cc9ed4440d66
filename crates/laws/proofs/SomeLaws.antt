-- What `any` finds in a list, or in two lists side by side, is what `some` finds among the places. By induction on the lists.
-- Assumes nothing.
use Rattle.std.proofs.Common.{◌≡◌, refl, sym, ap, ◌∙◌, Bool, true, false, not, ◌&&◌, ◌||◌, List, [], ◌∷◌, length, get_or, ℕ, suc, arith}
use Rattle.std.specs.List.{list_any, zip}
use Rattle.laws.specs.Each.{each, some}
use Rattle.laws.proofs.EachLaws.{each_first}

not_first : (a b : Bool) → not (not a && b) ≡ (a || not b)
not_first true b = refl
not_first false b = refl

some_first : (n : ℕ) (p : ℕ → Bool) → some (suc n) p ≡ (p 0 || some n (λ i. p (suc i)))
unfolding some
some_first n p = ap not (each_first n (λ i. not (p i))) ∙ not_first (p 0) (each n (λ i. not (p (suc i))))

pub any_is_some : (p : ℕ → Bool) (n : ℕ) (xs : List ℕ) → length xs ≡ n → list_any p xs ≡ some n (λ k. p (get_or xs k 0))
unfolding some each
any_is_some p n xs e = go xs ∙ ap (λ (m : ℕ). some m (λ k. p (get_or xs k 0))) e
  where
    go : (ys : List ℕ) → list_any p ys ≡ some (length ys) (λ k. p (get_or ys k 0))
    go [] = refl
    go (y ∷ ys) = ap (λ (t : Bool). p y || t) (go ys) ∙ sym (some_first (length ys) (λ k. p (get_or (y ∷ ys) k 0)))

pub any_of_two : (p : ℕ → ℕ → Bool) (n : ℕ) (xs ys : List ℕ)
    → length xs ≡ n → length ys ≡ n → list_any (λ w. p w.0 w.1) (zip xs ys) ≡ some n (λ k. p (get_or xs k 0) (get_or ys k 0))
unfolding some each
any_of_two p n [] ys h g = ap (λ (m : ℕ). some m (λ k. p 0 (get_or ys k 0))) h
any_of_two p n (x ∷ xs) [] h g = absurd (omega (arith, h, g))
any_of_two p n (x ∷ xs) (y ∷ ys) h g =
    ap (λ (t : Bool). p x y || t) (any_of_two p (length xs) xs ys refl (omega (arith, h, g)))
    ∙ sym (some_first (length xs) (λ k. p (get_or (x ∷ xs) k 0) (get_or (y ∷ ys) k 0)))
    ∙ ap (λ (m : ℕ). some m (λ k. p (get_or (x ∷ xs) k 0) (get_or (y ∷ ys) k 0))) h
