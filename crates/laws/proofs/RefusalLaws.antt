-- Laws of `refusal` (specs/Refusal.antt): it is that of the first sentence where that is true, else that of the rest.
-- Assumes nothing.
use mathlib.Core.Path.{◌≡◌, refl, sym, ap, ◌∙◌}
use mathlib.Core.Bool.{Bool, true, false, cond, ◌&&◌}
use mathlib.Core.List.{List, [], ◌∷◌, ◌++◌}
use Prim.Native.Nat.{ℕ, zero, suc, ◌≤◌}
use native.Mathlib.Omega.{arith}
use borrow.Author.Tests.{leb-true, eq-eqb, ne_eqb}
use lib.Dec.{leb, eqb}
use lib.ListN.{drop}
use Rattle.laws.specs.Refusal.{Sentence, refusal}
use Rattle.laws.proofs.Tests.{both_left, both_right}

-- no sentence has the number 0
unfoldable pub numbered : List Sentence → Bool
numbered [] = true
numbered (s ∷ ss) = leb 1 s.number && numbered ss

pub none_left : refusal [] ≡ 0
unfolding refusal
none_left = refl

-- the refusal is that of the sentences after the first n
abbrev pub Past : ℕ → List Sentence → Type 0
Past n ss = refusal ss ≡ refusal (drop n ss)

module _ (s : Sentence) (ss : List Sentence) where
  pub refused : s.holds ≡ true → refusal (s ∷ ss) ≡ s.number
  unfolding refusal
  refused t = ap (λ (h : Bool). cond h s.number (refusal ss)) t

  pub passed : s.holds ≡ false → refusal (s ∷ ss) ≡ refusal ss
  unfolding refusal
  passed f = ap (λ (h : Bool). cond h s.number (refusal ss)) f

abbrev pub NoneTrue : List Sentence → Type 0
NoneTrue [] = Unit
NoneTrue (s ∷ ss) = (s.holds ≡ false) × NoneTrue ss

-- where no number is answered no sentence is true
pub none_true : (ss : List Sentence) → numbered ss ≡ true → refusal ss ≡ 0 → NoneTrue ss
unfolding numbered
none_true [] n e = tt
none_true (s ∷ ss) n e =
    go s.holds refl (leb-true 1 s.number (both_left (leb 1 s.number) (numbered ss) n)) (none_true ss (both_right (leb 1 s.number) (numbered ss) n))
  where
    go : (t : Bool) → s.holds ≡ t → 1 ≤ s.number → (refusal ss ≡ 0 → NoneTrue ss) → (s.holds ≡ false) × NoneTrue ss
    go true q h i = absurd (let n : s.number ≡ 0 = sym (refused s ss q) ∙ e in omega arith)
    go false q h i = (q, i (sym (passed s ss q) ∙ e))

-- of two lists, one after the other: that of the first, unless it is 0
pub refusal_append : (xs ys : List Sentence) → numbered xs ≡ true → refusal (xs ++ ys) ≡ cond (eqb (refusal xs) 0) (refusal ys) (refusal xs)
unfolding refusal numbered
refusal_append [] ys n = refl
refusal_append (x ∷ xs) ys n =
    go x.holds (leb-true 1 x.number (both_left (leb 1 x.number) (numbered xs) n)) (refusal_append xs ys (both_right (leb 1 x.number) (numbered xs) n))
  where
    go : (t : Bool) → 1 ≤ x.number → refusal (xs ++ ys) ≡ cond (eqb (refusal xs) 0) (refusal ys) (refusal xs)
        → cond t x.number (refusal (xs ++ ys)) ≡ cond (eqb (cond t x.number (refusal xs)) 0) (refusal ys) (cond t x.number (refusal xs))
    go true h i = let f : eqb x.number 0 ≡ false = ne_eqb x.number 0 (λ e. omega arith) in rw f
    go false h i = i

module _ (xs ys : List Sentence) (n : numbered xs ≡ true) where
  pub append_refused : (refusal xs ≡ 0 → ⊥) → refusal (xs ++ ys) ≡ refusal xs
  append_refused h = refusal_append xs ys n ∙ ap (λ (t : Bool). cond t (refusal ys) (refusal xs)) (ne_eqb (refusal xs) 0 h)

  pub append_passed : refusal xs ≡ 0 → refusal (xs ++ ys) ≡ refusal ys
  append_passed e = refusal_append xs ys n ∙ ap (λ (t : Bool). cond t (refusal ys) (refusal xs)) (eq-eqb (refusal xs) 0 e)

  -- where neither list is refused the first is not
  pub append_first : refusal (xs ++ ys) ≡ 0 → refusal xs ≡ 0
  append_first e = go (refusal xs) refl
    where
      go : (r : ℕ) → refusal xs ≡ r → r ≡ 0
      go zero p = refl
      go (suc r) p = sym p ∙ sym (append_refused (λ z. omega arith)) ∙ e
