-- Laws of `each` and `some` (specs/Each.antt): what they say of a number below n, and what shows them. By induction on n.
-- Assumes nothing.
use mathlib.Core.Path.{◌≡◌, refl, sym, ap, ◌∙◌}
use mathlib.Core.Bool.{Bool, true, false, not, ◌&&◌, ◌||◌, and-true, and_assoc}
use mathlib.Core.Logic.{⊎_elim}
use Prim.Native.Nat.{ℕ, zero, suc, ◌+◌, ◌≤◌, ◌<◌}
use native.Mathlib.Nat.{add-zero, add-suc, eq-or-lt_of_le, le_of_suc-le-suc}
use native.Mathlib.Omega.{arith}
use borrow.Author.Count.{below_more}
use borrow.Author.Tests.{not-true, not-false}
use Rattle.laws.specs.Each.{each, some}
use Rattle.laws.proofs.Tests.{both, both_left, both_right, fails_left, fails_right, not_holds, not_both}

pub each_at : (n : ℕ) (p : ℕ → Bool) → each n p ≡ true → (i : ℕ) → i < n → p i ≡ true
unfolding each
each_at zero p t i h = absurd (omega arith)
each_at (suc n) p t i h =
    ⊎_elim
    (λ (e : i ≡ n). ap p e ∙ both_right (each n p) (p n) t)
    (λ (l : i < n). each_at n p (both_left (each n p) (p n) t) i l)
    (eq-or-lt_of_le (le_of_suc-le-suc h))

pub each_all : (n : ℕ) (p : ℕ → Bool) → ((i : ℕ) → i < n → p i ≡ true) → each n p ≡ true
unfolding each
each_all zero p f = refl
each_all (suc n) p f = both (each n p) (p n) (each_all n p (λ i h. f i (omega arith))) (f n (omega arith))

pub each_fails : (n : ℕ) (p : ℕ → Bool) (i : ℕ) → i < n → p i ≡ false → each n p ≡ false
unfolding each
each_fails zero p i h f = absurd (omega arith)
each_fails (suc n) p i h f =
    ⊎_elim
    (λ (e : i ≡ n). fails_right (each n p) (p n) (ap p (sym e) ∙ f))
    (λ (l : i < n). fails_left (each n p) (p n) (each_fails n p i l f))
    (eq-or-lt_of_le (le_of_suc-le-suc h))

each_same : (n : ℕ) (p q : ℕ → Bool) → ((i : ℕ) → i < n → p i ≡ q i) → each n p ≡ each n q
unfolding each
each_same zero p q h = refl
each_same (suc n) p q h =
    let e = each_same n p q (λ i l. h i (omega arith)) in
    let f = h n (omega arith) in
    λ i. e i && f i

pub some_at : (n : ℕ) (p : ℕ → Bool) (i : ℕ) → i < n → p i ≡ true → some n p ≡ true
unfolding some
some_at n p i h t = not_holds _ (each_fails n (λ j. not (p j)) i h (ap not t))

pub some_none : (n : ℕ) (p : ℕ → Bool) → ((i : ℕ) → i < n → p i ≡ false) → some n p ≡ false
unfolding some
some_none n p f = ap not (each_all n (λ j. not (p j)) (λ i h. not_holds _ (f i h)))

pub none_at : (n : ℕ) (p : ℕ → Bool) → some n p ≡ false → (i : ℕ) → i < n → p i ≡ false
unfolding some
none_at n p f i h = not-true _ (each_at n (λ j. not (p j)) (not-false _ f) i h)

pub some_same : (n : ℕ) (p q : ℕ → Bool) → ((i : ℕ) → i < n → p i ≡ q i) → some n p ≡ some n q
unfolding some
some_same n p q h = ap not (each_same n (λ i. not (p i)) (λ i. not (q i)) (λ i l. ap not (h i l)))

-- the first m numbers and the n after them, or the first and the n after it

each_add : (m n : ℕ) (p : ℕ → Bool) → each (m + n) p ≡ (each m p && each n (λ i. p (m + i)))
unfolding each
each_add m zero p = ap (λ (k : ℕ). each k p) (add-zero m) ∙ sym (and-true (each m p))
each_add m (suc n) p =
    ap (λ (k : ℕ). each k p) (add-suc m n)
    ∙ ap (λ (t : Bool). t && p (m + n)) (each_add m n p)
    ∙ and_assoc (each m p) (each n (λ i. p (m + i))) (p (m + n))

pub each_first : (n : ℕ) (p : ℕ → Bool) → each (suc n) p ≡ (p 0 && each n (λ i. p (suc i)))
unfolding each
each_first zero p = sym (and-true (p 0))
each_first (suc n) p = ap (λ (t : Bool). t && p (suc n)) (each_first n p) ∙ and_assoc (p 0) (each n (λ i. p (suc i))) (p (suc n))

pub some_add : (m n : ℕ) (p : ℕ → Bool) → some (m + n) p ≡ (some m p || some n (λ i. p (m + i)))
unfolding some
some_add m n p = ap not (each_add m n (λ i. not (p i))) ∙ not_both (each m (λ i. not (p i))) (each n (λ i. not (p (m + i))))

-- ---- a loop that looks for the first of n numbers that passes

-- the loop is at b, and has passed over each number before it
pub record NoneBefore (n : ℕ) (p : ℕ → Bool) (b : ℕ) : Type 0 where
  pub within : b ≤ n
  pub fails : (i : ℕ) → i < b → p i ≡ false

module _ (n : ℕ) (p : ℕ → Bool) where
  pub none_yet : NoneBefore n p 0
  none_yet = record { within = omega arith; fails = λ i h. absurd (omega arith) }

  pub none_more : (b : ℕ) → b < n → NoneBefore n p b → p b ≡ false → NoneBefore n p (b + 1)
  none_more b h s f = record { within = omega arith; fails = below_more _ _ s.fails f }

  pub some_found : (b : ℕ) → b < n → p b ≡ true → true ≡ some n p
  some_found b h t = sym (some_at n p b h t)

  pub none_found : (b : ℕ) → n ≤ b → NoneBefore n p b → false ≡ some n p
  none_found b h s = sym (some_none n p (λ i l. s.fails i (omega arith)))

  -- at the last number
  pub last_found : (b : ℕ) → n ≡ b + 1 → NoneBefore n p b → p b ≡ some n p
  last_found b e s = go (p b) refl
    where
      go : (t : Bool) → p b ≡ t → t ≡ some n p
      go true q = some_found b (omega arith) q
      go false q = none_found (b + 1) (omega arith) (none_more b (omega arith) s q)
