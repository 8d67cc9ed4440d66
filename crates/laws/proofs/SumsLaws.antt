-- Laws of sums (specs/Sums.antt). An element is `get_or xs i 0`, which is 0 past the end, so most laws ask no bound on an index.
-- Assumes nothing.
use mathlib.Core.Path.{◌≡◌, refl, ap, ◌∙◌}
use mathlib.Core.Logic.{⊎_elim}
use mathlib.Core.List.{List, [], ◌∷◌, ◌++◌}
use Prim.Native.Nat.{ℕ, zero, suc, ◌+◌, ◌*◌, ◌≤◌, ◌<◌, zero-le}
use native.Mathlib.Nat.{le_of_eq, le_of_suc-le-suc, eq-or-lt_of_le}
use native.Mathlib.Numerals.{add-one}
use native.Mathlib.Omega.{arith}
use lib.ListN.{length, get_or, take, drop}
use lib.Seq.{take_all, take-nil, take-add, drop-drop, get_or-drop}
use Rattle.std.specs.Prelude.{sum_by}
use Rattle.std.proofs.lemmas.List.Sums.{sum_by-cons}
use Rattle.laws.specs.Sums.{sum, prefix_sum, part_sum}

-- the library's sum, as an iterator ends in it
pub sum_is_by : (xs : List ℕ) → sum_by (λ (n : ℕ). n) xs ≡ sum xs
sum_is_by [] = refl
sum_is_by (x ∷ xs) = sum_by-cons (λ (n : ℕ). n) x xs ∙ ap (λ (n : ℕ). x + n) (sum_is_by xs)

pub sum_append : (xs ys : List ℕ) → sum (xs ++ ys) ≡ sum xs + sum ys
sum_append [] ys = omega arith
sum_append (x ∷ xs) ys = omega (arith, sum_append xs ys)

pub get_d_le_sum : (xs : List ℕ) (i : ℕ) → get_or xs i 0 ≤ sum xs
get_d_le_sum [] i = zero-le
get_d_le_sum (x ∷ xs) zero = omega arith
get_d_le_sum (x ∷ xs) (suc i) = omega (arith, get_d_le_sum xs i)

-- one element more
pub prefix_suc : (n : ℕ) (xs : List ℕ) → prefix_sum (suc n) xs ≡ prefix_sum n xs + get_or xs n 0
prefix_suc zero [] = refl
prefix_suc (suc n) [] = refl
prefix_suc zero (x ∷ xs) = omega arith
prefix_suc (suc n) (x ∷ xs) = omega (arith, prefix_suc n xs)

pub prefix_mono : (m n : ℕ) (xs : List ℕ) → m ≤ n → prefix_sum m xs ≤ prefix_sum n xs
prefix_mono m zero xs h = let e : m ≡ 0 = omega arith in rw e (omega arith)
prefix_mono m (suc n) xs h =
    ⊎_elim
    (λ (e : m ≡ suc n). le_of_eq (ap (λ (k : ℕ). prefix_sum k xs) e))
    (λ (l : m < suc n). omega (arith, prefix_suc n xs, prefix_mono m n xs (le_of_suc-le-suc l)))
    (eq-or-lt_of_le h)

pub prefix_all : (n : ℕ) (xs : List ℕ) → length xs ≤ n → prefix_sum n xs ≡ sum xs
prefix_all n xs h = ap sum (take_all n xs h)

-- ---- a part of the list

-- a part of n + m is a part of n and then one of m
pub part_add : (i n m : ℕ) (xs : List ℕ) → part_sum i (n + m) xs ≡ part_sum i n xs + part_sum (i + n) m xs
part_add i n m xs =
    ap sum (take-add n m (drop i xs))
    ∙ sum_append (take n (drop i xs)) (take m (drop n (drop i xs)))
    ∙ ap (λ (ys : List ℕ). part_sum i n xs + sum (take m ys)) (drop-drop n i xs)

pub part_suc : (i n : ℕ) (xs : List ℕ) → part_sum i (suc n) xs ≡ part_sum i n xs + get_or xs (i + n) 0
part_suc i n xs = prefix_suc n (drop i xs) ∙ ap (λ (a : ℕ). part_sum i n xs + a) (get_or-drop i xs n 0)

-- the same with the entry and its place as they are in hand
pub part_next : (i n j v s : ℕ) (xs : List ℕ) → j ≡ i + n → v ≡ get_or xs j 0 → s ≡ part_sum i n xs → s + v ≡ part_sum i (suc n) xs
part_next i n j v s xs e f g = let h : v ≡ get_or xs (i + n) 0 = f ∙ ap (λ (k : ℕ). get_or xs k 0) e in omega (arith, part_suc i n xs)

pub part_cons : (i n : ℕ) (xs : List ℕ) → part_sum i (suc n) xs ≡ get_or xs i 0 + part_sum (suc i) n xs
part_cons zero n [] = omega (arith, ap sum (take-nil {A = ℕ} n))
part_cons (suc i) n [] = omega (arith, ap sum (take-nil {A = ℕ} n))
part_cons zero n (x ∷ xs) = refl
part_cons (suc i) n (x ∷ xs) = part_cons i n xs

pub part_prefix : (i n : ℕ) (xs : List ℕ) → prefix_sum i xs + part_sum i n xs ≡ prefix_sum (i + n) xs
part_prefix i n xs = let e : part_sum 0 (i + n) xs ≡ part_sum 0 i xs + part_sum (0 + i) n xs = part_add 0 i n xs in let z : 0 + i ≡ i = omega arith in omega (arith, rw z at e)

-- a part within a part
pub part_within : (i n j m : ℕ) (xs : List ℕ) → i ≤ j → j + m ≤ i + n → part_sum j m xs ≤ part_sum i n xs
part_within i n j m xs h k =
    omega (arith, part_prefix i n xs, part_prefix j m xs, prefix_mono i j xs h, prefix_mono (j + m) (i + n) xs k)

pub part_le : (i n : ℕ) (xs : List ℕ) → part_sum i n xs ≤ sum xs
part_le i n xs =
    omega (arith, part_prefix i n xs, prefix_mono (i + n) (i + n + length xs) xs (omega arith), prefix_all (i + n + length xs) xs (omega arith))

-- the sum of n numbers that are each below m
pub part_below : (i n m : ℕ) (xs : List ℕ) → ((k : ℕ) → get_or xs k 0 < m) → part_sum i n xs ≤ m * n
part_below i zero m xs b = omega arith
part_below i (suc n) m xs b = omega (arith, part_suc i n xs, part_below i n m xs b, b (i + n))

-- ---- a loop that adds up the n numbers from place i on

-- s is the sum of the first k of them
pub record Added (i n : ℕ) (xs : List ℕ) (k s : ℕ) : Type 0 where
  pub within : k ≤ n
  pub so_far : s ≡ part_sum i k xs

module _ (i n : ℕ) (xs : List ℕ) where
  pub none_added : Added i n xs 0 0
  none_added = record { within = omega arith; so_far = refl }

  pub one_added : (k j s v : ℕ) → k < n → j ≡ i + k → v ≡ get_or xs j 0 → Added i n xs k s → Added i n xs (k + 1) (s + v)
  one_added k j s v h e f a = record { within = omega arith; so_far = rw (add-one k) (part_next i k j v s xs e f a.so_far) }

  pub all_added : (k s : ℕ) → n ≤ k → Added i n xs k s → s ≡ part_sum i n xs
  all_added k s h a = a.so_far ∙ ap (λ (m : ℕ). part_sum i m xs) {x = k} {y = n} (let w = a.within in omega arith)

  pub added_le : (k s : ℕ) → Added i n xs k s → s ≤ sum xs
  added_le k s a = omega (arith, a.so_far, part_le i k xs)
