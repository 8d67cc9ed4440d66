-- Laws of lists by their elements (specs/Tabulate.antt), and of a loop that writes such a list into the first places of another.
-- Assumes nothing.
use mathlib.Core.Path.{◌≡◌, refl, sym, ap, ◌∙◌}
use mathlib.Core.List.{List, [], ◌∷◌, ◌++◌}
use Prim.Native.Nat.{ℕ, zero, suc, ◌+◌, ◌*◌, ◌≤◌, ◌<◌}
use native.Mathlib.Numerals.{add-one}
use native.Mathlib.Omega.{arith}
use lib.ListN.{length, get_or, set, drop}
use lib.Seq.{drop-cons, append_snoc, set_at}
use Rattle.laws.specs.Sums.{sum}
use Rattle.laws.specs.Tabulate.{tabulate}
use Rattle.laws.proofs.SumsLaws.{sum_append}

tabulated : (l : List ℕ) → l ≡ tabulate (length l) (λ i. get_or l i 0)
tabulated [] = refl
tabulated (x ∷ xs) = ap (λ (t : List ℕ). x ∷ t) (tabulated xs)

pub by_elements : (n : ℕ) (l : List ℕ) → length l ≡ n → l ≡ tabulate n (λ i. get_or l i 0)
by_elements n l h = tabulated l ∙ ap (λ (m : ℕ). tabulate m (λ i. get_or l i 0)) h

pub length_tabulate : (n : ℕ) (f : ℕ → ℕ) → length (tabulate n f) ≡ n
length_tabulate zero f = refl
length_tabulate (suc n) f = ap suc (length_tabulate n (λ i. f (suc i)))

pub get_d_tabulate : (n : ℕ) (f : ℕ → ℕ) (i : ℕ) → i < n → get_or (tabulate n f) i 0 ≡ f i
get_d_tabulate zero f i h = absurd (omega arith)
get_d_tabulate (suc n) f zero h = refl
get_d_tabulate (suc n) f (suc i) h = get_d_tabulate n (λ i. f (suc i)) i (omega arith)

-- one element more
tabulate_suc : (n : ℕ) (f : ℕ → ℕ) → tabulate (suc n) f ≡ tabulate n f ++ (f n ∷ [])
tabulate_suc zero f = refl
tabulate_suc (suc n) f = ap (λ (t : List ℕ). f 0 ∷ t) (tabulate_suc n (λ i. f (suc i)))

pub tabulate_same : (n : ℕ) (f g : ℕ → ℕ) → ((i : ℕ) → i < n → f i ≡ g i) → tabulate n f ≡ tabulate n g
tabulate_same zero f g h = refl
tabulate_same (suc n) f g h =
    let e = h 0 (omega arith) in
    let r = tabulate_same n (λ i. f (suc i)) (λ i. g (suc i)) (λ i l. h (suc i) (omega arith)) in
    λ i. e i ∷ r i

-- ---- sums

pub sum_suc : (n : ℕ) (f : ℕ → ℕ) → sum (tabulate (suc n) f) ≡ sum (tabulate n f) + f n
sum_suc n f = ap sum (tabulate_suc n f) ∙ sum_append (tabulate n f) (f n ∷ []) ∙ omega arith

-- what bounds each element bounds the sum
pub sums_within : (n a b c : ℕ) (f g : ℕ → ℕ) → ((i : ℕ) → i < n → a * f i ≤ b * g i + c) → a * sum (tabulate n f) ≤ b * sum (tabulate n g) + n * c
sums_within zero a b c f g h = omega arith
sums_within (suc n) a b c f g h =
    omega (arith, h 0 (omega arith), sums_within n a b c (λ i. f (suc i)) (λ i. g (suc i)) (λ i l. h (suc i) (omega arith)))

-- ---- a loop that writes n elements into the first places of a list

-- k of them are written
pub record Written (n : ℕ) (f : ℕ → ℕ) (old : List ℕ) (k : ℕ) (new : List ℕ) : Type 0 where
  pub within : k ≤ n
  pub so_far : new ≡ tabulate k f ++ drop k old

module _ (n : ℕ) (f : ℕ → ℕ) (old : List ℕ) (room : n ≤ length old) where
  pub none_written : Written n f old 0 old
  none_written = record { within = omega arith; so_far = refl }

  module _ (k : ℕ) (new : List ℕ) (w : Written n f old k new) where
    pub one_written : (v : ℕ) → k < n → v ≡ f k → Written n f old (k + 1) (set new k v)
    one_written v h e =
        record {
          within = omega arith;
          so_far =
              ap (λ (l : List ℕ). set l k v) w.so_far
              ∙ ap (λ (l : List ℕ). set (tabulate k f ++ l) k v) (drop-cons old k 0 (omega arith))
              ∙ set_at (tabulate k f) (get_or old k 0) (drop (suc k) old) v k (length_tabulate k f)
              ∙ ap (λ (x : ℕ). tabulate k f ++ x ∷ drop (suc k) old) e
              ∙ step
              ∙ ap (λ (m : ℕ). tabulate m f ++ drop m old) (sym (add-one k));
        }
      where
        step : tabulate k f ++ f k ∷ drop (suc k) old ≡ tabulate (suc k) f ++ drop (suc k) old
        step = sym (append_snoc (tabulate k f) (f k) (drop (suc k) old)) ∙ ap (λ (l : List ℕ). l ++ drop (suc k) old) (sym (tabulate_suc k f))

    pub all_written : n ≤ k → new ≡ tabulate n f ++ drop n old
    all_written h = w.so_far ∙ ap (λ (m : ℕ). tabulate m f ++ drop m old) {x = k} {y = n} (let i = w.within in omega arith)
