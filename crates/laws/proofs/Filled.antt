-- An array that a loop fills from its first place on: what stands there is what a function gives.
-- Assumes nothing.
use mathlib.Core.Path.{◌≡◌, sym, ◌∙◌}
use mathlib.Core.Logic.{⊎_elim}
use mathlib.Core.List.{List}
use Prim.Native.Nat.{ℕ, suc, ◌<◌}
use native.Mathlib.Nat.{eq-or-lt_of_le, le_of_suc-le-suc}
use native.Mathlib.Omega.{arith}
use lib.ListN.{length, get_or, set, length-set}
use lib.Seq.{get_or-set_same, get_or-set_other, ext_get_or}

-- l has m places, and at each of the first n stands what f gives
pub record Filled (f : ℕ → ℕ) (m n : ℕ) (l : List ℕ) : Type 0 where
  pub len : length l ≡ m
  pub front : (k : ℕ) → k < n → get_or l k 0 ≡ f k

pub filled_none : (f : ℕ → ℕ) (m : ℕ) (l : List ℕ) → length l ≡ m → Filled f m 0 l
filled_none f m l e = record { len = e; front = λ k h. absurd (omega arith) }

pub filled_more : (f : ℕ → ℕ) (m n v : ℕ) (l : List ℕ) → n < m → v ≡ f n → Filled f m n l → Filled f m (suc n) (set l n v)
filled_more f m n v l h e r =
    record {
      len = length-set l n v ∙ r.len;
      front = λ k g. ⊎_elim
          (λ (d : k ≡ n). rw d (get_or-set_same l n v 0 (omega (arith, r.len)) ∙ e))
          (λ (g : k < n). get_or-set_other l n k v 0 (λ d. omega arith) ∙ r.front k g)
          (eq-or-lt_of_le (le_of_suc-le-suc g));
    }

pub filled_all : (f : ℕ → ℕ) (m : ℕ) (l t : List ℕ) → Filled f m m l → length t ≡ m → ((k : ℕ) → k < m → f k ≡ get_or t k 0) → l ≡ t
filled_all f m l t r e h = ext_get_or 0 l t (r.len ∙ sym e) (λ k g. r.front k (omega (arith, r.len)) ∙ h k (omega (arith, r.len)))
