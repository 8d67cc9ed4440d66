-- The first number that passes a test, the largest up to which all pass, what halving comes to, and the whole square root of a fraction.
-- Assumes nothing.
use Rattle.std.specs.Prelude.{Bool, true, false, cond, not, ℕ, zero, suc, ◌+◌, ◌-◌, ◌*◌, ◌/◌, ◌≤◌, leb, ltb}

-- n if it passed, else what the rest finds from n + 1 on. The rest is a function, so that it is computed only where it is needed.
abbrev pub or_after : Bool → ℕ → (ℕ → ℕ) → ℕ
or_after true n rest = n
or_after false n rest = rest (suc n)

-- the first of the k numbers from n on that passes the test, and n + k if none does
unfoldable pub first : (ℕ → Bool) → ℕ → ℕ → ℕ
first p zero n = n
first p (suc k) n = or_after (p n) n (first p k)

-- the largest number, at most k, such that each from 1 to it passes: of a test that stays failed, the largest that passes
unfoldable pub largest : (ℕ → Bool) → ℕ → ℕ
largest p k = first (λ n. not (p (suc n))) k 0

-- what halving comes to from low and high, by n turns at most: low if none lies between them, else it goes on from the middle if that passes, or up
-- to it
unfoldable pub halved : (ℕ → Bool) → ℕ → ℕ → ℕ → ℕ
halved p zero low high = low
halved p (suc n) low high =
    let middle = low + (high - low) / 2 in
    cond (ltb (low + 1) high) (cond (p middle) (halved p n middle high) (halved p n low middle)) low

-- r is the largest whole number whose square is at most x / y
pub record Root (x y r : ℕ) : Type 0 where
  pub within : r * r * y ≤ x
  pub most : (s : ℕ) → s * s * y ≤ x → s ≤ r

-- that number, for y above 0; claim number_rule of counts_rules states it as a Root
unfoldable pub root : ℕ → ℕ → ℕ
root x y = largest (λ r. leb (r * r * y) x) x
