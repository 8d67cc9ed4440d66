-- Laws of the digits of a number: how many it has, and the last ones, put from the right.
-- Assumes nothing.
use mathlib.Core.Path.{◌≡◌, sym, ap, ◌∙◌}
use mathlib.Core.List.{List, [], ◌∷◌, ◌++◌, append_assoc}
use Prim.Native.Nat.{ℕ, suc, max, ◌+◌, ◌-◌, ◌*◌, ◌/◌, ◌%◌, ◌^◌, ◌≤◌, ◌<◌}
use native.Mathlib.Nat.{pow-succ', pow-le-pow_right}
use native.Mathlib.Numerals.{add-one}
use native.Mathlib.Omega.{arith}
use lib.ListN.{length, set, drop, length-set}
use lib.Seq.{drop-cons, drop-set-lt, get_or-set_same}
use Rattle.sheet_rules.specs.Limits.{max_digits}
use Rattle.sheet_rules.specs.Text.{digit_byte, digits, places}
use Rattle.sheet_rules.proofs.TextLaws.{places_some, places_few, below_power}

-- by the power of ten that it reaches; 0 has one digit as 1 has
pub places_is : (n k : ℕ) → 10 ^ k ≤ max n 1 → max n 1 < 10 * 10 ^ k → k + 1 ≡ places n
places_is n k least most =
    let few : places n ≤ k + 1 = places_few n (k + 1) (omega arith) (omega (arith, ap (λ (j : ℕ). 10 ^ j) (add-one k), pow-succ' 10 k)) in
    let under : places n ≤ k → ⊥ =
    λ h. omega (arith, below_power n, least, pow-le-pow_right {n = 10} (omega arith) {i = places n} {j = k} h, pow-le-pow_right {n = 10} (omega arith) {i = 1} {j = k} (omega (arith, h, places_some n))) in
    omega (arith, few, under)

-- the last of k digits is put, and those before it are left to put
one_put : (k n : ℕ) (l : List ℕ) → k < length l → digits k (n / 10) ++ drop k (set l k (digit_byte (n % 10))) ≡ digits (suc k) n ++ drop (suc k) l
unfolding digits
one_put k n l h =
    ap (λ (r : List ℕ). digits k (n / 10) ++ r)
    (drop-cons (set l k (digit_byte (n % 10))) k 0 (omega (arith, length-set l k (digit_byte (n % 10))))
    ∙ (λ i. get_or-set_same l k (digit_byte (n % 10)) 0 h i ∷ drop-set-lt (suc k) l k (digit_byte (n % 10)) (omega arith) i))
    ∙ sym (append_assoc (digits k (n / 10)) (digit_byte (n % 10) ∷ []) (drop (suc k) l))

pub digit_put : (k n : ℕ) (l : List ℕ) → 0 < k → k ≤ length l → digits (k - 1) (n / 10) ++ drop (k - 1) (set l (k - 1) (digit_byte (n % 10))) ≡ digits k n ++ drop k l
digit_put k n l some h =
    let one : suc (k - 1) ≡ k = omega arith in
    one_put (k - 1) n l (omega arith) ∙ ap (λ (j : ℕ). digits j n ++ drop j l) one

pub all_put : (k n : ℕ) (l : List ℕ) → k ≡ 0 → l ≡ digits k n ++ drop k l
unfolding digits
all_put k n l e = sym (ap (λ (j : ℕ). digits j n ++ drop j l) e)

-- a number of 32 bits has at most ten digits
pub places_32 : (n : ℕ) → n < 2 ^ 32 → places n ≤ max_digits
places_32 n h = places_few n max_digits (omega arith) (omega arith)
