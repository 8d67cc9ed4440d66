-- Laws of decimal text: how many digits a number has, and that a number and its digits give each other back.
-- Assumes nothing.
use mathlib.Core.Path.{◌≡◌, refl, sym, ap, ◌∙◌}
use mathlib.Core.Bool.{true, false}
use mathlib.Core.List.{List, [], ◌∷◌, ◌++◌, append-nil}
use mathlib.Core.Logic.{⊎_elim}
use Prim.Native.Nat.{ℕ, zero, suc, ◌+◌, ◌-◌, ◌*◌, ◌/◌, ◌%◌, ◌^◌, ◌≤◌, ◌<◌}
use native.Mathlib.Nat.{le_trans, not-le_of_lt, add-zero, zero-add, pow-succ', pow-le-pow_right}
use native.Mathlib.Omega.{arith}
use lib.Dec.{ltb, eqb}
use lib.ListN.{length, get_or, length-append, get_or-append}
use lib.Seq.{append_snoc}
use borrow.Author.Tests.{ltb-true, ltb-false, lt-ltb, le-ltb, ne_eqb}
use Rattle.laws.proofs.Tests.{both_left, both_right, fails_left, fails_right, tested}
use Rattle.laws.proofs.SearchLaws.{Found, first_is, first_unique}
use Rattle.laws.proofs.BetweenLaws.{within, is_within}
use Rattle.sheet_rules.specs.Text.{digit_byte, digits, places, decimal}
use Rattle.sheet_rules.specs.Input.{every, digit, leading_zero, value_after, value, numeral}
use Rattle.sheet_rules.proofs.InputLaws.{every_both, every_one, value_snoc, value_most, Numeral, is_numeral, numeral_is, numeral_least}

-- ---- how many digits

fewer_than_power : (n : ℕ) → n < 10 ^ n
fewer_than_power zero = omega arith
fewer_than_power (suc n) = omega (arith, fewer_than_power n, pow-succ' 10 n)

places_found : (n : ℕ) → Found (λ k. ltb n (10 ^ k)) n 1 (places n)
unfolding places
places_found n = first_is (λ k. ltb n (10 ^ k)) n 1

pub places_some : (n : ℕ) → 1 ≤ places n
places_some n = (places_found n).from

-- n has no more digits than that
pub below_power : (n : ℕ) → n < 10 ^ places n
below_power n = ⊎_elim (λ (t : ltb (places n) (1 + n) ≡ true). ltb-true n (10 ^ places n) ((places_found n).passes (ltb-true (places n) (1 + n) t))) last (tested (ltb (places n) (1 + n)))
  where
    last : ltb (places n) (1 + n) ≡ false → n < 10 ^ places n
    last t =
        let all : suc n ≡ places n = omega (arith, ltb-false (places n) (1 + n) t, (places_found n).within) in
        omega (arith, fewer_than_power (suc n), ap (λ (k : ℕ). 10 ^ k) all)

-- and no more than k if it is below that power
pub places_few : (n k : ℕ) → 1 ≤ k → n < 10 ^ k → places n ≤ k
places_few n k o h =
    let over : k < places n → ⊥ = λ l. not-le_of_lt h (ltb-false n (10 ^ k) ((places_found n).before k o l)) in omega (arith, over)

pub reaches_power : (n : ℕ) → 1 < places n → 10 ^ (places n - 1) ≤ n
reaches_power n h = ltb-false n (10 ^ (places n - 1)) ((places_found n).before (places n - 1) (omega arith) (omega arith))

-- ---- digits

pub digits_length : (k n : ℕ) → length (digits k n) ≡ k
unfolding digits
digits_length zero n = refl
digits_length (suc k) n = omega (arith, length-append (digits k (n / 10)) (digit_byte (n % 10) ∷ []), digits_length k (n / 10))

pub decimal_length : (n : ℕ) → length (decimal n) ≡ places n
decimal_length n = digits_length (places n) n

digits_all : (k n : ℕ) → every digit (digits k n) ≡ true
unfolding digits every
digits_all zero n = refl
digits_all (suc k) n =
    every_both digit (digits k (n / 10)) (digit_byte (n % 10) ∷ []) (digits_all k (n / 10))
    (every_one digit (digit_byte (n % 10)) (is_within 48 57 (digit_byte (n % 10)) (record { least = omega arith; most = omega arith })))

digits_value : (k n : ℕ) → n < 10 ^ k → value (digits k n) ≡ n
unfolding digits value_after
digits_value zero n h = omega arith
digits_value (suc k) n h =
    value_snoc (digits k (n / 10)) (digit_byte (n % 10)) ∙ omega (arith, digits_value k (n / 10) (omega (arith, h, pow-succ' 10 k)))

-- the first digit is not 0 where the number reaches its place
digits_first : (k n : ℕ) → 10 ^ k ≤ n → n < 10 ^ suc k → 48 < get_or (digits (suc k) n) 0 0
unfolding digits
digits_first zero n l m = omega arith
digits_first (suc k) n l m =
    let front = digits_first k (n / 10) (omega (arith, l, pow-succ' 10 k)) (omega (arith, m, pow-succ' 10 (suc k))) in
    let kept = get_or-append (digits (suc k) (n / 10)) (digit_byte (n % 10) ∷ []) 0 0 (omega (arith, digits_length (suc k) (n / 10))) in
    omega (arith, front, kept)

pub decimal_value : (n : ℕ) → value (decimal n) ≡ n
decimal_value n = digits_value (places n) n (below_power n)

decimal_plain : (n : ℕ) → leading_zero (decimal n) ≡ false
decimal_plain n = ⊎_elim several single (tested (ltb 1 (places n)))
  where
    several : ltb 1 (places n) ≡ true → leading_zero (decimal n) ≡ false
    several t =
        let more : 1 < places n = ltb-true 1 (places n) t in
        let one_more : suc (places n - 1) ≡ places n = omega (arith, more) in
        let first = digits_first (places n - 1) n (reaches_power n more) (omega (arith, below_power n, ap (λ (k : ℕ). 10 ^ k) one_more)) in
        let kept = ap (λ (k : ℕ). get_or (digits k n) 0 0) one_more in
        fails_left (eqb (get_or (decimal n) 0 0) 48) (ltb 1 (length (decimal n))) (ne_eqb (get_or (decimal n) 0 0) 48 (λ e. omega (arith, first, kept, e)))

    single : ltb 1 (places n) ≡ false → leading_zero (decimal n) ≡ false
    single t = fails_right (eqb (get_or (decimal n) 0 0) 48) (ltb 1 (length (decimal n))) (ap (λ (k : ℕ). ltb 1 k) (decimal_length n) ∙ t)

pub decimal_numeral : (n : ℕ) → n < 2 ^ 32 → numeral (decimal n) ≡ true
decimal_numeral n h =
    is_numeral (decimal n)
    (record {
      some = omega (arith, decimal_length n, places_some n);
      digits = digits_all (places n) n;
      plain = decimal_plain n;
      small = omega (arith, decimal_value n);
    })

-- ---- the digits of a value are those it was read from

digits_back : (k n : ℕ) (l : List ℕ) → every digit l ≡ true → digits (k + length l) (value_after n l) ≡ digits k n ++ l
unfolding every digits value_after
digits_back k n [] h = ap (λ (j : ℕ). digits j n) (add-zero k) ∙ sym (append-nil (digits k n))
digits_back k n (c ∷ l) h =
    let d = within 48 57 c (both_left (digit c) (every digit l) h) in
    let upper : (10 * n + (c - 48)) / 10 ≡ n = omega (arith, d.least, d.most) in
    let moved : k + length (c ∷ l) ≡ suc k + length l = omega arith in
    let lower : digit_byte ((10 * n + (c - 48)) % 10) ≡ c = omega (arith, d.least, d.most) in
    ap (λ (j : ℕ). digits j (value_after (10 * n + (c - 48)) l)) moved
    ∙ digits_back (suc k) (10 * n + (c - 48)) l (both_right (digit c) (every digit l) h)
    ∙ ap (λ (j : ℕ). digits k j ++ (digit_byte ((10 * n + (c - 48)) % 10) ∷ []) ++ l) upper
    ∙ ap (λ (j : ℕ). digits k n ++ (j ∷ []) ++ l) lower
    ∙ append_snoc (digits k n) c l

places_value : (l : List ℕ) → numeral l ≡ true → places (value l) ≡ length l
unfolding places
places_value l n =
    first_unique (λ k. ltb (value l) (10 ^ k)) (value l) 1 (length l)
    (record {
      from = m.some;
      within = ⊎_elim several (λ t. omega (arith, ltb-false 1 (length l) t)) (tested (ltb 1 (length l)));
      before = λ k g h. le-ltb (value l) (10 ^ k)
          (le_trans (pow-le-pow_right {n = 10} (omega arith) {i = k} {j = length l - 1} (omega arith)) (numeral_least l n (omega arith)));
      passes = λ _. lt-ltb (value l) (10 ^ length l) (omega (arith, value_most 0 l m.digits));
    })
  where
    m : Numeral l
    m = numeral_is l n

    several : ltb 1 (length l) ≡ true → length l ≤ 1 + value l
    several t = let more = ltb-true 1 (length l) t in omega (arith, more, numeral_least l n more, fewer_than_power (length l - 1))

pub value_decimal : (l : List ℕ) → numeral l ≡ true → decimal (value l) ≡ l
unfolding digits
value_decimal l n =
    ap (λ (k : ℕ). digits k (value l)) (places_value l n ∙ sym (zero-add (length l))) ∙ digits_back 0 0 l (numeral_is l n).digits
