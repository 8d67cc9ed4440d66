-- What is claimed of the codings (document 01, "How counts are written small"); proofs/Proved.antt proves it.
-- Assumes nothing.
use Rattle.std.specs.Prelude.{◌≡◌, true, ℕ, ◌+◌, ◌-◌, ◌*◌, ◌/◌, ◌^◌, ◌≤◌, ◌<◌}
use Rattle.laws.specs.Search.{Root}
use Rattle.counts_rules.specs.Limit.{limit}
use Rattle.counts_rules.specs.Form.{base, used_class}
use Rattle.counts_rules.specs.Class.{Class, class_of, class_start, class_number, class_value}
use Rattle.counts_rules.specs.Total.{highest_bit, total_code, total_number, middle, valid_code}

abbrev pub total_value : ℕ → ℕ
total_value t = total_number (total_code t)

pub record Classes : Type 0 where
  -- 0 has class 0, which stands for it, and no other count has it
  pub class_of_0 : class_of base 0 ≡ 0
  pub number_of_0 : class_number base 0 ≡ 0
  pub only_0 : (v : ℕ) → class_of base v ≡ 0 → v ≡ 0
  -- any other count has just one class
  pub has_class_lem : (v : ℕ) → 1 ≤ v → Class base v (class_of base v)
  pub one_class : (v c : ℕ) → Class base v c → class_of base v ≡ c
  -- and it is 0, 1, or 3 to 62
  pub class_used : (v : ℕ) → v ≤ limit → used_class (class_of base v) ≡ true
  -- a class begins at the smallest count that reaches (7/5)^(c-1)
  pub start_reaches : (c : ℕ) → 1 ≤ c → 7 ^ (c - 1) ≤ class_start base c * 5 ^ (c - 1)
  pub start_least : (c v : ℕ) → 1 ≤ c → 7 ^ (c - 1) ≤ v * 5 ^ (c - 1) → class_start base c ≤ v
  -- so none of its counts is smaller
  pub class_starts_lem : (v c : ℕ) → Class base v c → class_start base c ≤ v
  -- its number is the largest whole root
  pub number_rule : (c : ℕ) → 1 ≤ c → Root (7 ^ (2 * c - 1)) (5 ^ (2 * c - 1)) (class_number base c)
  -- and lies in it
  pub number_has_class : (c : ℕ) → used_class c ≡ true → class_of base (class_number base c) ≡ c
  pub number_small : (c : ℕ) → used_class c ≡ true → class_number base c < 2 ^ 31
  -- a count and its class's number are within 5/4 of one another, and no closer bound holds
  pub count_within : (v : ℕ) → v ≤ limit → 4 * v ≤ 5 * class_value v
  pub number_within : (v : ℕ) → v ≤ limit → 4 * class_value v ≤ 5 * v
  pub attained_by_5 : 4 * 5 ≡ 5 * class_value 5
  pub attained_by_10 : 4 * 10 ≡ 5 * class_value 10
  -- the number never falls as the count grows
  pub number_grows : (v w : ℕ) → v ≤ w → class_value v ≤ class_value w

-- bit h is the highest that is set in t
pub record HighestBit (t h : ℕ) : Type 0 where
  pub from : 2 ^ h ≤ t
  pub below : t < 2 ^ (h + 1)

pub record Totals : Type 0 where
  -- a total from 1 up has just one highest set bit
  pub highest_bit_lem : (t : ℕ) → 1 ≤ t → HighestBit t (highest_bit t)
  pub one_highest_bit : (t h : ℕ) → HighestBit t h → highest_bit t ≡ h
  -- 0 has code 0, which stands for it, and no other count has it
  pub code_of_0 : total_code 0 ≡ 0
  pub number_of_0 : total_number 0 ≡ 0
  pub only_0 : (t : ℕ) → t ≤ limit → total_code t ≡ 0 → t ≡ 0
  -- the code of a count is valid
  pub code_valid : (t : ℕ) → t ≤ limit → valid_code (total_code t) ≡ true
  -- the middle is the largest whole number by its rule
  pub middle_within : (s : ℕ) → (middle s + 2 ^ s) * (middle s + 2 ^ s) ≤ 2 ^ (2 * s + 1)
  pub middle_most : (s m : ℕ) → (m + 2 ^ s) * (m + 2 ^ s) ≤ 2 ^ (2 * s + 1) → m ≤ middle s
  -- and for each shift up to 32 the whole part of (√2 - 1) · 2^32, moved right by 32 less the shift; that is a division here, and so 0 for shift 0
  pub middle_moved : (s : ℕ) → s ≤ 32 → 1779033703 / 2 ^ (32 - s) ≡ middle s
  -- the number of a valid code has that code
  pub number_has_code : (c : ℕ) → valid_code c ≡ true → total_code (total_number c) ≡ c
  pub number_small : (c : ℕ) → valid_code c ≡ true → total_number c < 2 ^ 31
  -- a total and its code's number are within 65/64 of one another, which is below 11/10
  pub count_within : (t : ℕ) → t ≤ limit → 64 * t ≤ 65 * total_value t
  pub number_within : (t : ℕ) → t ≤ limit → 64 * total_value t ≤ 65 * t
  pub below_11/10 : 65 * 10 ≤ 64 * 11
  -- the number never falls as the total grows
  pub number_grows : (t u : ℕ) → t ≤ u → u ≤ limit → total_value t ≤ total_value u
