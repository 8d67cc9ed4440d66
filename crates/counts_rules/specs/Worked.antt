-- The starred examples of the codings (document 01, "Examples"), and what its text says of the first classes and of valid codes.
-- Assumes nothing.
use Rattle.std.specs.Prelude.{◌≡◌, true, false, [], ◌∷◌, map, ℕ}
use Rattle.counts_rules.specs.Limit.{countable}
use Rattle.counts_rules.specs.Form.{base, used_class}
use Rattle.counts_rules.specs.Class.{class_of, class_start, class_number}
use Rattle.counts_rules.specs.Total.{total_code, total_number, valid_code}

-- a count, its class and the class's number
pub record ClassExample (v c n : ℕ) : Type 0 where
  pub class : class_of base v ≡ c
  pub number : class_number base c ≡ n

-- a total, its code and the code's number
pub record TotalExample (t c n : ℕ) : Type 0 where
  pub code : total_code t ≡ c
  pub number : total_number c ≡ n

pub record Worked : Type 0 where
  pub count_0 : ClassExample 0 0 0
  pub count_1 : ClassExample 1 1 1
  pub count_2 : ClassExample 2 3 2
  pub count_5 : ClassExample 5 5 4
  pub count_10 : ClassExample 10 7 8
  pub count_11 : ClassExample 11 8 12
  pub count_100 : ClassExample 100 14 93
  pub total_0 : TotalExample 0 0 0
  pub total_127 : TotalExample 127 4064 127
  pub total_128 : TotalExample 128 2049 128
  pub total_1000 : TotalExample 1000 4003 1003
  -- where classes 1 to 10 begin
  pub starts : map (class_start base) (1 ∷ 2 ∷ 3 ∷ 4 ∷ 5 ∷ 6 ∷ 7 ∷ 8 ∷ 9 ∷ 10 ∷ []) ≡ 1 ∷ 2 ∷ 2 ∷ 3 ∷ 4 ∷ 6 ∷ 8 ∷ 11 ∷ 15 ∷ 21 ∷ []
  -- the classes next to those that no count has
  pub used : map used_class (0 ∷ 1 ∷ 2 ∷ 3 ∷ 62 ∷ 63 ∷ []) ≡ true ∷ true ∷ false ∷ true ∷ true ∷ false ∷ []
  -- counts that are coded, on both sides of the bound
  pub coded : map countable (0 ∷ 1 ∷ 1073741823 ∷ 1073741824 ∷ []) ≡ true ∷ true ∷ true ∷ false ∷ []
  -- codes on both sides of each bound: bits 0, 127 and 128; with a shift bits 63 and 64, and shifts 23 and 24
  pub valid : map valid_code (0 ∷ 4064 ∷ 4096 ∷ 2017 ∷ 2049 ∷ 2071 ∷ 2072 ∷ []) ≡ true ∷ true ∷ false ∷ false ∷ true ∷ true ∷ false ∷ []
