-- The input of the exam sheet (document 01, "The exam sheet"; sentence 18).
-- Assumes nothing.
use Rattle.std.specs.Prelude.{Bool, true, not, cond, ◌&&◌, List, [], ◌∷◌, map, ℕ, suc, ◌+◌, ◌-◌, ◌*◌, ◌^◌, min, ltb, eqb, length, get_or}
use Rattle.laws.specs.Between.{between}
use Rattle.sheet_rules.specs.Limits.{least_numbers, most_numbers}

abbrev pub line_feed : ℕ
line_feed = 10

-- bytes as lines: those that a line feed ends, without it, and what follows the last line feed
pub record Lines : Type 0 where
  pub ended : List (List ℕ)
  pub rest : List ℕ

-- a byte in front of the first line, which may be the one that is not ended
abbrev pub in_front : ℕ → List (List ℕ) → List ℕ → Lines
in_front c [] rest = record { ended = []; rest = c ∷ rest }
in_front c (l ∷ ls) rest = record { ended = (c ∷ l) ∷ ls; rest = rest }

-- an empty line in front of them
abbrev pub line_in_front : Lines → Lines
line_in_front ls = record { ended = [] ∷ ls.ended; rest = ls.rest }

unfoldable pub lines : List ℕ → Lines
lines [] = record { ended = []; rest = [] }
lines (c ∷ cs) = cond (eqb c line_feed) (line_in_front (lines cs)) (in_front c (lines cs).ended (lines cs).rest)

-- every element passes
unfoldable pub every : {A : Type 0} → (A → Bool) → List A → Bool
every p [] = true
every p (x ∷ xs) = p x && every p xs

abbrev pub digit : ℕ → Bool
digit c = between 48 57 c

-- 0 itself may stand
abbrev pub leading_zero : List ℕ → Bool
leading_zero l = eqb (get_or l 0 0) 48 && ltb 1 (length l)

-- the number that decimal digits make after those of n
unfoldable pub value_after : ℕ → List ℕ → ℕ
value_after n [] = n
value_after n (c ∷ cs) = value_after (10 * n + (c - 48)) cs

abbrev pub value : List ℕ → ℕ
value l = value_after 0 l

-- a line is a decimal number without leading zeros, below 4,294,967,296
unfoldable pub numeral : List ℕ → Bool
numeral l = ltb 0 (length l) && every digit l && not (leading_zero l) && ltb (value l) (2 ^ 32)

-- each line is a number and is ended by a line feed
abbrev pub all_numerals : Lines → Bool
all_numerals ls = every numeral ls.ended && eqb (length ls.rest) 0

-- the numbers of the lines
unfoldable pub numbers : List ℕ → List ℕ
numbers input = map value (lines input).ended

-- how many elements pass before the first that does not
unfoldable pub passing : {A : Type 0} → (A → Bool) → List A → ℕ
passing p [] = 0
passing p (x ∷ xs) = cond (p x) (suc (passing p xs)) 0

-- how many lines at the start are numbers that a line feed ends
abbrev pub numeral_lines : List ℕ → ℕ
numeral_lines input = passing numeral (lines input).ended

-- of an input that is not as described, the line where it stops being so, counted from 1: the first that is no number, is not ended or is missing; after
-- as many numbers as there may be, the next one, whatever it holds
abbrev pub fault_line : List ℕ → ℕ
fault_line input = suc (min (numeral_lines input) most_numbers)

unfoldable pub as_described : List ℕ → Bool
as_described input = all_numerals (lines input) && between least_numbers most_numbers (length (numbers input))
