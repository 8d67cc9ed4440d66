-- The words of the private contracts of a line.
-- Assumes nothing.
use Rattle.std.specs.Prelude.{◌≡◌, cond, ◌&&◌, List, ◌∷◌, ℕ, suc, ◌^◌, ◌<◌, ltb, length, Option, None, Some}
use Rattle.std.specs.Option.{MatchOption}
use denote.Ref.{Bor}
use Rattle.sheet_rules.specs.Input.{digit, value, numeral, lines, all_numerals, numbers, numeral_lines}

-- a number that a byte has made
abbrev pub small_number : ℕ → ℕ → Option ℕ
small_number c n = cond (digit c && ltb n (2 ^ 32)) (Some n) None

unfoldable pub number_of : List ℕ → Option ℕ
number_of l = cond (numeral l) (Some (value l)) None

-- the bytes begin with a number, and go on with others
pub record Stepped (input : List ℕ) (number : ℕ) (next : List ℕ) : Type 0 where
  pub shorter : length next < length input
  pub numerals : all_numerals (lines input) ≡ all_numerals (lines next)
  pub values : numbers input ≡ number ∷ numbers next
  pub passed : numeral_lines input ≡ suc (numeral_lines next)

abbrev pub FirstNumber : List ℕ → Option (ℕ × Bor (List ℕ)) → Type 0
FirstNumber input r = MatchOption r (numeral_lines input ≡ 0) (λ p. Stepped input p.0 p.1.now)
