-- Total codes, 12 bits wide (document 01, "How counts are written small", its second paragraph).
-- Assumes nothing.
use Rattle.std.specs.Prelude.{Bool, cond, ◌&&◌, ◌||◌, ℕ, suc, ◌+◌, ◌-◌, ◌*◌, ◌/◌, ◌%◌, ◌^◌, leb, ltb, eqb}
use Rattle.laws.specs.Search.{first, largest}

-- the place of the highest set bit, counted from 0 (claims highest_bit_lem, one_highest_bit)
unfoldable pub highest_bit : ℕ → ℕ
highest_bit t = first (λ k. ltb t (2 ^ suc k)) t 0

unfoldable pub shift : ℕ → ℕ
shift t = cond (ltb t 128) 0 (highest_bit t - 6)

unfoldable pub bits : ℕ → ℕ
bits t = t / 2 ^ shift t

unfoldable pub total_code : ℕ → ℕ
total_code t = bits t * 32 + shift t

-- the two fields of a code
abbrev pub code_bits : ℕ → ℕ
code_bits c = c / 32

abbrev pub code_shift : ℕ → ℕ
code_shift c = c % 32

-- the largest whole m for which (m + 2^s) squared is at most 2^(2s+1) (claims middle_within, middle_most); for shift 0 that is 0
unfoldable pub middle : ℕ → ℕ
middle s = largest (λ m. leb ((m + 2 ^ s) * (m + 2 ^ s)) (2 ^ (2 * s + 1))) (2 ^ s)

-- the number that a total code stands for
unfoldable pub total_number : ℕ → ℕ
total_number c = code_bits c * 2 ^ code_shift c + middle (code_shift c)

-- shift 0 with bits up to 127, or shift 1 to 23 with bits 64 to 127; where code 0 may stand is said of a bucket (sentence 12)
unfoldable pub valid_fields : ℕ → ℕ → Bool
valid_fields b s = eqb s 0 && leb b 127 || (leb 1 s && leb s 23) && (leb 64 b && leb b 127)

abbrev pub valid_code : ℕ → Bool
valid_code c = valid_fields (code_bits c) (code_shift c)
