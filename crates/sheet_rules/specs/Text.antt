-- Numbers and words as bytes.
-- Assumes nothing.
use Rattle.std.specs.Prelude.{List, [], ◌∷◌, ◌++◌, ℕ, zero, suc, ◌+◌, ◌/◌, ◌%◌, ◌^◌, ltb}
use Prim.Native.Char.{code}
use Prim.Native.String.{String, [] as empty, ◌∷◌ as after}
use Rattle.laws.specs.Search.{first}

-- the bytes of a word
abbrev pub ascii : String → List ℕ
ascii empty = []
ascii (after c s) = code c ∷ ascii s

-- the byte of a digit
abbrev pub digit_byte : ℕ → ℕ
digit_byte d = 48 + d

-- the last k digits of n
unfoldable pub digits : ℕ → ℕ → List ℕ
digits zero n = []
digits (suc k) n = digits k (n / 10) ++ (digit_byte (n % 10) ∷ [])

-- how many digits n has: at least one, and as few as hold it (claim digit_count)
unfoldable pub places : ℕ → ℕ
places n = first (λ k. ltb n (10 ^ k)) n 1

-- n in decimal, without leading zeros
abbrev pub decimal : ℕ → List ℕ
decimal n = digits (places n) n
