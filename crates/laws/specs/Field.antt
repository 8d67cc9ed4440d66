-- Bit fields of a word: bits hi to lo, bit 0 being the lowest.
-- Assumes nothing.
use Rattle.std.specs.Prelude.{ℕ, ◌+◌, ◌-◌, ◌*◌, ◌/◌, ◌%◌, ◌^◌}

-- what stands in bits hi..lo of w
abbrev pub field : ℕ → ℕ → ℕ → ℕ
field w hi lo = w / 2 ^ lo % 2 ^ (hi + 1 - lo)

-- v in bits hi..lo, cut to as many bits as that are, and 0 in the others
abbrev pub put : ℕ → ℕ → ℕ → ℕ
put v hi lo = v % 2 ^ (hi + 1 - lo) * 2 ^ lo
