-- The limits of a width (document 01, "Building" and "Words").
-- Assumes nothing.
use Rattle.std.specs.Prelude.{ℕ}

-- a width that is listed has nine bits
abbrev pub max_listed : ℕ
max_listed = 511

abbrev pub max_width : ℕ
max_width = 4095
