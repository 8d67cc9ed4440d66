-- The counts that are coded (document 01, "The list and the range": the frequencies of a list sum to at most the limit).
-- Assumes nothing.
use Rattle.std.specs.Prelude.{Bool, ℕ, leb}

abbrev pub limit : ℕ
limit = 1073741823

abbrev pub countable : ℕ → Bool
countable v = leb v limit
