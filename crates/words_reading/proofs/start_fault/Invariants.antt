-- The loop's invariant: the starts passed rise and stay below the number of entries, and `least` is one more than the last of them.
-- Assumes nothing.
use Rattle.std.proofs.Common.{◌≡◌, ℕ, ◌+◌, ◌-◌, ◌<◌, ◌≤◌, List}
use Rattle.words_rules.specs.Words.{entries, start}
use Rattle.words_reading.proofs.start_fault.Given as goal

pub record Passed (ws : List ℕ) (count least b : ℕ) : Type 0 where
  pub within : b ≤ count
  pub none : b ≡ 0 → least ≡ 0
  pub last : 0 < b → least ≡ start ws (b - 1) + 1
  pub first : start ws 0 ≡ 0
  pub below : (i : ℕ) → i < b → start ws i < entries ws
  pub rise : (i : ℕ) → i + 1 < b → start ws i < start ws (i + 1)

abbrev pub invariant-loop-b : goal.invariant-loop-b
invariant-loop-b l = Passed l.words l.buckets l.least l.b
