-- The words of the private contracts of worksheets.
-- Assumes nothing.
use Rattle.std.specs.Prelude.{◌≡◌, false, List, ℕ, ◌≤◌, length}
use Rattle.words_rules.specs.Reading.{Readable}
use Rattle.estimate_rules.specs.Running.{total_places}
use Rattle.estimate_rules.specs.Worksheet.{totals_fault}

-- a histogram and its running totals
pub record WithTotals (ws totals : List ℕ) : Type 0 where
  pub readable : Readable ws
  pub enough : total_places ws ≤ length totals
  pub right : totals_fault ws totals ≡ false
