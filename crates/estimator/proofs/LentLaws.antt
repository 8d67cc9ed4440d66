-- What a lent list holds after a call that is refused, and after one that is not.
-- Assumes nothing.
use Rattle.std.proofs.Common.{◌≡◌, ℕ, ◌<◌, List, ◌++◌, length, drop, refl, sym, arith}
use Rattle.estimate_rules.specs.Ranges.{range_count}
use Rattle.estimate_rules.specs.Running.{total_places, running_totals, fill_fault, totals_filled}
use Rattle.estimate_rules.specs.Worksheet.{worksheet_answers, worksheet_fault, worksheet_answered}
use Rattle.estimate_rules.proofs.WorksheetLaws.{fill_refused, fill_answered, sheet_refused, sheet_answered}

module _ (ws old : List ℕ) where
  pub totals_kept : 0 < fill_fault ws (length old) → totals_filled ws old ≡ old
  totals_kept p = sym (fill_refused ws old _ refl (λ z. omega arith)).1

  pub totals_put : fill_fault ws (length old) ≡ 0 → totals_filled ws old ≡ running_totals ws ++ drop (total_places ws) old
  totals_put z = sym (fill_answered ws old z).1

module _ (ws totals sheet old : List ℕ) where
  pub answers_kept : 0 < worksheet_fault ws totals sheet (length old) → worksheet_answered ws totals sheet old ≡ old
  answers_kept p = sym (sheet_refused ws totals sheet old _ refl (λ z. omega arith)).1

  pub answers_put : worksheet_fault ws totals sheet (length old) ≡ 0 → worksheet_answered ws totals sheet old ≡ worksheet_answers ws sheet ++ drop (range_count sheet) old
  answers_put z = sym (sheet_answered ws totals sheet old z).1
