-- What an input is refused with.
-- Assumes nothing.
use Rattle.std.specs.Prelude.{Option, None, Some, ℕ}
use Rattle.refusals.specs.Numbers as refusal
use Rattle.sheet_text.specs.declared.SheetError.{SheetError}
use Rattle.sheet_text.specs.declared.SheetError.TheVariants as at

abbrev pub error_number : SheetError → ℕ
error_number (at.Input _) = 18
error_number (at.List e) = refusal.number_of e

abbrev pub error_line : SheetError → ℕ
error_line (at.Input f) = f.line
error_line (at.List _) = 0

-- the number that an input is refused with, 0 if it is not
abbrev pub number_of : Option SheetError → ℕ
number_of None = 0
number_of (Some e) = error_number e

-- for 18, the line where it stops being as described, else 0
abbrev pub line_of : Option SheetError → ℕ
line_of None = 0
line_of (Some e) = error_line e
