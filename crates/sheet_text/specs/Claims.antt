-- What is proved of the errors of an input (proofs/Proved.antt).
-- Assumes nothing.
use Rattle.std.specs.Prelude.{◌≡◌, Option, ℕ, ◌<◌}
use Rattle.sheet_text.specs.declared.SheetError.{SheetError}
use Rattle.sheet_text.specs.Printed.{number_of, line_of}

-- the number and the line say together which error it is; a line at fault is never 0
pub record Errors : Type 0 where
  pub same_error : (r s : Option SheetError) → number_of r ≡ number_of s → line_of r ≡ line_of s → (number_of r ≡ 18 → 0 < line_of r) → r ≡ s
