-- The words of the private contracts that print.
-- Assumes nothing.
use Rattle.std.specs.Prelude.{◌≡◌, cond, List, ℕ, ◌+◌, length, Option, None, Some, Result, Ok, Err}
use Rattle.std.proofs.lemmas.List.Edits.{sets}
use Rattle.sheet_rules.specs.Input.{as_described, fault_line}
use Rattle.sheet_rules.specs.Lines.{refused_line}
use Rattle.sheet_rules.specs.Sheet.{sheet_fault, sheet}
use Rattle.sheet_text.specs.declared.SheetError.{SheetError}
use Rattle.sheet_text.specs.Printed.{error_number, number_of, line_of}

-- the text is put at a place, and ends at another
pub record Put (old new : List ℕ) (at end : ℕ) (text : List ℕ) : Type 0 where
  pub bytes : new ≡ sets old at text
  pub ends : end ≡ at + length text

-- what is said of an input is the number and the line that it is refused with
pub record Said (input : List ℕ) (r : Option SheetError) : Type 0 where
  pub number : number_of r ≡ sheet_fault input
  pub line : line_of r ≡ cond (as_described input) 0 (fault_line input)

-- an input that is refused, whose sheet is a line that is still to be put
pub record Turned (input old new : List ℕ) (end : ℕ) (e : SheetError) : Type 0 where
  pub said : Said input (Some e)
  pub text : sheet input ≡ refused_line (error_number e)
  pub same_bytes : new ≡ old
  pub at_start : end ≡ 0

-- one whose sheet is put at the start
pub record Done (input old new : List ℕ) (end : ℕ) : Type 0 where
  pub said : Said input None
  pub text : Put old new 0 end (sheet input)

abbrev pub Outcome : (input old new : List ℕ) (end : ℕ) → Result Unit SheetError → Type 0
Outcome input old new end (Ok _) = Done input old new end
Outcome input old new end (Err e) = Turned input old new end e
