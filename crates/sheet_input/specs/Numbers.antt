-- What is read of an input.
-- Assumes nothing.
use Rattle.std.specs.Prelude.{cond, List, ℕ, Result, Ok, Err}
use Rattle.sheet_rules.specs.Input.{as_described, numbers, fault_line}
use Rattle.sheet_input.specs.declared.InputFault.{InputFault}

-- its numbers, or where it stops being as described
unfoldable pub input_numbers : List ℕ → Result (List ℕ) InputFault
input_numbers input = cond (as_described input) (Ok (numbers input)) (Err (record { line = fault_line input }))
