-- `sheet_input::line::number_of` meets its contract: the number in hand and the bytes that are left make the number of the line.
-- Assumes nothing.
use Rattle.std.proofs.Common.{◌≡◌, drop}
use Rattle.sheet_input.specs.Private.Lines.{number_of}
use Rattle.sheet_input.proofs.NumberLaws.{read_after}
use Rattle.sheet_input.proofs.line.number_of.Given as goal

abbrev pub invariant-loop-byte : goal.invariant-loop-byte
invariant-loop-byte l = read_after l.number (drop l.byte-index l.line) ≡ number_of l.line
