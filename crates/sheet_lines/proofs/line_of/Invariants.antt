-- `sheet_lines::line_of` meets its contract: the pattern's bytes before i are put, with the numbers that had a mark there.
-- Assumes nothing.
use Rattle.sheet_lines.proofs.PatternLaws.{Begun}
use Rattle.sheet_lines.proofs.line_of.Given as goal

abbrev pub invariant-loop-byte : goal.invariant-loop-byte
invariant-loop-byte l = Begun l.pattern l.numbers l.line l.left l.byte-index
