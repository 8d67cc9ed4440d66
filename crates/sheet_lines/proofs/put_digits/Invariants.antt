-- `sheet_lines::put_digits` meets its contract: the digits from i on are put, and those before it are the digits of what is left.
-- Assumes nothing.
use Rattle.std.proofs.Common.{◌≡◌, ◌≤◌, ◌++◌, length, drop}
use Rattle.sheet_rules.specs.Text.{digits}
use Rattle.sheet_lines.proofs.put_digits.Given as goal

abbrev pub invariant-loop-i : goal.invariant-loop-i
invariant-loop-i l = (l.i ≤ length l.places) × (digits l.i l.rest ++ drop l.i l.places ≡ digits (length l.fn.places) l.fn.n)
