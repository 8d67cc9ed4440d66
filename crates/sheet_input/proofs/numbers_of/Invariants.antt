-- `sheet_input::numbers_of` meets its contract: the numbers in hand and those of the bytes that are left are the numbers of all.
-- Assumes nothing.
use Rattle.std.proofs.Common.{length}
use Rattle.sheet_input.proofs.ReadLaws.{Reading}
use Rattle.sheet_input.proofs.numbers_of.Given as goal

abbrev pub invariant-loop-rest : goal.invariant-loop-rest
invariant-loop-rest l = Reading l.input l.values l.count l.rest

abbrev pub decreases-loop-rest : goal.decreases-loop-rest
decreases-loop-rest l = length l.rest
