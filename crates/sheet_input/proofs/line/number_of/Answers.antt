-- `sheet_input::line::number_of` meets its contract: the number in hand and the bytes that are left make the number of the line.
-- Assumes nothing.
use Rattle.std.proofs.Common.{arith, ◌∙◌}
use Rattle.sheet_input.proofs.NumberLaws.{read_next, read_broken, read_done}
use Rattle.sheet_input.proofs.line.number_of.Goals as goal

pub returns-in_err-number : goal.returns-in_err-number
returns-in_err-number c = c.from_residual.ensures ∙ read_broken c.loop-byte.number c.args.line.now c.loop-byte.byte-index (omega arith) c.in_err-number.ensures ∙ c.loop-byte.invariant

pub loop-byte-preserved : goal.loop-byte-preserved
loop-byte-preserved c = read_next c.loop-byte.number c.args.line.now c.loop-byte.byte-index c.in_ok-number.number (omega arith) c.in_ok-number.ensures ∙ c.loop-byte.invariant

pub returns : goal.returns
returns c = read_done c.loop-byte.number c.args.line.now c.loop-byte.byte-index (omega arith) ∙ c.loop-byte.invariant
