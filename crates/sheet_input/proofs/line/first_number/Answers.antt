-- `sheet_input::line::first_number` meets its contract: the line feed that is found ends the first line.
-- Assumes nothing.
use Rattle.sheet_input.proofs.LineLaws.{near_number}
use Rattle.sheet_input.proofs.line.first_number.Goals as goal

pub returns : goal.returns
returns c = near_number c.args.input.now c.in_ok-end.end c.in_ok-end.ensures c.in_ok-number.number c.in_ok-number.ensures
