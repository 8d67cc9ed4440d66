-- `estimator::pieces::total_number` meets its contract: a code that is valid is read.
-- Assumes nothing.
use Rattle.std.proofs.Common.{ap}
use Rattle.std.specs.Prelude.{is_ok}
use Rattle.counts.proofs.CallLaws.{total_number_lem}
use Rattle.estimator.proofs.pieces.total_number.Goals as goal

pub unwrap-requires : goal.unwrap-requires
unwrap-requires c = ap is_ok (total_number_lem _ c.args.code c.requires c.number_of_total.ensures)

pub returns : goal.returns
returns c = let e = total_number_lem _ c.args.code c.requires c.number_of_total.ensures in cc
