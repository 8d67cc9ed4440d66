-- `estimator::pieces::class_number` meets its contract: a class that is used is read.
-- Assumes nothing.
use Rattle.counts.proofs.CallLaws.{class_number_lem}
use Rattle.estimator.proofs.pieces.class_number.Goals as goal

pub unreachable-requires : goal.unreachable-requires
unreachable-requires c = c.in_default.not-Ok _ (class_number_lem _ c.args.class c.requires c.number_of_class.ensures)

pub returns : goal.returns
returns c = let e = class_number_lem _ c.args.class c.requires c.number_of_class.ensures in cc
