-- `finder::bucket_of` meets its contract: the loop ends as the definition does.
-- Assumes nothing.
use Rattle.std.proofs.Common.{arith}
use Rattle.laws.proofs.SearchLaws.{halve_end}
use Rattle.finder.proofs.HalvingSteps.{NotAfter}
use Rattle.finder.proofs.bucket_of.Goals as goal

pub returns : goal.returns
returns c = halve_end (NotAfter c.args.words.now c.args.entry) _ c.loop-low.low c.loop-low.high (omega arith) c.loop-low.invariant.halving
