-- `journal::list::put_changed` meets its contract. At the loop the entries of the lines before i are as in the copy.
-- Assumes nothing.
use Rattle.std.proofs.Common.{arith}
use Rattle.journal.proofs.ListLaws.{one_put, putting}
use Rattle.journal.proofs.list.put_changed.Goals as goal

pub loop-entry-init : goal.loop-entry-init
loop-entry-init c = putting c.args.copy.now c.args.entries.now c.args.freqs.now 0 c.requires

pub loop-entry-preserved : goal.loop-entry-preserved
loop-entry-preserved c =
    putting c.args.copy.now c.args.entries.now _ _ (one_put c.args.copy.now c.args.entries.now c.loop-entry.freqs c.loop-entry.entry-index c.loop-entry.invariant.same (omega arith))
