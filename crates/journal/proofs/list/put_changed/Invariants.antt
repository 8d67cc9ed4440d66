-- `journal::list::put_changed` meets its contract. At the loop the entries of the lines before i are as in the copy.
-- Assumes nothing.
use Rattle.journal.proofs.ListLaws.{Putting}
use Rattle.journal.proofs.list.put_changed.Given as goal

abbrev pub invariant-loop-entry : goal.invariant-loop-entry
invariant-loop-entry l = Putting l.copy l.entries l.freqs l.entry-index
