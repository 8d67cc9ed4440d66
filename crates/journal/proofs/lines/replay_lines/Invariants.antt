-- `journal::lines::replay_lines` meets its contract. At the loop the lines before i have been replayed, and each kept both bounds.
-- Assumes nothing.
use Rattle.journal.proofs.LoopLaws.{SoFar}
use Rattle.journal.proofs.lines.replay_lines.Given as goal

abbrev pub invariant-loop-i : goal.invariant-loop-i
invariant-loop-i l = SoFar l.fn.freqs l.entries l.changes l.freqs l.sum l.i
