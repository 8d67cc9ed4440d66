-- `sheet_text::printing::Sheet::put_bucketlets` meets its contract: the bucketlets before k are put, and the next starts where they end. Assumes nothing.
use Rattle.std.proofs.Common.{◌≡◌}
use Rattle.sheet_text.proofs.PrintLaws.{Some}
use Rattle.sheet_text.proofs.printing.Sheet.put_bucketlets.Given as goal

abbrev pub invariant-loop-k : goal.invariant-loop-k
invariant-loop-k l = (l.self.out.ghost_name ≡ l.fn.self.out.ghost_name) × Some l.bucket l.fn.self.out.now l.self.out.now l.fn.self.at l.self.at l.start l.k
