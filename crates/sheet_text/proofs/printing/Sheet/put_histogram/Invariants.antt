-- `sheet_text::printing::Sheet::put_histogram` meets its contract: after the head, the buckets before b are put. Assumes nothing.
use Rattle.std.proofs.Common.{◌≡◌}
use Rattle.sheet_rules.specs.Sheet.{joined, bucket_part}
use Rattle.sheet_text.specs.Private.Printing.{Put}
use Rattle.sheet_text.proofs.printing.Sheet.put_histogram.Given as goal

abbrev pub invariant-loop-b : goal.invariant-loop-b
invariant-loop-b l =
    (l.self.out.ghost_name ≡ l.fn.self.out.ghost_name)
    × Put l.initial.self.out.now l.self.out.now l.initial.self.at l.self.at (joined l.b (bucket_part l.words))
