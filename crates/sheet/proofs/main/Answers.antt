-- `sheet::main` meets its contract: no sheet is longer than the space for it. Assumes nothing.
use Rattle.std.proofs.Common.{◌≡◌, ℕ, List, ◌≤◌, length, sym, ap, ◌∙◌, arith}
use Rattle.std.proofs.lemmas.List.{length-take-le}
use lib.ListN.{replicate, length-replicate}
use Rattle.sheet_rules.specs.Limits.{sheet_bytes}
use Rattle.sheet_rules.specs.Sheet.{sheet, filled}
use Rattle.sheet_rules.proofs.SheetLaws.{filled_length}
use Rattle.sheet_rules.proofs.Proved.{exam}
use Rattle.sheet.proofs.main.Goals as goal

within : (input out : List ℕ) (n : ℕ) → n ≡ length (sheet input) → out ≡ filled (replicate sheet_bytes 0) (sheet input) → n ≤ length out
within input out n e f =
    let all : length out ≡ sheet_bytes = ap length f ∙ filled_length _ _ ∙ length-replicate {A = ℕ} sheet_bytes 0 in
    omega (arith, all, e, exam.short input)

pub slice_bounds-out-end : goal.slice_bounds-out-end
slice_bounds-out-end c = let l = c.put_sheet-printed in within _ l.new.out _ l.ensures.length l.ensures.out_after

pub slice_bounds-write_all-end : goal.slice_bounds-write_all-end
slice_bounds-write_all-end c =
    let l = c.put_sheet-printed in
    sym (length-take-le l.result.length l.new.out (within _ l.new.out _ l.ensures.length l.ensures.out_after))
