-- `sheet_text::printing::Sheet::put_bucketlet` meets its contract: an empty bucketlet has no line, and the class of any other is in use, so that its number
-- is read. Assumes nothing.
use Rattle.std.proofs.Common.{arith, refl, sym, ap, ◌≡◌, ◌∙◌, ◌+◌, ◌<◌, ◌≤◌, ℕ, suc, List, [], length}
use Rattle.std.specs.Prelude.{Result, Ok}
use mathlib.Core.Path.{subst}
use Rattle.counts.proofs.CallLaws.{class_number_lem}
use Rattle.words_rules.specs.declared.Bucket.{Bucket}
use Rattle.words_rules.specs.Decoded.{class_at, width_at, number_at, bucketlet_start}
use Rattle.words_rules.proofs.EntryLaws.{bucketlet_end_lem}
use Rattle.sheet_rules.specs.Sheet.{bucketlet_part}
use Rattle.sheet_rules.specs.Lines.{bucketlet_line}
use Rattle.sheet_rules.proofs.SheetLaws.{bucketlet_short}
use Rattle.sheet_text.specs.Private.Printing.{Put}
use Rattle.sheet_text.proofs.PrintLaws.{part_line}
use Rattle.sheet_text.proofs.printing.Sheet.put_bucketlet.Goals as goal

pub unreachable-requires : goal.unreachable-requires
unreachable-requires c = c.in_default.not-Ok _ (class_number_lem _ _ (c.requires.0.class_used c.args.k c.requires.1) c.number_of_class.ensures)

pub overflow_add-start : goal.overflow_add-start
overflow_add-start c = omega (arith, c.requires.2, c.requires.0.small (suc c.args.k) c.requires.1, bucketlet_end_lem c.args.bucket c.args.k)

pub put-requires : goal.put-requires
put-requires c =
    let known = class_number_lem _ _ (c.requires.0.class_used c.args.k c.requires.1) c.number_of_class.ensures in
    let number : c.in-Ok.number ≡ number_at c.args.bucket c.args.k = cc in
    let line = c.bucketlet_line.ensures ∙ part_line c.args.bucket c.args.k _ _ _ _ (omega arith) c.requires.2 refl refl number in
    omega (arith, ap length line, (bucketlet_short c.args.bucket c.requires.0 c.args.k c.requires.1).within, c.requires.3)

pub returns-clause-text : goal.returns-clause-text
returns-clause-text c =
    let known = class_number_lem _ _ (c.requires.0.class_used c.args.k c.requires.1) c.number_of_class.ensures in
    let number : c.in-Ok.number ≡ number_at c.args.bucket c.args.k = cc in
    let line = c.bucketlet_line.ensures ∙ part_line c.args.bucket c.args.k _ _ _ _ (omega arith) c.requires.2 refl refl number in
    subst (Put c.args.self.now.out.now _ c.args.self.now.at _) line c.put.ensures.text
