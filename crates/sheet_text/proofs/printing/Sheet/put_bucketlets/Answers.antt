-- `sheet_text::printing::Sheet::put_bucketlets` meets its contract: the bucketlets before k are put, and the next starts where they end. Assumes nothing.
use Rattle.std.proofs.Common.{arith, refl, ◌≡◌, ◌∙◌, ◌+◌, suc}
use mathlib.Core.Path.{subst⁻¹}
use Rattle.words_rules.proofs.EntryLaws.{bucketlet_end_lem}
use Rattle.words_rules.specs.Decoded.{width_at}
use Rattle.sheet_text.proofs.PrintLaws.{Some, none, some_more, some_room}
use Rattle.sheet_text.proofs.printing.Sheet.put_bucketlets.Goals as goal

pub put_bucketlet-requires : goal.put_bucketlet-requires
put_bucketlet-requires c =
    let l = c.loop-k in
    let near = some_room c.args.bucket c.args.self.now.out.now l.self.out.now c.args.self.now.at l.self.at l.start l.k c.requires.0 (omega arith) l.invariant.1 in
    (c.requires.0, omega arith, l.invariant.1.begins, omega (arith, near, c.requires.1))

pub overflow_add-start : goal.overflow_add-start
overflow_add-start c =
    let l = c.loop-k in
    omega (arith, l.invariant.1.begins, c.requires.0.small (suc l.k) (omega arith), bucketlet_end_lem c.args.bucket l.k)

pub loop-k-init : goal.loop-k-init
loop-k-init c = (refl, none c.args.bucket c.args.self.now.out.now c.args.self.now.at)

pub loop-k-preserved : goal.loop-k-preserved
loop-k-preserved c =
    let l = c.loop-k in
    let p = c.put_bucketlet in
    let more : l.k + 1 ≡ suc l.k = omega arith in (
      p.ensures.same_lender ∙ l.invariant.0,
      subst⁻¹ (Some c.args.bucket c.args.self.now.out.now p.new.self.out.now c.args.self.now.at p.new.self.at (l.start + width_at c.args.bucket l.k)) more
          (some_more c.args.bucket c.args.self.now.out.now l.self.out.now p.new.self.out.now c.args.self.now.at l.self.at p.new.self.at l.start l.k (omega arith) l.invariant.1 p.ensures.text),
    )
