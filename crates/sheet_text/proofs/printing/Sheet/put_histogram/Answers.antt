-- `sheet_text::printing::Sheet::put_histogram` meets its contract: after the head, the buckets before b are put. Assumes nothing.
use Rattle.std.proofs.Common.{arith, ap, ◌≡◌, ◌∙◌, ◌+◌, ◌<◌, List, ℕ, suc, length}
use mathlib.Core.Path.{subst, subst⁻¹}
use Rattle.words_rules.specs.Words.{buckets}
use Rattle.sheet_rules.specs.Sheet.{joined, bucket_part}
use Rattle.sheet_rules.proofs.SheetLaws.{first_line_short}
use Rattle.sheet_text.specs.Private.Printing.{Put}
use Rattle.sheet_text.proofs.PrintLaws.{put_nothing, head_text, head_text_lem, next_room, more_buckets, all_buckets}
use Rattle.sheet_text.proofs.printing.Sheet.put_histogram.Goals as goal

pub put-requires : goal.put-requires
put-requires c =
    let ws = c.args.words.now in
    let line = c.head_line.ensures ∙ head_text_lem ws c.head_at.result c.head_at.ensures in
    omega (arith, ap length line, (first_line_short ws c.requires.0).within, c.requires.1)

pub loop-b-init : goal.loop-b-init
unfolding joined
loop-b-init c = (c.put.ensures.same_lender, put_nothing _ _)

pub put_bucket-requires : goal.put_bucket-requires
put_bucket-requires c =
    let ws = c.args.words.now in
    let line = c.head_line.ensures ∙ head_text_lem ws c.head_at.result c.head_at.ensures in
    let l = c.loop-b in
    let inside : l.b < buckets ws = omega (arith, c.bucket_count-b-end.ensures) in
    let first : c.put.new.self.at ≡ length (head_text ws) = omega (arith, c.put.ensures.text.ends, ap length line, c.requires.1) in
    (c.requires.0, inside, next_room ws c.put.new.self.out.now l.self.out.now l.b c.put.new.self.at l.self.at c.requires.0 inside first l.invariant.1)

pub loop-b-preserved : goal.loop-b-preserved
loop-b-preserved c =
    let ws = c.args.words.now in
    let l = c.loop-b in
    let p = c.put in
    let n = c.put_bucket in
    let more : l.b + 1 ≡ suc l.b = omega arith in (
      n.ensures.same_lender ∙ l.invariant.0,
      subst⁻¹ (λ (k : ℕ). Put p.new.self.out.now n.new.self.out.now p.new.self.at n.new.self.at (joined k (bucket_part ws))) more
          (more_buckets ws p.new.self.out.now l.self.out.now n.new.self.out.now l.b p.new.self.at l.self.at n.new.self.at l.invariant.1 n.ensures.text),
    )

pub returns-clause-text : goal.returns-clause-text
returns-clause-text c =
    let ws = c.args.words.now in
    let line = c.head_line.ensures ∙ head_text_lem ws c.head_at.result c.head_at.ensures in
    let l = c.loop-b in
    let first = subst (Put c.args.self.now.out.now c.put.new.self.out.now c.args.self.now.at c.put.new.self.at) line c.put.ensures.text in
    all_buckets ws c.args.self.now.out.now c.put.new.self.out.now l.self.out.now l.b c.args.self.now.at c.put.new.self.at l.self.at
    (omega (arith, c.bucket_count-b-end.ensures)) first l.invariant.1
