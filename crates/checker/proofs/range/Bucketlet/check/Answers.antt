-- `checker::range::Bucketlet::check` meets its contract. At the outer loop every range with an earlier start is good, at the inner one every range
-- from this start of at most i entries, and the count is that of the longest of them. Assumes nothing.
use Rattle.std.proofs.Common.{◌+◌, sym, ap, arith, ◌∙◌}
use Rattle.laws.proofs.SumsLaws.{part_le}
use Rattle.check_rules.specs.declared.Sort.{Sort}
use Rattle.check_rules.specs.declared.Verdict.TheVariants.{Fails}
use Rattle.check_rules.proofs.RangeLaws.{nothing_fails}
use Rattle.checker.proofs.SearchSteps.{next_count, next_end, next_start, found, rest_length, entry_of}
use Rattle.checker.proofs.range.Bucketlet.check.Goals as goal

pub overflow_add-count : goal.overflow_add-count
overflow_add-count c =
    let s = c.args.self.now in
    let i = c.loop-start.start in
    let l = c.loop-i in
    let size = rest_length s.freqs.now s.start s.width i s.searchable.inside (omega arith) in
    let next = c.from-count.ensures ∙ entry_of s.freqs.now s.start s.width i s.searchable.inside (omega arith) l.i (omega arith) in
    let counted = next_count s.quality s.freqs.now s.start s.width s.number i l.i l.count c.from-count.result l.invariant next (omega arith) in
    omega (arith, part_le (s.start + i) (l.i + 1) s.freqs.now, s.searchable.sound.total)

pub is_good-requires : goal.is_good-requires
is_good-requires c =
    let s = c.args.self.now in
    let i = c.loop-start.start in
    let l = c.loop-i in
    let size = rest_length s.freqs.now s.start s.width i s.searchable.inside (omega arith) in
    let next = c.from-count.ensures ∙ entry_of s.freqs.now s.start s.width i s.searchable.inside (omega arith) l.i (omega arith) in
    let counted = next_count s.quality s.freqs.now s.start s.width s.number i l.i l.count c.from-count.result l.invariant next (omega arith) in
    (omega (arith, part_le (s.start + i) (l.i + 1) s.freqs.now, s.searchable.sound.total), omega arith)

-- the range in hand is good
pub loop-i-preserved : goal.loop-i-preserved
loop-i-preserved c =
    let s = c.args.self.now in
    let i = c.loop-start.start in
    let l = c.loop-i in
    let size = rest_length s.freqs.now s.start s.width i s.searchable.inside (omega arith) in
    let next = c.from-count.ensures ∙ entry_of s.freqs.now s.start s.width i s.searchable.inside (omega arith) l.i (omega arith) in
    next_end s.quality s.freqs.now s.start s.width s.number i l.i l.count c.from-count.result l.invariant next (omega arith) (sym c.is_good.ensures ∙ c.if-not-is_good.false)

pub loop-start-preserved : goal.loop-start-preserved
loop-start-preserved c =
    let s = c.args.self.now in
    let i = c.loop-start in
    let l = c.loop-i in
    let size = rest_length s.freqs.now s.start s.width i.start s.searchable.inside (omega arith) in
    next_start s.quality s.freqs.now s.start s.width s.number i.start l.i l.count i.invariant l.invariant (omega arith) (omega arith)

pub returns-then-not-is_good : goal.returns-then-not-is_good
returns-then-not-is_good c =
    let s = c.args.self.now in
    let i = c.loop-start.start in
    let l = c.loop-i in
    let size = rest_length s.freqs.now s.start s.width i s.searchable.inside (omega arith) in
    let next = c.from-count.ensures ∙ entry_of s.freqs.now s.start s.width i s.searchable.inside (omega arith) l.i (omega arith) in
    ap (λ (t : Sort). Fails (record { start = s.start + i; end = s.start + i + (l.i + 1); sort = t })) c.sort_of.ensures
    ∙ found s.quality s.freqs.now s.start s.width s.number i l.i l.count c.from-count.result l.invariant next (omega arith) c.loop-start.invariant (sym c.is_good.ensures ∙ c.if-not-is_good.true)

pub returns-after-loop-start : goal.returns-after-loop-start
returns-after-loop-start c =
    let s = c.args.self.now in
    sym (nothing_fails s.quality s.freqs.now s.start s.width s.number (λ x y h g. c.loop-start.invariant.good x y (omega arith) h g))
