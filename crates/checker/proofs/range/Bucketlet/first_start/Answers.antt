-- `checker::range::Bucketlet::first_start` meets its contract: a whole that fails is a range of the first start, and else the ranges that fail are those
-- that do not fit. Assumes nothing.
use Rattle.std.proofs.Common.{arith, sym, ◌∙◌}
use Rattle.laws.proofs.SumsLaws.{part_le}
use Rattle.checker.proofs.StartLaws.{part_of, whole_tested, whole_first, unfit_first}
use Rattle.checker.proofs.range.Bucketlet.first_start.Goals as goal

pub is_good-requires : goal.is_good-requires
is_good-requires c =
    let s = c.args.self.now in
    let e = c.count_of-count.ensures ∙ part_of s.start s.width s.freqs.now in
    (omega (arith, part_le s.start s.width s.freqs.now, s.searchable.sound.total), omega arith)

pub returns-then-not-is_good : goal.returns-then-not-is_good
returns-then-not-is_good c =
    let s = c.args.self.now in
    let e = c.count_of-count.ensures ∙ part_of s.start s.width s.freqs.now in
    whole_first s.quality s.freqs.now s.start s.width s.number
    (sym (whole_tested s.quality s.freqs.now s.start s.width s.number _ e) ∙ sym c.is_good.ensures ∙ c.if-not-is_good.true)

pub returns : goal.returns
returns c =
    let s = c.args.self.now in
    let e = c.count_of-count.ensures ∙ part_of s.start s.width s.freqs.now in
    unfit_first s.quality s.freqs.now s.start s.width s.number
    (sym (whole_tested s.quality s.freqs.now s.start s.width s.number _ e) ∙ sym c.is_good.ensures ∙ c.if-not-is_good.false)
    c.first_unfit.result c.first_unfit.ensures
