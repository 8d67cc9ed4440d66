-- `checker::range::Bucketlet::first_unfit` meets its contract: a range does not fit exactly if it breaks one of the two bounds, so the earlier of their
-- starts is the first. Assumes nothing.
use Rattle.std.proofs.Common.{arith, sym, subst}
use Rattle.checker.specs.declared.bound.Bound.{Bound}
use Rattle.checker.specs.Private.Searching.{FirstStart}
use Rattle.checker.specs.Private.Breaking.{range_breaks, Counted}
use Rattle.checker.proofs.UnfitLaws.{first_of_both, count_usable, estimate_usable}
use Rattle.checker.proofs.range.Bucketlet.first_unfit.Goals as goal

pub first_break-by_count-requires : goal.first_break-by_count-requires
first_break-by_count-requires c =
    let s = c.args.self.now in
    subst (λ (b : Bound). Counted s.freqs.now b c.args.count) (sym c.count_bound.ensures)
    (record { usable = count_usable s.freqs.now s.quality s.start s.width s.number s.searchable; counts = c.requires })

pub first_break-by_estimate-requires : goal.first_break-by_estimate-requires
first_break-by_estimate-requires c =
    let s = c.args.self.now in
    subst (λ (b : Bound). Counted s.freqs.now b c.args.count) (sym c.estimate_bound.ensures)
    (record { usable = estimate_usable s.freqs.now s.quality s.start s.width s.number s.searchable; counts = c.requires })

pub returns : goal.returns
returns c =
    let s = c.args.self.now in
    let fs = s.freqs.now in
    let i = c.first_break-by_count in
    let j = c.first_break-by_estimate in
    first_of_both fs s.quality s.start s.width s.number s.searchable i.result j.result _
    (subst (λ (b : Bound). FirstStart b.width (range_breaks b fs) 0 i.result) c.count_bound.ensures i.ensures)
    (subst (λ (b : Bound). FirstStart b.width (range_breaks b fs) 0 j.result) c.estimate_bound.ensures j.ensures)
    (omega arith)
