-- `estimator::pieces::exact_of` meets its contract: at the loop the buckets before b are summed, and the sum is small.
-- Assumes nothing.
use Rattle.std.proofs.Common.{add-one, arith}
use Rattle.estimator.proofs.WalkLaws.{pass_start, pass_bucket, pass_small, pass_step, pass_end}
use Rattle.estimator.proofs.pieces.exact_of.Goals as goal

pub loop-b-init : goal.loop-b-init
loop-b-init c =
    let q = c.args.asked in
    pass_start q.histogram.words.now q.histogram.readable q.range.x q.range.y c.requires q.within _ c.nothing-sum.ensures _ c.bucket_of-first.ensures

pub bucket_piece-requires : goal.bucket_piece-requires
bucket_piece-requires c =
    let q = c.args.asked in
    pass_bucket q.histogram.words.now q.histogram.readable q.range.x q.range.y c.requires q.within _ c.bucket_of-last.ensures c.loop-b.b (omega arith)

pub plus-sum-requires : goal.plus-sum-requires
plus-sum-requires c =
    let q = c.args.asked in
    let l = c.loop-b in
    pass_small q.histogram.words.now q.histogram.readable q.range.x q.range.y c.requires q.within _ c.bucket_of-last.ensures l.sum.fraction l.b l.invariant
    (omega arith) _ c.bucket_piece.ensures

pub loop-b-preserved : goal.loop-b-preserved
loop-b-preserved c =
    let q = c.args.asked in
    let l = c.loop-b in
    rw (add-one l.b)
    (pass_step q.histogram.words.now q.histogram.readable q.range.x q.range.y c.requires q.within _ c.bucket_of-last.ensures l.sum.fraction l.b l.invariant
    (omega arith) _ _ c.bucket_piece.ensures c.plus-sum.ensures)

pub returns : goal.returns
returns c =
    let q = c.args.asked in
    let l = c.loop-b in
    pass_end q.histogram.words.now q.histogram.readable q.range.x q.range.y c.requires q.within _ c.bucket_of-last.ensures l.sum.fraction l.b l.invariant
    (omega arith)

pub returns-2 : goal.returns-2
returns-2 c =
    let q = c.args.asked in
    let l = c.loop-b in
    let s = pass_step q.histogram.words.now q.histogram.readable q.range.x q.range.y c.requires q.within _ c.bucket_of-last.ensures l.sum.fraction l.b
    l.invariant (omega arith) _ _ c.bucket_piece.ensures c.plus-sum.ensures in
    pass_end q.histogram.words.now q.histogram.readable q.range.x q.range.y c.requires q.within _ c.bucket_of-last.ensures _ _ s (omega arith)
