-- The bucketlets before those that are left are summed.
-- Assumes nothing.
use Rattle.std.specs.Iterator.Adapters.{zip_first, zip_second}
use Rattle.std.specs.Slice.Iter.{iter_rest}
use Rattle.words_rules.specs.Decoded.{bucket_at}
use Rattle.estimator.proofs.WalkLaws.{Along}
use Rattle.estimator.proofs.pieces.bucketlets_piece.Given as goal

abbrev pub invariant-loop-w : goal.invariant-loop-w
invariant-loop-w l =
    Along (bucket_at l.fn.histogram.words.now l.fn.b) l.range.x l.range.y l.sum.fraction l.a (iter_rest (zip_first l.w-iterator)) (iter_rest (zip_second l.w-iterator))
