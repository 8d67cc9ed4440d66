-- The loop of `checker::bucket::Matched::check_bucket`: nothing fails in the bucketlets before the one in hand, which starts at `at`.
-- Assumes nothing.
use Rattle.std.proofs.Common.{length}
use Rattle.words_rules.specs.Decoded.{bucket_at}
use Rattle.checker.proofs.BucketSteps.{Passed}
use Rattle.checker.proofs.bucket.Matched.check_bucket.Given as goal

abbrev pub invariant-loop-width : goal.invariant-loop-width
invariant-loop-width l = Passed l.self.quality l.self.freqs.now (bucket_at l.self.words.now l.fn.b) l.at (length l.yielded)
