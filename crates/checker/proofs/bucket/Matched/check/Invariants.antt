-- The loop of `checker::bucket::Matched::check`: nothing fails in the buckets before b.
-- Assumes nothing.
use Rattle.std.proofs.Common.{◌≡◌, ℕ, ◌<◌}
use Rattle.check_rules.specs.declared.Verdict.TheVariants.{Accepted}
use Rattle.check_rules.specs.Checking.{bucket_verdict}
use Rattle.checker.proofs.bucket.Matched.check.Given as goal

abbrev pub invariant-loop-b : goal.invariant-loop-b
invariant-loop-b l = (m : ℕ) → m < l.b → bucket_verdict l.self.quality l.self.freqs.now l.self.words.now m ≡ Accepted
