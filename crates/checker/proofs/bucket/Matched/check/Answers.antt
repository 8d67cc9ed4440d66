-- `checker::bucket::Matched::check` meets its contract. At the loop nothing fails in the buckets before b.
-- Assumes nothing.
use Rattle.std.proofs.Common.{◌≡◌, arith, sym, ◌∙◌}
use Rattle.words_rules.specs.Words.{buckets}
use Rattle.check_rules.specs.declared.Verdict.TheVariants.{Fails}
use Rattle.check_rules.specs.Checking.{bucket_verdict, buckets_verdict}
use Rattle.check_rules.proofs.FirstLaws.{all_accepted}
use Rattle.checker.specs.Private.Searching.{verdict_of}
use Rattle.checker.proofs.BucketSteps.{first_fails}
use Rattle.checker.proofs.bucket.Matched.check.Goals as goal

pub returns-in_err-check_bucket : goal.returns-in_err-check_bucket
unfolding buckets_verdict
returns-in_err-check_bucket c =
    let s = c.args.self.now in
    let f = c.in_err-check_bucket.field-0.0 in
    let e : verdict_of c.from_residual.result ≡ Fails f = grind arith in
    e ∙ sym (first_fails (bucket_verdict s.quality s.freqs.now s.words.now) (buckets s.words.now) c.loop-b.b f (omega arith) c.loop-b.invariant (sym c.in_err-check_bucket.ensures))

pub returns : goal.returns
unfolding buckets_verdict
returns c =
    let s = c.args.self.now in
    sym (all_accepted (bucket_verdict s.quality s.freqs.now s.words.now) (buckets s.words.now) 0 (λ m _ h. c.loop-b.invariant m (omega arith)))
