-- What the checker answers (document 01, "Asking" and "When a call is turned away", 1, 3, 7, 24 and 8 to 13): it takes buckets in order and, in each,
-- bucketlets in order, then the total.
-- Assumes nothing.
use Rattle.std.specs.Prelude.{cond, List, ℕ, ◌-◌, eqb}
use Rattle.laws.specs.Sums.{part_sum}
use Rattle.words_rules.specs.declared.Bucket.{Bucket}
use Rattle.words_rules.specs.Words.{buckets, start, end}
use Rattle.words_rules.specs.Decoded.{bucket_at, bucketlet_start, width_at, number_at}
use Rattle.list_rules.specs.declared.Quality.{Quality}
use Rattle.fit.specs.Accepted.{check_fault, quality_of, total_good}
use Rattle.check_rules.specs.declared.Sort.TheVariants.{Bucket as OfBucket}
use Rattle.check_rules.specs.declared.Verdict.{Verdict}
use Rattle.check_rules.specs.declared.Verdict.TheVariants.{Accepted, Fails}
use Rattle.check_rules.specs.Reply.{Answer, verdict_reply, refused_answer}
use Rattle.check_rules.specs.Failing.{or_next, first_failing, bucketlet_verdict}

-- bucketlet k of a bucket
abbrev pub bucketlet_answer : Quality → List ℕ → Bucket → ℕ → Verdict
bucketlet_answer q fs r k = bucketlet_verdict q fs (bucketlet_start r k) (width_at r k) (number_at r k)

-- the total of a bucket, which fails with the bucket's span
unfoldable pub total_verdict : Quality → List ℕ → ℕ → ℕ → ℕ → Verdict
total_verdict q fs start end code =
    cond (total_good q (part_sum start (end - start) fs) code) Accepted (Fails (record { start = start; end = end; sort = OfBucket }))

unfoldable pub bucket_verdict : Quality → List ℕ → List ℕ → ℕ → Verdict
bucket_verdict q fs ws b =
    let total = total_verdict q fs (start ws b) (end ws b) (bucket_at ws b).total in
    or_next (first_failing (bucketlet_answer q fs (bucket_at ws b)) 8 0) total

unfoldable pub buckets_verdict : Quality → List ℕ → List ℕ → Verdict
buckets_verdict q fs ws = first_failing (bucket_verdict q fs ws) (buckets ws) 0

abbrev pub check_reply : List ℕ → List ℕ → Answer
check_reply fs ws =
    let checked = verdict_reply (buckets_verdict (quality_of ws) fs ws) in
    cond (eqb (check_fault fs ws) 0) checked (refused_answer (check_fault fs ws))
