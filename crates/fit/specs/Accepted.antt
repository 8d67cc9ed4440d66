-- When a histogram is accepted for a list (document 01, "What fits", its last sentences; 24: document 02, request v): said of the words and the
-- frequencies alone.
-- Assumes nothing.
use Rattle.std.specs.Prelude.{Bool, not, ◌&&◌, ◌||◌, List, [], ◌∷◌, ◌++◌, ℕ, eqb, length}
use Rattle.laws.specs.Each.{each}
use Rattle.laws.specs.Refusal.{Sentence, refusal}
use Rattle.laws.specs.Sums.{part_sum}
use Rattle.counts_rules.specs.Total.{total_number}
use Rattle.words_rules.specs.declared.Bucket.{Bucket}
use Rattle.words_rules.specs.Words.{entries, theta, qn, qd, buckets, start, span}
use Rattle.words_rules.specs.Decoded.{bucket_at, bucketlet_start, width_at, number_at}
use Rattle.words_rules.specs.Reading.{read_sentences}
use Rattle.list_rules.specs.declared.Quality.{Quality}
use Rattle.fit.specs.Fit.{near, bucketlet_fits}
use Rattle.list_rules.specs.Frequencies.{list_sentences}

-- 13: the frequency list is not d long
unfoldable pub mismatch : List ℕ → List ℕ → Bool
mismatch fs ws = not (eqb (length fs) (entries ws))

-- 1 and 3, then 7, 24 and 8 to 12, then 13
abbrev pub check_sentences : List ℕ → List ℕ → List Sentence
check_sentences fs ws = list_sentences fs ++ read_sentences ws ++ (record { number = 13; holds = mismatch fs ws } ∷ [])

abbrev pub check_fault : List ℕ → List ℕ → ℕ
check_fault fs ws = refusal (check_sentences fs ws)

-- the histogram's own theta and q
abbrev pub quality_of : List ℕ → Quality
quality_of ws = record { theta = theta ws; qn = qn ws; qd = qd ws }

-- bucketlet k of a bucket is empty, or it fits
abbrev pub bucketlet_good : Quality → List ℕ → Bucket → ℕ → Bool
bucketlet_good q fs r k =
    eqb (width_at r k) 0 || bucketlet_fits q fs (bucketlet_start r k) (width_at r k) (number_at r k)

-- the number of a total is within a factor q of the true count
abbrev pub total_good : Quality → ℕ → ℕ → Bool
total_good q f code = near q f (total_number code) 1

abbrev pub bucket_good : Quality → List ℕ → List ℕ → ℕ → Bool
bucket_good q fs ws b =
    each 8 (bucketlet_good q fs (bucket_at ws b)) && total_good q (part_sum (start ws b) (span ws b) fs) (bucket_at ws b).total

unfoldable pub accepted : List ℕ → List ℕ → Bool
accepted fs ws = eqb (check_fault fs ws) 0 && each (buckets ws) (bucket_good (quality_of ws) fs ws)
