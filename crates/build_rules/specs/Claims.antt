-- What is claimed of building (document 01, "Building" and "What fits"); proofs/Proved.antt proves it.
-- Assumes nothing.
use Rattle.std.specs.Prelude.{◌≡◌, true, not, List, ℕ, ◌+◌, ◌-◌, ◌*◌, ◌≤◌, ◌<◌, min, length, get_or}
use Rattle.laws.specs.Refusal.{refusal}
use Rattle.laws.specs.Sums.{part_sum}
use Rattle.counts_rules.specs.Form.{base}
use Rattle.counts_rules.specs.Class.{class_of}
use Rattle.counts_rules.specs.Total.{total_code}
use Rattle.words_rules.specs.declared.Bucket.{Bucket}
use Rattle.words_rules.specs.Words.{entries, theta as theta_in, qn as qn_in, qd as qd_in, buckets, start, span}
use Rattle.words_rules.specs.Decoded.{class_at, bucket_at, bucketlet_start, width_at}
use Rattle.words_rules.specs.Reading.{Readable}
use Rattle.list_rules.specs.declared.Quality.{Quality}
use Rattle.fit.specs.Accepted.{accepted}
use Rattle.build_rules.specs.Width.{fits_at, width}
use Rattle.build_rules.specs.Bucket.{first_free, limits_of, bucket_from}
use Rattle.build_rules.specs.Words.{start_from, words, words_for}
use Rattle.list_rules.specs.Quality.{quality, input_sentences}

-- it fits with each width 1 to w
abbrev pub FitsUpTo : Quality → List ℕ → ℕ → ℕ → Type 0
FitsUpTo q fs a w = (v : ℕ) → 1 ≤ v → v ≤ w → fits_at q fs a v ≡ true

-- w is the largest within the limit such that it fits with each width 1 to w
pub record Largest (q : Quality) (fs : List ℕ) (a most w : ℕ) : Type 0 where
  pub within : w ≤ most
  pub fitting : FitsUpTo q fs a w
  pub largest : (v : ℕ) → v ≤ most → FitsUpTo q fs a v → v ≤ w

pub record Widths : Type 0 where
  pub width_largest : (q : Quality) (fs : List ℕ) (a most : ℕ) → Largest q fs a most (width q fs a most)

-- the limit of the width of bucketlet k
abbrev pub limit_at : Bucket → ℕ → ℕ
limit_at r k = get_or (limits_of (width_at r 0)) k 0

-- bucketlet k is as wide as its rule allows, and its class is that of its count
pub record AsWide (q : Quality) (fs : List ℕ) (r : Bucket) (k : ℕ) : Type 0 where
  -- "the largest w such that it fits with each width 1 to w"; "widths stop at the end of the list", and at their limit
  pub widest : Largest q fs (bucketlet_start r k) (min (limit_at r k) (length fs - bucketlet_start r k)) (width_at r k)
  -- "its class being that of its own true count"; where it is empty, "width 0, class 0"
  pub class_of_count : class_at r k ≡ class_of base (part_sum (bucketlet_start r k) (width_at r k) fs)
  pub class_of_none : width_at r k ≡ 0 → class_at r k ≡ 0

-- bucket b of the words is laid out by the rules of "Building"
pub record ByRule (q : Quality) (fs ws : List ℕ) (b : ℕ) : Type 0 where
  pub as_wide : (k : ℕ) → k < 8 → AsWide q fs (bucket_at ws b) k
  -- the first, "if it is wider than 511", "is the free one"; "otherwise the eighth is free"
  pub eighth_free : (bucket_at ws b).flag ≡ not (first_free (width_at (bucket_at ws b) 0))
  -- "a bucket's total code is that of its own true count"
  pub total_of_count : (bucket_at ws b).total ≡ total_code (part_sum (start ws b) (span ws b) fs)

-- a list, theta and q that none of the sentences 1, 3, 4, 5 and 24 refuses
pub record Built (fs : List ℕ) (theta qn qd : ℕ) : Type 0 where
  -- a bucketlet of width 1 fits
  pub one_fits : (a : ℕ) → a < length fs → fits_at (quality theta qn qd) fs a 1 ≡ true
  -- the words are a histogram, of at most a bucket for eight entries and one more for what is left
  pub readable : Readable (words (quality theta qn qd) fs)
  pub few : 8 * buckets (words (quality theta qn qd) fs) ≤ length fs + 7
  pub short : length (words (quality theta qn qd) fs) ≤ words_for (length fs)
  -- the head words hold d, theta and q as they were given
  pub head_entries : entries (words (quality theta qn qd) fs) ≡ length fs
  pub head_theta : theta_in (words (quality theta qn qd) fs) ≡ theta
  pub head_qn : qn_in (words (quality theta qn qd) fs) ≡ qn
  pub head_qd : qd_in (words (quality theta qn qd) fs) ≡ qd
  -- the buckets of the definition are read of the other words
  pub decoded : (b : ℕ) → b < buckets (words (quality theta qn qd) fs)
      → bucket_at (words (quality theta qn qd) fs) b ≡ bucket_from (quality theta qn qd) fs (length fs) (start_from (quality theta qn qd) fs (length fs) 0 b)
  -- each of its bucketlets as wide as its rule allows
  pub by_rule : (b : ℕ) → b < buckets (words (quality theta qn qd) fs) → ByRule (quality theta qn qd) fs (words (quality theta qn qd) fs) b
  -- and the histogram is accepted for its list
  pub accepted : accepted fs (words (quality theta qn qd) fs) ≡ true

pub record Building : Type 0 where
  pub built : (fs : List ℕ) (theta qn qd : ℕ) → refusal (input_sentences fs theta qn qd) ≡ 0 → Built fs theta qn qd
