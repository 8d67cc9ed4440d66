-- What is claimed of 0 and of what is accepted (document 02, requests iv and v); proofs/Proved.antt proves it.
-- Assumes nothing.
use Rattle.std.specs.Prelude.{◌≡◌, true, List, ℕ, ◌*◌, ◌≤◌, ◌<◌}
use Rattle.laws.specs.Sums.{part_sum}
use Rattle.words_rules.specs.Words.{qn, qd, buckets}
use Rattle.words_rules.specs.Decoded.{class_at, bucket_at, bucketlet_start, width_at}
use Rattle.list_rules.specs.declared.Quality.{Quality}
use Rattle.list_rules.specs.Limits.{max_q}
use Rattle.fit.specs.Fit.{near}
use Rattle.fit.specs.Accepted.{accepted}

-- "accepted now asks that 24 names no fault either"
pub record Factors : Type 0 where
  pub most_q : (fs ws : List ℕ) → accepted fs ws ≡ true → qn ws ≤ max_q * qd ws

-- bucket b has eight classes 0
abbrev pub NoClass : List ℕ → ℕ → Type 0
NoClass ws b = (k : ℕ) → k < 8 → class_at (bucket_at ws b) k ≡ 0

pub record Zeros : Type 0 where
  -- "a whole bucketlet or bucket fits if both numbers are 0": the second half says so already
  pub both_0 : (q : Quality) (w : ℕ) → near q 0 (w * 0) w ≡ true
  -- and that 0 is near no other number
  pub count_0 : (q : Quality) (x w : ℕ) → 1 ≤ q.qd → near q 0 x w ≡ true → x ≡ 0
  pub number_0 : (q : Quality) (f w : ℕ) → 1 ≤ q.qd → 1 ≤ w → near q f 0 w ≡ true → f ≡ 0
  -- so a bucketlet of class 0 is accepted only where its words no longer occur
  pub class_0 : (fs ws : List ℕ) → accepted fs ws ≡ true → (b k : ℕ) → b < buckets ws → k < 8 → class_at (bucket_at ws b) k ≡ 0
      → part_sum (bucketlet_start (bucket_at ws b) k) (width_at (bucket_at ws b) k) fs ≡ 0
  -- and a bucket of eight classes 0 only with code 0, though it reads with any valid one
  pub code_0 : (fs ws : List ℕ) → accepted fs ws ≡ true → (b : ℕ) → b < buckets ws → NoClass ws b → (bucket_at ws b).total ≡ 0
