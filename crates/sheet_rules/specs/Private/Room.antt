-- The words of the private contracts that print: what keeps lines and sheets short.
-- Assumes nothing.
use Rattle.std.specs.Prelude.{◌≡◌, true, List, ℕ, ◌^◌, ◌≤◌, ◌<◌}
use Rattle.counts_rules.specs.Form.{used_class}
use Rattle.words_rules.specs.declared.Bucket.{Bucket}
use Rattle.words_rules.specs.Words.{entries, buckets}
use Rattle.words_rules.specs.Decoded.{class_at, bucketlet_start}
use Rattle.words_rules.specs.Reading.{Readable}
use Rattle.sheet_rules.specs.Limits.{max_frequencies, max_sheet_buckets}

-- a histogram of so few entries and buckets that its sheet has room
pub record Roomy (ws : List ℕ) : Type 0 where
  pub readable : Readable ws
  pub short : entries ws ≤ max_frequencies
  pub few : buckets ws ≤ max_sheet_buckets

-- a bucket whose lines are short
pub record Printable (r : Bucket) : Type 0 where
  pub small : (k : ℕ) → k ≤ 8 → bucketlet_start r k < 10 ^ 4
  pub class_used : (k : ℕ) → k < 8 → used_class (class_at r k) ≡ true
