-- The words of the private contracts that write a histogram.
-- Assumes nothing.
use Rattle.std.specs.Prelude.{◌≡◌, List, ◌++◌, ℕ, ◌+◌, ◌*◌, ◌≤◌, length, take, drop}
use Rattle.words_rules.specs.Words.{head_words, bucket_words}
use Rattle.list_rules.specs.declared.Quality.{Quality}
use Rattle.build_rules.specs.Words.{stretch, bucket_words_of, words, max_words}

-- no list is built into more buckets, since all but the last hold eight entries or more
abbrev pub max_buckets : ℕ
max_buckets = 8192

-- the words of the buckets stand after the head's place, and there are b buckets
pub record Bodied (fs : List ℕ) (q : Quality) (old new : List ℕ) (b : ℕ) : Type 0 where
  pub count : b ≡ length (stretch q fs (length fs) 0)
  pub few : b ≤ max_buckets
  pub body : new ≡ take head_words old ++ bucket_words_of (stretch q fs (length fs) 0) ++ drop (head_words + bucket_words * b) old

-- the histogram is the first n words
pub record Whole (fs : List ℕ) (q : Quality) (new : List ℕ) (n : ℕ) : Type 0 where
  pub count : n ≡ length (words q fs)
  pub few : n ≤ max_words
  pub front : take n new ≡ words q fs
