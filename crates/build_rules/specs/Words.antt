-- The buckets of a stretch of the list, and the words of the whole histogram (document 01, "Building" and "Words").
-- Assumes nothing.
use Rattle.std.specs.Prelude.{cond, List, [], ◌∷◌, ◌++◌, ℕ, zero, suc, ◌+◌, ◌*◌, ◌/◌, ltb, length}
use Rattle.laws.specs.Sums.{sum}
use Rattle.words_rules.specs.declared.Head.{Head}
use Rattle.words_rules.specs.declared.Bucket.{Bucket}
use Rattle.words_rules.specs.Words.{head_words, bucket_words, encode_head}
use Rattle.words_rules.specs.Decoded.{encode}
use Rattle.list_rules.specs.declared.Quality.{Quality}
use Rattle.list_rules.specs.Limits.{max_entries}
use Rattle.build_rules.specs.Bucket.{bucket_widths, bucket_from}

-- the buckets from entry a to the end, at most n of them; no list has more buckets than entries
unfoldable pub buckets_from : ℕ → Quality → List ℕ → ℕ → ℕ → List Bucket
buckets_from zero q fs end a = []
buckets_from (suc n) q fs end a =
    let b = bucket_from q fs end a in
    cond (ltb a end) (b ∷ buckets_from n q fs end (a + sum b.widths)) []

-- where bucket k of them starts
unfoldable pub start_from : Quality → List ℕ → ℕ → ℕ → ℕ → ℕ
start_from q fs end a zero = a
start_from q fs end a (suc k) = start_from q fs end (a + sum (bucket_widths q fs end a)) k

abbrev pub stretch : Quality → List ℕ → ℕ → ℕ → List Bucket
stretch q fs end a = buckets_from (length fs) q fs end a

-- their words, one bucket after the other
unfoldable pub bucket_words_of : List Bucket → List ℕ
bucket_words_of [] = []
bucket_words_of (b ∷ bs) = encode b ++ bucket_words_of bs

-- the head of a histogram of d entries and n buckets
abbrev pub head_with : Quality → ℕ → ℕ → Head
head_with q d n = record { entries = d; theta = q.theta; qn = q.qn; qd = q.qd; buckets = n }

-- the words of a histogram with these buckets
abbrev pub words_with : Quality → ℕ → List Bucket → List ℕ
words_with q d bs = encode_head (head_with q d (length bs)) ++ bucket_words_of bs

-- the histogram of a list
unfoldable pub words : Quality → List ℕ → List ℕ
words q fs = words_with q (length fs) (stretch q fs (length fs) 0)

-- how many words the histogram of a list of d entries has at most: each of its buckets but the last holds eight entries or more (claim short); one of
-- another make may have a bucket for each entry
abbrev pub words_for : ℕ → ℕ
words_for d = head_words + bucket_words * ((d + 7) / 8)

-- and that of any list
abbrev pub max_words : ℕ
max_words = words_for max_entries
