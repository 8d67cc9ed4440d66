-- The bucket of an entry (document 01, "Asking", of the finder; sentence 15).
-- Assumes nothing.
use Rattle.std.specs.Prelude.{Bool, cond, List, [], ◌∷◌, ◌++◌, ℕ, leb, ltb, eqb, take, drop}
use Rattle.laws.specs.Refusal.{Sentence, refusal}
use Rattle.laws.specs.Reply.{Reply, answered, refused}
use Rattle.laws.specs.Search.{first, halved}
use Rattle.words_rules.specs.declared.Bucket.{Bucket}
use Rattle.words_rules.specs.Words.{bucket_words, place, entries, buckets, start, end}
use Rattle.words_rules.specs.Decoded.{bucketlet_end}
use Rattle.words_rules.specs.Reading.{read_sentences}

-- 15: the entry is not below d
abbrev pub entry_fault : List ℕ → ℕ → Bool
entry_fault ws e = leb (entries ws) e

abbrev pub find_sentences : List ℕ → ℕ → List Sentence
find_sentences ws e = read_sentences ws ++ (record { number = 15; holds = entry_fault ws e } ∷ [])

abbrev pub find_fault : List ℕ → ℕ → ℕ
find_fault ws e = refusal (find_sentences ws e)

-- the first bucket whose end is above the entry (claims has_bucket, one_bucket_lem)
unfoldable pub bucket_of : List ℕ → ℕ → ℕ
bucket_of ws e = first (λ b. ltb e (end ws b)) (buckets ws) 0

-- what halving comes to where it looks for the last bucket that does not start after the entry: the same, of an entry below d in a readable list (claim
-- halved), and of any other a number without a meaning
unfoldable pub bucket_by_halving : List ℕ → ℕ → ℕ
bucket_by_halving ws e = halved (λ b. leb (start ws b) e) (buckets ws) 0 (buckets ws)

-- the place of its first word
unfoldable pub find_reply : List ℕ → ℕ → Reply
find_reply ws e =
    let fault = find_fault ws e in
    cond (eqb fault 0) (answered (place (bucket_of ws e) 0)) (refused fault)

-- its words, as a part of the list; refused, the empty part
abbrev pub found : List ℕ → ℕ → List ℕ
found ws e = cond (eqb (find_fault ws e) 0) (take bucket_words (drop (place (bucket_of ws e) 0) ws)) []

-- the first bucketlet, 0 to 7, of a bucket whose end is above the entry (claims has_bucketlet, one_bucketlet)
unfoldable pub bucketlet_of : Bucket → ℕ → ℕ
bucketlet_of r e = first (λ k. ltb e (bucketlet_end r k)) 8 0
