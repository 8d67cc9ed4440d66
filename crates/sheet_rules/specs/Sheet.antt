-- What is printed for an input (document 01, "The exam sheet").
-- Assumes nothing.
use Rattle.std.specs.Prelude.{cond, not, List, [], ◌∷◌, ◌++◌, ℕ, zero, suc, eqb, get_or, drop}
use Rattle.laws.specs.Refusal.{Sentence, refusal}
use Rattle.counts_rules.specs.Total.{total_number}
use Rattle.words_rules.specs.declared.Bucket.{Bucket}
use Rattle.words_rules.specs.Words.{entries, theta, qn, qd, buckets, start, end}
use Rattle.words_rules.specs.Decoded.{bucket_at, class_at, bucketlet_start, bucketlet_end, width_at, number_at}
use Rattle.build_rules.specs.Words.{words}
use Rattle.list_rules.specs.Quality.{quality, input_sentences}
use Rattle.sheet_rules.specs.Input.{as_described, numbers}
use Rattle.sheet_rules.specs.Lines.{head_line, bucket_line, bucketlet_line, refused_line}

-- the bytes of 0, 1, .. up to n, without n, one after the other
unfoldable pub joined : ℕ → (ℕ → List ℕ) → List ℕ
joined zero f = []
joined (suc n) f = joined n f ++ f n

-- bucketlet k of a bucket; an empty one is not printed
unfoldable pub bucketlet_part : Bucket → ℕ → List ℕ
bucketlet_part r k =
    cond (eqb (width_at r k) 0)
    []
    (bucketlet_line (bucketlet_start r k) (bucketlet_end r k) (class_at r k) (number_at r k))

-- bucket b of a histogram, and its bucketlets
unfoldable pub bucket_part : List ℕ → ℕ → List ℕ
bucket_part ws b =
    bucket_line (start ws b) (end ws b) (bucket_at ws b).total (total_number (bucket_at ws b).total) ++ joined 8 (bucketlet_part (bucket_at ws b))

-- a histogram
unfoldable pub histogram_sheet : List ℕ → List ℕ
histogram_sheet ws = head_line (entries ws) (theta ws) (qn ws) (qd ws) (buckets ws) ++ joined (buckets ws) (bucket_part ws)

-- the histogram of a list, or the number that the builder refuses it with: 1, 3, 4, 5 or 24, since there is room for its words
unfoldable pub list_sheet : List ℕ → ℕ → ℕ → ℕ → List ℕ
list_sheet fs theta qn qd =
    let fault = refusal (input_sentences fs theta qn qd) in
    cond (eqb fault 0) (histogram_sheet (words (quality theta qn qd) fs)) (refused_line fault)

-- theta, qn and qd, then the frequencies
unfoldable pub numbers_sheet : List ℕ → List ℕ
numbers_sheet ns = list_sheet (drop 3 ns) (get_or ns 0 0) (get_or ns 1 0) (get_or ns 2 0)

-- 18: the input is not as described; then 1, 3, 4, 5 and 24, as the builder tests its numbers
abbrev pub sheet_sentences : List ℕ → List Sentence
sheet_sentences input =
    let ns = numbers input in
    record { number = 18; holds = not (as_described input) } ∷ input_sentences (drop 3 ns) (get_or ns 0 0) (get_or ns 1 0) (get_or ns 2 0)

-- the number that an input is refused with, 0 if it is not
unfoldable pub sheet_fault : List ℕ → ℕ
sheet_fault input = refusal (sheet_sentences input)

-- 18 comes first
unfoldable pub sheet : List ℕ → List ℕ
sheet input = cond (as_described input) (numbers_sheet (numbers input)) (refused_line 18)

-- the lent bytes afterwards: those of a text, as far as they reach, and then what stood there
unfoldable pub filled : List ℕ → List ℕ → List ℕ
filled old [] = old
filled [] (c ∷ text) = []
filled (x ∷ old) (c ∷ text) = c ∷ filled old text
