-- The sum that estimates a range, not yet rounded (document 01, "Asking", its first paragraph). A range from x to y holds the entries from
-- x on and before y, and so does the span of a bucket or a bucketlet, from a to e.
-- Assumes nothing.
use Rattle.std.specs.Prelude.{Bool, cond, ◌&&◌, List, ℕ, ◌+◌, ◌-◌, ◌*◌, min, max, leb, eqb}
use Rattle.counts_rules.specs.Total.{total_number}
use Rattle.words_rules.specs.declared.Bucket.{Bucket}
use Rattle.words_rules.specs.Words.{buckets, start, end}
use Rattle.words_rules.specs.Decoded.{bucket_at, bucketlet_start, width_at, number_at}
use Rattle.estimate_rules.specs.declared.Fraction.{Fraction}
use Rattle.estimate_rules.specs.Fraction.{number, nothing, quotient, sum_of}

-- the span lies wholly inside the range
abbrev pub inside : ℕ → ℕ → ℕ → ℕ → Bool
inside x y a e = leb x a && leb e y

-- how many entries of the span the range holds
abbrev pub overlap : ℕ → ℕ → ℕ → ℕ → ℕ
overlap x y a e = min y e - max x a

-- what a bucketlet at a, of width w, that stands for s gives: nothing if the range holds no entry of it, s if it holds all, else n * s / w
unfoldable pub piece : ℕ → ℕ → ℕ → ℕ → ℕ → Fraction
piece x y a w s =
    let n = overlap x y a (a + w) in
    cond (eqb n 0) nothing (cond (inside x y a (a + w)) (number s) (quotient (n * s) w))

-- bucketlet k of a bucket
abbrev pub bucketlet_piece : ℕ → ℕ → Bucket → ℕ → Fraction
bucketlet_piece x y r k = piece x y (bucketlet_start r k) (width_at r k) (number_at r k)

-- the number that the total of bucket b stands for
abbrev pub total_at : List ℕ → ℕ → ℕ
total_at ws b = total_number (bucket_at ws b).total

-- bucket b: its total if it lies wholly inside, otherwise its bucketlets
unfoldable pub bucket_piece : List ℕ → ℕ → ℕ → ℕ → Fraction
bucket_piece ws x y b =
    cond (inside x y (start ws b) (end ws b)) (number (total_at ws b)) (sum_of 8 (bucketlet_piece x y (bucket_at ws b)))

unfoldable pub exact : List ℕ → ℕ → ℕ → Fraction
exact ws x y = sum_of (buckets ws) (bucket_piece ws x y)
