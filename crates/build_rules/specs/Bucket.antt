-- The bucket that starts at an entry, on a stretch of the list that ends at another (document 01, "Building"). The last bucketlets are empty
-- where the stretch ends before them.
-- Assumes nothing.
use Rattle.std.specs.Prelude.{Bool, cond, not, List, [], ◌∷◌, ℕ, ◌+◌, ◌-◌, min, ltb}
use Rattle.laws.specs.Sums.{sum, part_sum}
use Rattle.counts_rules.specs.Form.{base}
use Rattle.counts_rules.specs.Class.{class_of}
use Rattle.counts_rules.specs.Total.{total_code}
use Rattle.words_rules.specs.declared.Bucket.{Bucket}
use Rattle.words_rules.specs.Limits.{max_listed, max_width}
use Rattle.list_rules.specs.declared.Quality.{Quality}
use Rattle.build_rules.specs.Width.{width}

-- the width at entry a, where it also stops at the end of the stretch
abbrev pub width_within : Quality → List ℕ → ℕ → ℕ → ℕ → ℕ
width_within q fs end a most = width q fs a (min most (end - a))

-- widths that follow one another from entry a on, each with its own limit
unfoldable pub widths_from : Quality → List ℕ → ℕ → ℕ → List ℕ → List ℕ
widths_from q fs end a [] = []
widths_from q fs end a (most ∷ rest) = let w = width_within q fs end a most in w ∷ widths_from q fs end (a + w) rest

-- whether a first bucketlet of that width is the free one, and not the eighth
abbrev pub first_free : ℕ → Bool
first_free first = ltb max_listed first

-- the limits of the seven after the first
abbrev pub rest_limits : ℕ → List ℕ
rest_limits first =
    max_listed ∷ max_listed ∷ max_listed ∷ max_listed ∷ max_listed ∷ max_listed ∷ cond (first_free first) max_listed max_width ∷ []

-- and of all eight
abbrev pub limits_of : ℕ → List ℕ
limits_of first = max_width ∷ rest_limits first

unfoldable pub bucket_widths : Quality → List ℕ → ℕ → ℕ → List ℕ
bucket_widths q fs end a = let first = width_within q fs end a max_width in first ∷ widths_from q fs end (a + first) (rest_limits first)

-- the class of a bucketlet is that of its own true count, and so 0 if it is empty
abbrev pub bucketlet_class : List ℕ → ℕ → ℕ → ℕ
bucketlet_class fs a w = class_of base (part_sum a w fs)

unfoldable pub classes_from : List ℕ → ℕ → List ℕ → List ℕ
classes_from fs a [] = []
classes_from fs a (w ∷ ws) = bucketlet_class fs a w ∷ classes_from fs (a + w) ws

-- the bucket of these widths
abbrev pub bucket_with : List ℕ → ℕ → List ℕ → ℕ → Bucket
bucket_with fs a widths first =
    record {
      widths = widths;
      classes = classes_from fs a widths;
      start = a;
      flag = not (first_free first);
      total = total_code (part_sum a (sum widths) fs);
    }

unfoldable pub bucket_from : Quality → List ℕ → ℕ → ℕ → Bucket
bucket_from q fs end a = bucket_with fs a (bucket_widths q fs end a) (width_within q fs end a max_width)
