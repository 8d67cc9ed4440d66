-- A bucket's words as a decoded bucket, and back (document 01, "Words"). The words hold the start and seven widths; where the bucket
-- ends is known from what follows it.
-- Assumes nothing.
use Rattle.std.specs.Prelude.{Bool, true, false, cond, List, [], ◌∷◌, ◌++◌, ℕ, suc, ◌+◌, ◌-◌, ◌*◌, ◌^◌, get_or}
use Rattle.laws.specs.Field.{put}
use Rattle.laws.specs.Sums.{sum, prefix_sum}
use Rattle.counts_rules.specs.Form.{base}
use Rattle.counts_rules.specs.Class.{class_number}
use Rattle.words_rules.specs.declared.Bucket.{Bucket}
use Rattle.words_rules.specs.Words.{start_in, flag_in, listed_in, classes_in, total_in, packed_at, end}

-- the free width at the eighth place or at the first, with the listed ones at the others
abbrev pub with_free : Bool → ℕ → List ℕ → List ℕ
with_free true free listed = listed ++ (free ∷ [])
with_free false free listed = free ∷ listed

-- the bucket that ends at `end`: its free width is what is left
unfoldable pub decode : List ℕ → ℕ → Bucket
decode packed end =
    record {
      widths = with_free (flag_in packed) (end - start_in packed - sum (listed_in packed)) (listed_in packed);
      classes = classes_in packed;
      start = start_in packed;
      flag = flag_in packed;
      total = total_in packed;
    }

-- the width, the class and the number of bucketlet k, 0 to 7

abbrev pub width_at : Bucket → ℕ → ℕ
width_at r k = get_or r.widths k 0

abbrev pub class_at : Bucket → ℕ → ℕ
class_at r k = get_or r.classes k 0

abbrev pub number_at : Bucket → ℕ → ℕ
number_at r k = class_number base (class_at r k)

-- the listed width k, 0 to 6
abbrev pub listed_at : Bucket → ℕ → ℕ
listed_at r k = width_at r (cond r.flag k (suc k))

-- the words of a bucket; each field is cut to its bits

abbrev pub of_kind : ℕ → ℕ
of_kind k = k * 2 ^ 30

abbrev pub start_word : ℕ → Bool → ℕ → ℕ
start_word start flag listed = of_kind 1 + put start 29 10 + put (cond flag 1 0) 9 9 + put listed 8 0

abbrev pub class_word : ℕ → ℕ → ℕ → ℕ → ℕ → ℕ
class_word c₀ c₁ c₂ c₃ c₄ = of_kind 2 + put c₀ 29 24 + put c₁ 23 18 + put c₂ 17 12 + put c₃ 11 6 + put c₄ 5 0

abbrev pub total_word : ℕ → ℕ → ℕ → ℕ → ℕ
total_word c₅ c₆ c₇ total = of_kind 2 + put c₅ 29 24 + put c₆ 23 18 + put c₇ 17 12 + put total 11 0

abbrev pub width_word : ℕ → ℕ → ℕ → ℕ
width_word a b c = of_kind 3 + put a 26 18 + put b 17 9 + put c 8 0

unfoldable pub encode : Bucket → List ℕ
encode r =
    start_word r.start r.flag (listed_at r 0)
    ∷ class_word (class_at r 0) (class_at r 1) (class_at r 2) (class_at r 3) (class_at r 4)
    ∷ total_word (class_at r 5) (class_at r 6) (class_at r 7) r.total
    ∷ width_word (listed_at r 1) (listed_at r 2) (listed_at r 3)
    ∷ width_word (listed_at r 4) (listed_at r 5) (listed_at r 6)
    ∷ []

-- bucket b of a list
abbrev pub bucket_at : List ℕ → ℕ → Bucket
bucket_at ws b = decode (packed_at ws b) (end ws b)

-- where bucketlet k, 0 to 7, of a bucket starts and ends

abbrev pub bucketlet_start : Bucket → ℕ → ℕ
bucketlet_start r k = r.start + prefix_sum k r.widths

abbrev pub bucketlet_end : Bucket → ℕ → ℕ
bucketlet_end r k = bucketlet_start r (suc k)
