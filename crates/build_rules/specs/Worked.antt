-- The starred examples of building (document 01, "Examples"), and lists that tell the natural missteps apart.
-- Assumes nothing.
use Rattle.std.specs.Prelude.{◌≡◌, true, false, List, [], ◌∷◌, ℕ, length}
use Rattle.counts_rules.specs.Form.{base}
use Rattle.counts_rules.specs.Class.{class_number}
use Rattle.words_rules.specs.Worked.{tens, pair, zeros}
use Rattle.list_rules.specs.declared.Quality.{Quality}
use Rattle.build_rules.specs.Bucket.{first_free, limits_of, bucket_widths, classes_from}
use Rattle.build_rules.specs.Words.{words}
use Rattle.build_rules.specs.Building.{build_fault}
use Rattle.list_rules.specs.Quality.{quality}

-- the widths of the bucket at the start of a list
abbrev pub first_widths : Quality → List ℕ → List ℕ
first_widths q fs = bucket_widths q fs (length fs) 0

-- and their classes
abbrev pub first_classes : Quality → List ℕ → List ℕ
first_classes q fs = classes_from fs 0 (first_widths q fs)

pub record Worked : Type 0 where
  pub tens_words : words (quality 1 3 2) (10 ∷ 10 ∷ 10 ∷ 10 ∷ []) ≡ tens
  pub class_11 : class_number base 11 ≡ 34
  pub pair_words : words (quality 1 3 2) (1 ∷ 100 ∷ []) ≡ pair
  -- with theta 99 still two bucketlets; with theta 100, one
  pub theta_99 : first_widths (quality 99 3 2) (1 ∷ 100 ∷ []) ≡ 1 ∷ 1 ∷ 0 ∷ 0 ∷ 0 ∷ 0 ∷ 0 ∷ 0 ∷ []
  pub theta_100 : first_widths (quality 100 3 2) (1 ∷ 100 ∷ []) ≡ 2 ∷ 0 ∷ 0 ∷ 0 ∷ 0 ∷ 0 ∷ 0 ∷ 0 ∷ []
  -- words that no longer occur, alone, at either end of a bucketlet that theta excuses, and beside one that it does not
  pub zeros_words : words (quality 1 3 2) (0 ∷ 0 ∷ 0 ∷ []) ≡ zeros
  pub zeros_widths : first_widths (quality 5 3 2) (0 ∷ 0 ∷ 5 ∷ 0 ∷ 100 ∷ []) ≡ 4 ∷ 1 ∷ 0 ∷ 0 ∷ 0 ∷ 0 ∷ 0 ∷ 0 ∷ []
  pub zeros_classes : first_classes (quality 5 3 2) (0 ∷ 0 ∷ 5 ∷ 0 ∷ 100 ∷ []) ≡ 5 ∷ 14 ∷ 0 ∷ 0 ∷ 0 ∷ 0 ∷ 0 ∷ 0 ∷ []
  pub zeros_apart : first_widths (quality 1 3 2) (0 ∷ 0 ∷ 10 ∷ 0 ∷ []) ≡ 2 ∷ 1 ∷ 1 ∷ 0 ∷ 0 ∷ 0 ∷ 0 ∷ 0 ∷ []
  -- the class's number is fitted and not the exact average (2 wide)
  pub not_average : first_widths (quality 1 5 4) (2 ∷ 3 ∷ []) ≡ 1 ∷ 1 ∷ 0 ∷ 0 ∷ 0 ∷ 0 ∷ 0 ∷ 0 ∷ []
  -- theta is held against the estimate unrounded (floored, the first would be 3 wide)
  pub unrounded : first_widths (quality 2 2 1) (4 ∷ 3 ∷ 1 ∷ []) ≡ 2 ∷ 1 ∷ 0 ∷ 0 ∷ 0 ∷ 0 ∷ 0 ∷ 0 ∷ []
  -- against the estimate too, not the count alone (3 wide)
  pub both_small : first_widths (quality 5 2 1) (20 ∷ 12 ∷ 3 ∷ []) ≡ 2 ∷ 1 ∷ 0 ∷ 0 ∷ 0 ∷ 0 ∷ 0 ∷ 0 ∷ []
  -- against the count too, not the estimate alone (4 wide)
  pub count_small : first_widths (quality 7 5 4) (4 ∷ 1 ∷ 4 ∷ 1 ∷ []) ≡ 3 ∷ 1 ∷ 0 ∷ 0 ∷ 0 ∷ 0 ∷ 0 ∷ 0 ∷ []
  -- and a count of theta itself is small (otherwise 1 wide)
  pub not_strict : first_widths (quality 7 3 2) (1 ∷ 7 ∷ 2 ∷ []) ≡ 2 ∷ 1 ∷ 0 ∷ 0 ∷ 0 ∷ 0 ∷ 0 ∷ 0 ∷ []
  -- a width that fits again after a failure does not count: of 4, 12, 6 width 3 fits and width 2 does not
  pub fits_again : first_widths (quality 2 2 1) (4 ∷ 12 ∷ 6 ∷ []) ≡ 1 ∷ 2 ∷ 0 ∷ 0 ∷ 0 ∷ 0 ∷ 0 ∷ 0 ∷ []
  -- nine words lent for nine, and eight; a fault of theta or q comes before that of the lent words: theta 0, q 15/1
  pub lent :
      build_fault (10 ∷ 10 ∷ 10 ∷ 10 ∷ []) 1 3 2 9 ∷ build_fault (10 ∷ 10 ∷ 10 ∷ 10 ∷ []) 1 3 2 8 ∷ build_fault (10 ∷ []) 0 3 2 0 ∷ build_fault (10 ∷ []) 1 15 1 0 ∷ []
      ≡ 0 ∷ 6 ∷ 4 ∷ 24 ∷ []
  -- the first bucketlet has no other limit than 4,095; where it is wider than 511 it is the free one, and else the eighth is
  pub narrow_first : limits_of 511 ≡ 4095 ∷ 511 ∷ 511 ∷ 511 ∷ 511 ∷ 511 ∷ 511 ∷ 4095 ∷ []
  pub wide_first : limits_of 512 ≡ 4095 ∷ 511 ∷ 511 ∷ 511 ∷ 511 ∷ 511 ∷ 511 ∷ 511 ∷ []
  pub free_place : first_free 511 ∷ first_free 512 ∷ [] ≡ false ∷ true ∷ []
