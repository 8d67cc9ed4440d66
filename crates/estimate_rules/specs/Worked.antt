-- The starred examples of estimates (document 01, "Examples"), ranges that tell the natural missteps apart, running totals and
-- worksheets, and searches.
-- Assumes nothing.
use Rattle.std.specs.Prelude.{◌≡◌, List, [], ◌∷◌, ◌++◌, map, ℕ, zero, suc, ◌+◌, ◌*◌, ◌^◌, take, set}
use Rattle.laws.specs.Reply.{Reply, answered, refused}
use Rattle.words_rules.specs.Worked.{tens, gaps, zeros, two}
use Rattle.estimate_rules.specs.Asking.{estimate_reply}
use Rattle.estimate_rules.specs.Running.{totals_from, running_totals, fill_reply, totals_filled}
use Rattle.estimate_rules.specs.Worksheet.{worksheet_reply, worksheet_answered}
use Rattle.estimate_rules.specs.Search.{search_reply}

-- two bucketlets of width 3 and number 4, with the total 9
abbrev pub thirds : List ℕ
thirds = 6 ∷ 1 ∷ 0xC02 ∷ 1 ∷ 0x40000203 ∷ 0x85140000 ∷ 0x80000120 ∷ 0xC00C0000 ∷ 0xC0000000 ∷ []

-- 11, 11, 11, 1, each in a bucketlet of its own: 11 stands as 12, the total as 34
abbrev pub elevens : List ℕ
elevens = 4 ∷ 1 ∷ 0xC02 ∷ 1 ∷ 0x40000201 ∷ 0x88208040 ∷ 0x80000440 ∷ 0xC0040201 ∷ 0xC0000000 ∷ []

-- 0, 0, 0, 10: the zeros in a bucketlet of their own
abbrev pub late : List ℕ
late = 4 ∷ 1 ∷ 0xC02 ∷ 1 ∷ 0x40000203 ∷ 0x801C0000 ∷ 0x80000140 ∷ 0xC0040000 ∷ 0xC0000000 ∷ []

-- three buckets of four entries, each with a bucketlet that stands for 34, and the totals 40, 50 and 60
abbrev pub three : List ℕ
three =
    12 ∷ 1 ∷ 0xC02 ∷ 3
    ∷ 0x40000204 ∷ 0x8B000000 ∷ 0x80000500 ∷ 0xC0000000 ∷ 0xC0000000
    ∷ 0x40001204 ∷ 0x8B000000 ∷ 0x80000640 ∷ 0xC0000000 ∷ 0xC0000000
    ∷ 0x40002204 ∷ 0x8B000000 ∷ 0x80000780 ∷ 0xC0000000 ∷ 0xC0000000
    ∷ []

pub record Worked : Type 0 where
  pub one_to_three : estimate_reply tens 1 3 ≡ answered 17
  pub zero_to_three : estimate_reply tens 0 3 ≡ answered 26
  pub zero_to_four : estimate_reply tens 0 4 ≡ answered 40
  pub two_to_two : estimate_reply tens 2 2 ≡ answered 0
  -- the empty range at the end of the list is answered, and one past it refused, as is a range from 3 to 2
  pub at_end : estimate_reply tens 4 4 ≡ answered 0
  pub past_end : estimate_reply tens 4 5 ≡ refused 14
  pub turned : estimate_reply tens 3 2 ≡ refused 14
  -- a fault of the words comes first
  pub words_first : estimate_reply (take 8 tens) 4 5 ≡ refused 8
  pub q_first : estimate_reply (set tens 2 (9 * 2 ^ 10 + 1)) 4 5 ≡ refused 24
  -- two cuts are rounded together: 4/3 and 4/3
  pub rounded_once : estimate_reply thirds 2 4 ≡ answered 3
  -- a cut beside a whole bucketlet: 4/3 and 4
  pub cut_and_whole : estimate_reply thirds 2 6 ≡ answered 6
  -- empty bucketlets give nothing: an empty range where they stand, and 6 + 4 + 17/3 around them
  pub among_empty : estimate_reply gaps 2 2 ≡ answered 0
  pub around_empty : estimate_reply gaps 1 4 ≡ answered 16
  -- a whole bucket gives its total, the other its bucketlets: 3 + 4 + 128, 40 + 128, 4 + 12/4
  pub bucket_inside : estimate_reply two 2 10 ≡ answered 135
  pub both_inside : estimate_reply two 0 10 ≡ answered 168
  pub neither_inside : estimate_reply two 3 5 ≡ answered 7
  -- where the sum is 0 the estimate is 1, of a whole bucket, of a part of a bucketlet and of a whole one, and the empty range gives 0
  pub zeros_asked : estimate_reply zeros 0 3 ∷ estimate_reply zeros 1 2 ∷ estimate_reply late 0 3 ∷ estimate_reply zeros 3 3 ∷ [] ≡ answered 1 ∷ answered 1 ∷ answered 1 ∷ answered 0 ∷ []
  -- and above 0 nothing is added
  pub beside_zeros : estimate_reply late 2 4 ∷ estimate_reply late 0 4 ∷ [] ≡ answered 8 ∷ answered 10 ∷ []
  -- totals replace sums of classes, so a wider range may be estimated lower
  pub narrower : estimate_reply elevens 0 3 ≡ answered 36
  pub wider : estimate_reply elevens 0 4 ≡ answered 34

-- the running totals of three
abbrev totals : List ℕ
totals = 0 ∷ 40 ∷ 90 ∷ 150 ∷ []

abbrev sheet : List ℕ
sheet = 1 ∷ 11 ∷ 0 ∷ 12 ∷ 5 ∷ 6 ∷ 3 ∷ 8 ∷ 7 ∷ 7 ∷ []

-- what is replied of three to other running totals, another sheet and room for its answers

abbrev with_totals : List ℕ → Reply
with_totals rs = worksheet_reply three rs sheet 5

abbrev with_sheet : List ℕ → ℕ → Reply
with_sheet s lent = worksheet_reply three totals s lent

pub record WorkedSheets : Type 0 where
  -- one place more than there are buckets: before the first nothing, at last all
  pub running_totals_lem : running_totals tens ∷ running_totals three ∷ [] ≡ (0 ∷ 40 ∷ []) ∷ totals ∷ []
  -- of buckets 1 and 2
  pub difference : totals_from three 1 2 ≡ 110
  -- four places are written, and a fifth and a sixth stay; three are too few, and stay
  pub filled : totals_filled three (1 ∷ 2 ∷ 3 ∷ 4 ∷ 5 ∷ 6 ∷ []) ≡ 0 ∷ 40 ∷ 90 ∷ 150 ∷ 5 ∷ 6 ∷ []
  pub not_filled : totals_filled three (1 ∷ 2 ∷ 3 ∷ []) ≡ 1 ∷ 2 ∷ 3 ∷ []
  pub fill_replies : map (fill_reply three) (6 ∷ 4 ∷ 3 ∷ 0 ∷ []) ≡ answered 4 ∷ answered 4 ∷ refused 19 ∷ refused 19 ∷ []
  -- a fault of the words comes first
  pub fill_words_first : fill_reply [] 0 ∷ fill_reply (take 18 three) 0 ∷ fill_reply (set three 2 (9 * 2 ^ 10 + 1)) 0 ∷ [] ≡ refused 7 ∷ refused 8 ∷ refused 24 ∷ []
  -- 51/2 + 50 + 51/2, where two ends rounded by themselves give 102; all three totals; 17/2; 17/2 + 50; and the empty range
  pub sheet_answered : worksheet_answered three totals sheet (1 ∷ 2 ∷ 3 ∷ 4 ∷ 5 ∷ 6 ∷ 7 ∷ []) ≡ 101 ∷ 150 ∷ 9 ∷ 59 ∷ 0 ∷ 6 ∷ 7 ∷ []
  pub sheet_refused : worksheet_answered three totals (1 ∷ 11 ∷ 3 ∷ 2 ∷ []) (1 ∷ 2 ∷ 3 ∷ []) ≡ 1 ∷ 2 ∷ 3 ∷ []
  -- places of running totals that are not needed may hold anything, and one that is needed its running total alone: 20
  pub sheet_totals :
      map with_totals (totals ∷ (0 ∷ 40 ∷ 90 ∷ 150 ∷ 3 ∷ []) ∷ (1 ∷ 40 ∷ 90 ∷ 150 ∷ []) ∷ (0 ∷ 40 ∷ 91 ∷ 150 ∷ []) ∷ (0 ∷ 40 ∷ 90 ∷ 149 ∷ []) ∷ [])
      ≡ answered 5 ∷ answered 5 ∷ refused 20 ∷ refused 20 ∷ refused 20 ∷ []
  -- too few, one of them wrong or not: 19
  pub sheet_short : map with_totals ((0 ∷ 40 ∷ 90 ∷ []) ∷ (1 ∷ 40 ∷ 90 ∷ []) ∷ [] ∷ []) ≡ refused 19 ∷ refused 19 ∷ refused 19 ∷ []
  pub sheet_room : with_sheet sheet 5 ∷ with_sheet sheet 4 ∷ [] ≡ answered 5 ∷ refused 19 ∷ []
  -- a word left over: 21 with room for the whole ranges, else 19
  pub sheet_odd : with_sheet (1 ∷ 3 ∷ 2 ∷ []) 1 ∷ with_sheet (1 ∷ 3 ∷ 2 ∷ []) 0 ∷ with_sheet (1 ∷ []) 0 ∷ [] ≡ refused 21 ∷ refused 19 ∷ refused 21 ∷ []
  -- in the last range x above y, or y above d: 21; d itself is taken
  pub sheet_ranges :
      with_sheet (0 ∷ 1 ∷ 3 ∷ 2 ∷ []) 2 ∷ with_sheet (0 ∷ 1 ∷ 12 ∷ 13 ∷ []) 2 ∷ with_sheet (0 ∷ 1 ∷ 13 ∷ 13 ∷ []) 2 ∷ with_sheet (0 ∷ 1 ∷ 12 ∷ 12 ∷ []) 2 ∷ []
      ≡ refused 21 ∷ refused 21 ∷ refused 21 ∷ answered 2 ∷ []
  -- the empty sheet has no answers, and is refused as any other
  pub sheet_empty : with_sheet [] 0 ∷ worksheet_reply three (0 ∷ []) [] 0 ∷ worksheet_reply three (0 ∷ 0 ∷ 0 ∷ 0 ∷ []) [] 0 ∷ [] ≡ answered 0 ∷ refused 19 ∷ refused 20 ∷ []
  -- 7, 24 and 8 come before 19, 19 before 20, and 20 before 21
  pub sheet_order :
      worksheet_reply [] [] sheet 0 ∷ worksheet_reply (set three 2 (9 * 2 ^ 10 + 1)) [] sheet 0 ∷ worksheet_reply (take 18 three) [] sheet 0
      ∷ worksheet_reply three (1 ∷ 40 ∷ 90 ∷ 150 ∷ []) sheet 4 ∷ worksheet_reply three (1 ∷ 40 ∷ 90 ∷ 150 ∷ []) (3 ∷ 2 ∷ 1 ∷ []) 1 ∷ []
      ≡ refused 7 ∷ refused 24 ∷ refused 8 ∷ refused 19 ∷ refused 20 ∷ []

-- the four entries of tens, and then so many empty ranges at its end
abbrev each_of_tens : ℕ → List ℕ
each_of_tens zero = 0 ∷ 1 ∷ 1 ∷ 2 ∷ 2 ∷ 3 ∷ 3 ∷ 4 ∷ []
each_of_tens (suc n) = each_of_tens n ++ (4 ∷ 4 ∷ [])

abbrev in_tens : List ℕ → Reply
in_tens ranges = search_reply tens ranges

pub record WorkedSearches : Type 0 where
  -- one range is answered as by the single call: 17, 26, 40, and 0 for the empty one
  pub one_range : map in_tens ((1 ∷ 3 ∷ []) ∷ (0 ∷ 3 ∷ []) ∷ (0 ∷ 4 ∷ []) ∷ (2 ∷ 2 ∷ []) ∷ []) ≡ answered 17 ∷ answered 26 ∷ answered 40 ∷ answered 0 ∷ []
  -- each range is rounded by itself: 17/2 four times, where one sum gives 34
  pub four_ranges : in_tens (each_of_tens 0) ≡ answered 36
  -- 4/3 twice, and 1 twice where the sum is 0
  pub each_rounded : search_reply thirds (2 ∷ 3 ∷ 3 ∷ 4 ∷ []) ∷ search_reply zeros (0 ∷ 1 ∷ 1 ∷ 2 ∷ 3 ∷ 3 ∷ []) ∷ [] ≡ answered 4 ∷ answered 2 ∷ []
  -- buckets of three: 51/2, 50 and 51/2
  pub over_buckets : search_reply three (1 ∷ 4 ∷ 4 ∷ 8 ∷ 8 ∷ 11 ∷ []) ≡ answered 102
  -- 14 for a range, never for the word left over
  pub broken : map in_tens ((0 ∷ 5 ∷ 7 ∷ []) ∷ (3 ∷ 2 ∷ 2 ∷ 4 ∷ []) ∷ (0 ∷ 1 ∷ 5 ∷ 5 ∷ []) ∷ []) ≡ refused 14 ∷ refused 14 ∷ refused 14 ∷ []
  -- 22: a word left over, whatever it is, or no range
  pub odd : map in_tens ((5 ∷ []) ∷ [] ∷ (0 ∷ 1 ∷ 5 ∷ []) ∷ (0 ∷ 1 ∷ 1 ∷ []) ∷ []) ≡ refused 22 ∷ refused 22 ∷ refused 22 ∷ refused 22 ∷ []
  -- sixteen ranges are taken; a seventeenth is not, and 14 is said of it first; nor is a word after the sixteenth
  pub most : in_tens (each_of_tens 12) ≡ answered 36
  pub too_many : in_tens (each_of_tens 13) ∷ in_tens (each_of_tens 12 ++ (4 ∷ 5 ∷ [])) ∷ in_tens (each_of_tens 12 ++ (4 ∷ [])) ∷ [] ≡ refused 22 ∷ refused 14 ∷ refused 22 ∷ []
  -- 23, also where a range is empty; one may start where the one ahead of it ends
  pub order :
      map in_tens ((0 ∷ 3 ∷ 2 ∷ 4 ∷ []) ∷ (3 ∷ 3 ∷ 2 ∷ 4 ∷ []) ∷ (0 ∷ 4 ∷ 2 ∷ 2 ∷ []) ∷ (0 ∷ 1 ∷ 2 ∷ 4 ∷ 3 ∷ 4 ∷ []) ∷ [])
      ≡ refused 23 ∷ refused 23 ∷ refused 23 ∷ refused 23 ∷ []
  pub touching : map in_tens ((0 ∷ 2 ∷ 2 ∷ 4 ∷ []) ∷ (0 ∷ 0 ∷ 0 ∷ 4 ∷ 4 ∷ 4 ∷ []) ∷ []) ≡ answered 34 ∷ answered 40 ∷ []
  -- 14 comes before 22, 22 before 23, and a fault of the words before all
  pub refusal_order :
      in_tens (0 ∷ 3 ∷ 2 ∷ 5 ∷ 7 ∷ []) ∷ in_tens (0 ∷ 3 ∷ 2 ∷ 4 ∷ 7 ∷ [])
      ∷ search_reply [] [] ∷ search_reply (take 8 tens) [] ∷ search_reply (set tens 2 (9 * 2 ^ 10 + 1)) (0 ∷ 5 ∷ []) ∷ []
      ≡ refused 14 ∷ refused 22 ∷ refused 7 ∷ refused 8 ∷ refused 24 ∷ []
