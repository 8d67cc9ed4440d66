-- Worked examples of the words (document 01, "Examples", and the faults that each sentence names); proofs/Computed.antt proves them.
-- Assumes nothing.
use Rattle.std.specs.Prelude.{◌≡◌, true, false, List, [], ◌∷◌, ◌++◌, map, ℕ, ◌+◌, ◌*◌, ◌^◌, take, drop, set}
use Rattle.laws.specs.Reply.{answered, refused as refused_with}
use Rattle.words_rules.specs.declared.Bucket.{Bucket}
use Rattle.words_rules.specs.Words.{end}
use Rattle.words_rules.specs.Decoded.{decode, encode, bucket_at, bucketlet_start, bucketlet_end}
use Rattle.words_rules.specs.Reading.{read_fault}
use Rattle.words_rules.specs.Finding.{bucket_of, bucket_by_halving, find_fault, find_reply, found, bucketlet_of}

-- 10, 10, 10, 10, theta 1, q 3/2
abbrev pub tens : List ℕ
tens = 4 ∷ 1 ∷ 0xC02 ∷ 1 ∷ 0x40000204 ∷ 0x8B000000 ∷ 0x80000500 ∷ 0xC0000000 ∷ 0xC0000000 ∷ []

abbrev pub tens_bucket : Bucket
tens_bucket =
    record {
      widths = 4 ∷ 0 ∷ 0 ∷ 0 ∷ 0 ∷ 0 ∷ 0 ∷ 0 ∷ [];
      classes = 11 ∷ 0 ∷ 0 ∷ 0 ∷ 0 ∷ 0 ∷ 0 ∷ 0 ∷ [];
      start = 0;
      flag = true;
      total = 1280;
    }

-- 1, 100, theta 1, q 3/2
abbrev pub pair : List ℕ
pair = 2 ∷ 1 ∷ 0xC02 ∷ 1 ∷ 0x40000201 ∷ 0x81380000 ∷ 0x80000CA0 ∷ 0xC0040000 ∷ 0xC0000000 ∷ []

abbrev pub pair_bucket : Bucket
pair_bucket =
    record {
      widths = 1 ∷ 1 ∷ 0 ∷ 0 ∷ 0 ∷ 0 ∷ 0 ∷ 0 ∷ [];
      classes = 1 ∷ 14 ∷ 0 ∷ 0 ∷ 0 ∷ 0 ∷ 0 ∷ 0 ∷ [];
      start = 0;
      flag = true;
      total = 3232;
    }

-- a bucket that has another number in each field, as it is decoded where it ends at 3,000
abbrev pub full_bucket : Bucket
full_bucket =
    record {
      widths = 36 ∷ 511 ∷ 510 ∷ 3 ∷ 257 ∷ 130 ∷ 66 ∷ 33 ∷ [];
      classes = 62 ∷ 1 ∷ 33 ∷ 18 ∷ 12 ∷ 7 ∷ 40 ∷ 21 ∷ [];
      start = 1454;
      flag = false;
      total = 4087;
    }

abbrev pub full_words : List ℕ
full_words = 0x4016B9FF ∷ 0xBE06148C ∷ 0x87A15FF7 ∷ 0xC7F80701 ∷ 0xC2088421 ∷ []

-- empty bucketlets before, between and after others, the first of them free: widths 0, 2, 0, 0, 1, 0, 3, 0
abbrev pub gaps : List ℕ
gaps = 6 ∷ 1 ∷ 0x801 ∷ 1 ∷ 0x40000002 ∷ 0x80200005 ∷ 0x80240420 ∷ 0xC0000001 ∷ 0xC0000600 ∷ []

-- 0, 0, 0, theta 1, q 3/2
abbrev pub zeros : List ℕ
zeros = 3 ∷ 1 ∷ 0xC02 ∷ 1 ∷ 0x40000203 ∷ 0x80000000 ∷ 0x80000000 ∷ 0xC0000000 ∷ 0xC0000000 ∷ []

-- two buckets, of the entries 0 to 3 and 4 to 9
abbrev pub two : List ℕ
two =
    10 ∷ 1 ∷ 0xC02 ∷ 2
    ∷ 0x40000201 ∷ 0x810C4140 ∷ 0x80000500 ∷ 0xC0040201 ∷ 0xC0000000
    ∷ 0x40001001 ∷ 0x881C0180 ∷ 0x80000801 ∷ 0xC0000200 ∷ 0xC0000000
    ∷ []

-- a free width of 4,095, and a bucket of one entry
abbrev pub wide : List ℕ
wide =
    4096 ∷ 1 ∷ 0xC02 ∷ 2
    ∷ 0x40000200 ∷ 0x80000000 ∷ 0x8000B500 ∷ 0xC0000000 ∷ 0xC0000000
    ∷ 0x403FFE01 ∷ 0x81000000 ∷ 0x80000020 ∷ 0xC0000000 ∷ 0xC0000000
    ∷ []

pub record Decoding : Type 0 where
  pub tens_decoded : bucket_at tens 0 ≡ tens_bucket
  pub tens_encoded : encode tens_bucket ≡ drop 4 tens
  pub pair_decoded : bucket_at pair 0 ≡ pair_bucket
  pub pair_encoded : encode pair_bucket ≡ drop 4 pair
  pub full_decoded : decode full_words 3000 ≡ full_bucket
  pub full_encoded : encode full_bucket ≡ full_words
  -- a bucket ends where the next starts, the last at d
  pub ends : end two 1 ∷ end two 0 ∷ [] ≡ 10 ∷ 4 ∷ []
  pub bucketlet_starts : bucketlet_start full_bucket 0 ∷ bucketlet_start full_bucket 1 ∷ bucketlet_start full_bucket 7 ∷ [] ≡ 1454 ∷ 1490 ∷ 2967 ∷ []
  pub bucketlet_ends : bucketlet_end full_bucket 0 ∷ bucketlet_end full_bucket 6 ∷ bucketlet_end full_bucket 7 ∷ [] ≡ 1490 ∷ 2967 ∷ 3000 ∷ []

-- word i of a list changed
abbrev pub changed : List ℕ → ℕ → ℕ → ℕ
changed ws i w = read_fault (set ws i w)

pub record Faults : Type 0 where
  pub readable : map read_fault (tens ∷ pair ∷ gaps ∷ zeros ∷ two ∷ wide ∷ []) ≡ 0 ∷ 0 ∷ 0 ∷ 0 ∷ 0 ∷ 0 ∷ []
  -- a first bucketlet may be free however narrow it is
  pub free_first : changed tens 4 0x40000000 ≡ 0
  -- 7: too few words; d, theta, a bit above q, qn, qd, q below 5/4, the number of buckets
  pub too_short : map read_fault ([] ∷ take 3 tens ∷ []) ≡ 7 ∷ 7 ∷ []
  pub entries_limits : changed tens 0 0 ∷ changed tens 0 65537 ∷ changed tens 0 0x40000004 ∷ [] ≡ 7 ∷ 7 ∷ 7 ∷ []
  pub theta_limits : changed tens 1 0 ∷ changed tens 1 1048575 ∷ changed tens 1 1048576 ∷ [] ≡ 7 ∷ 0 ∷ 7 ∷ []
  pub q_bits : changed tens 2 0x100C02 ∷ changed tens 2 0x40000C02 ∷ [] ≡ 7 ∷ 7 ∷ []
  pub q_limits :
      changed tens 2 (1000 * 2 ^ 10 + 800) ∷ changed tens 2 (1001 * 2 ^ 10 + 800) ∷ changed tens 2 2 ∷ changed tens 2 (3 * 2 ^ 10) ∷ []
      ≡ 0 ∷ 7 ∷ 7 ∷ 7 ∷ []
  pub q_least : changed tens 2 (124 * 2 ^ 10 + 100) ∷ changed tens 2 (5 * 2 ^ 10 + 4) ∷ [] ≡ 7 ∷ 0 ∷ []
  pub bucket_limits : changed tens 3 0 ∷ changed tens 3 5 ∷ [] ≡ 7 ∷ 7 ∷ []
  -- 24: q 8/1, 80/10 and 1000/125 are taken, and 9/1, 15/1 and 1000/124 are not; 7 comes before it (three words, theta 0, qn 1001) and 8 after it (a word
  -- too few, two buckets)
  pub q_most :
      changed tens 2 (8 * 2 ^ 10 + 1) ∷ changed tens 2 (80 * 2 ^ 10 + 10) ∷ changed tens 2 (1000 * 2 ^ 10 + 125)
      ∷ changed tens 2 (9 * 2 ^ 10 + 1) ∷ changed tens 2 (15 * 2 ^ 10 + 1) ∷ changed tens 2 (1000 * 2 ^ 10 + 124) ∷ []
      ≡ 0 ∷ 0 ∷ 0 ∷ 24 ∷ 24 ∷ 24 ∷ []
  pub q_order :
      changed (take 3 tens) 2 (9 * 2 ^ 10 + 1) ∷ changed (set tens 1 0) 2 (9 * 2 ^ 10 + 1) ∷ changed tens 2 (1001 * 2 ^ 10 + 1)
      ∷ changed (take 8 tens) 2 (9 * 2 ^ 10 + 1) ∷ changed (set tens 3 2) 2 (9 * 2 ^ 10 + 1) ∷ []
      ≡ 7 ∷ 7 ∷ 7 ∷ 24 ∷ 24 ∷ []
  -- 8: the number of buckets, or a word too few or too many
  pub lengths : changed tens 3 2 ∷ read_fault (take 8 tens) ∷ read_fault (tens ++ (0 ∷ [])) ∷ read_fault (take 4 tens) ∷ [] ≡ 8 ∷ 8 ∷ 8 ∷ 8 ∷ []
  -- 9: each word at a kind that another has, and the bits above the last six widths
  pub kinds :
      changed two 9 0x80001001 ∷ changed two 10 0x481C6000 ∷ changed two 11 0xC0000801 ∷ changed two 12 0x80000200 ∷ changed two 13 0x40000000 ∷ []
      ≡ 9 ∷ 9 ∷ 9 ∷ 9 ∷ 9 ∷ []
  pub bits_outside : changed two 12 0xC8000200 ∷ changed two 13 0xE0000000 ∷ [] ≡ 9 ∷ 9 ∷ []
  -- 10: the first start, the next one not above it, and one at d
  pub starts : changed two 4 0x40000601 ∷ changed two 9 0x40000001 ∷ changed two 9 0x40002801 ∷ changed two 9 0x45000001 ∷ [] ≡ 10 ∷ 10 ∷ 10 ∷ 10 ∷ []
  -- 11: a free width of 4,096, and listed widths of 5 and 6 in a span of 4
  pub widths : changed (set wide 0 4097) 9 0x40400201 ∷ changed two 4 0x40000202 ∷ changed two 4 0x40000203 ∷ [] ≡ 11 ∷ 11 ∷ 11 ∷ []
  -- 12: a class at no width, the classes 2 and 63, and total codes; class 0 may stand at a width, also at the free one
  pub classes :
      changed tens 5 0x8B000001 ∷ changed tens 5 0x82000000 ∷ changed tens 5 0xBF000000 ∷ changed tens 5 0x80000000 ∷ changed tens 4 0x40000203 ∷ []
      ≡ 12 ∷ 12 ∷ 12 ∷ 0 ∷ 0 ∷ []
  -- code 0 belongs to eight classes 0, and they may have another: class 1 in the first and in the last place, and code 32
  pub code_0 :
      changed zeros 5 0x81000000 ∷ changed (set zeros 4 0x40000202) 6 0x80001000 ∷ changed zeros 6 0x80000020 ∷ []
      ≡ 12 ∷ 12 ∷ 0 ∷ []
  pub codes : changed tens 6 0x80000000 ∷ changed tens 6 0x80000FF7 ∷ changed tens 6 0x80000FF8 ∷ changed tens 6 0x800007E1 ∷ changed tens 6 0x80000801 ∷ [] ≡ 12 ∷ 0 ∷ 12 ∷ 12 ∷ 0 ∷ []
  -- each is tested over all buckets before the next: a class 63 in the first bucket, and in the second a bit outside its field, a start at d,
  -- listed widths that exceed it
  pub order :
      changed (set two 5 0xBF3C4140) 13 0xC8000000 ∷ changed (set two 5 0xBF3C4140) 9 0x40002801 ∷ changed (set two 5 0xBF3C4140) 9 0x400011FF ∷ changed two 5 0xBF3C4140 ∷ []
      ≡ 9 ∷ 10 ∷ 11 ∷ 12 ∷ []

pub record Found : Type 0 where
  pub buckets_of : map (bucket_of two) (0 ∷ 3 ∷ 4 ∷ 9 ∷ []) ≡ 0 ∷ 0 ∷ 1 ∷ 1 ∷ []
  -- by halving, where an entry that is not in the list has a number too, and a list that is no histogram
  pub by_halving : map (bucket_by_halving two) (0 ∷ 3 ∷ 4 ∷ 9 ∷ 10 ∷ []) ≡ 0 ∷ 0 ∷ 1 ∷ 1 ∷ 1 ∷ []
  pub halved_none : bucket_by_halving [] 7 ≡ 0
  -- none is empty
  pub bucketlets_of : map (bucketlet_of (bucket_at gaps 0)) (0 ∷ 1 ∷ 2 ∷ 3 ∷ 5 ∷ []) ≡ 1 ∷ 1 ∷ 4 ∷ 6 ∷ 6 ∷ []
  pub first : found two 3 ≡ take 5 (drop 4 two)
  pub second : found two 4 ≡ drop 9 two
  pub faults :
      find_fault two 9 ∷ find_fault two 10 ∷ find_fault [] 0 ∷ find_fault (take 13 two) 10 ∷ find_fault (set two 2 (9 * 2 ^ 10 + 1)) 10 ∷ []
      ≡ 0 ∷ 15 ∷ 7 ∷ 8 ∷ 24 ∷ []
  pub refused : found two 10 ≡ []
  pub places : map (find_reply two) (3 ∷ 4 ∷ 10 ∷ []) ≡ answered 4 ∷ answered 9 ∷ refused_with 15 ∷ []
