-- Worked examples of the checker (document 01, "Examples"), and lists that tell natural missteps apart; proofs/Computed.antt computes them.
-- Assumes nothing.
use Rattle.std.specs.Prelude.{◌≡◌, true, false, List, [], ◌∷◌, ◌++◌, ℕ, ◌+◌, ◌*◌, ◌^◌, take, set}
use Rattle.words_rules.specs.Worked.{tens, gaps, zeros}
use Rattle.words_rules.specs.Words.{encode_head}
use Rattle.words_rules.specs.Decoded.{start_word, class_word, total_word, width_word}
use Rattle.check_rules.specs.Reply.{accepted_answer, refused_answer, failed_answer}
use Rattle.check_rules.specs.Checking.{check_reply}

abbrev pub heads : ℕ → ℕ → ℕ → ℕ → ℕ → List ℕ
heads d theta qn qd buckets = encode_head (record { entries = d; theta = theta; qn = qn; qd = qd; buckets = buckets })

-- a bucket of one bucketlet, with a total below 128
abbrev pub bucket : ℕ → ℕ → ℕ → ℕ → List ℕ
bucket start width class total =
    start_word start true width ∷ class_word class 0 0 0 0 ∷ total_word 0 0 0 (total * 32) ∷ width_word 0 0 0 ∷ width_word 0 0 0 ∷ []

-- a histogram of one bucketlet
abbrev pub one_bucket : ℕ → ℕ → ℕ → ℕ → ℕ → ℕ → List ℕ
one_bucket d theta qn qd class total = heads d theta qn qd 1 ++ bucket 0 d class total

-- and of two buckets, each of one bucketlet of two entries
abbrev pub two_buckets : ℕ → ℕ → ℕ → ℕ → List ℕ
two_buckets class₀ total₀ class₁ total₁ = heads 4 100 3 2 2 ++ bucket 0 2 class₀ total₀ ++ bucket 2 2 class₁ total₁

abbrev pub twos : List ℕ
twos = 2 ∷ 2 ∷ 2 ∷ 2 ∷ []

pub record Worked : Type 0 where
  pub tens_taken : check_reply (10 ∷ 10 ∷ 10 ∷ 10 ∷ []) tens ≡ record { refusal = 0; accepted = true; sort = 0; start = 0; end = 0 }
  -- the whole bucketlet comes before 3 to 4
  pub tens_hundred : check_reply (10 ∷ 10 ∷ 10 ∷ 100 ∷ []) tens ≡ record { refusal = 0; accepted = false; sort = 1; start = 0; end = 4 }
  -- by start, though 1 to 2 fails and ends earlier
  pub whole_before : check_reply (5 ∷ 1 ∷ 2 ∷ 2 ∷ 1 ∷ []) (one_bucket 5 1 3 2 9 11) ≡ failed_answer 1 0 5
  -- and then by end, the whole being good
  pub first_end : check_reply (5 ∷ 5 ∷ 5 ∷ 9 ∷ 1 ∷ 2 ∷ []) (one_bucket 6 1 5 4 10 27) ≡ failed_answer 2 0 4
  -- no range from 0 fails; 2 to 4 does too
  pub later_start : check_reply (10 ∷ 10 ∷ 10 ∷ 40 ∷ []) (one_bucket 4 1 3 2 12 70) ≡ failed_answer 2 1 4
  pub one_entry : check_reply (10 ∷ []) (one_bucket 1 1 3 2 9 10) ≡ failed_answer 1 0 1
  -- theta excuses neither a whole bucketlet nor a total
  pub small_whole : check_reply (2 ∷ 2 ∷ []) (one_bucket 2 100 3 2 9 4) ≡ failed_answer 1 0 2
  pub small_total : check_reply (2 ∷ 2 ∷ []) (one_bucket 2 100 3 2 5 9) ≡ failed_answer 3 0 2
  -- it is held against the estimate, not rounded, and not against the count alone
  pub large_estimate : check_reply (20 ∷ 12 ∷ 3 ∷ []) (one_bucket 3 5 2 1 11 35) ≡ failed_answer 2 2 3
  pub unrounded : check_reply (4 ∷ 3 ∷ 1 ∷ []) (one_bucket 3 2 2 1 7 8) ≡ failed_answer 2 2 3
  -- and against the count, not the estimate alone
  pub large_count : check_reply (4 ∷ 1 ∷ 4 ∷ 1 ∷ []) (one_bucket 4 7 5 4 7 10) ≡ failed_answer 2 0 3
  -- an estimate of theta itself is small, and one above is not; so is a count
  pub theta_estimate : check_reply (1 ∷ 1 ∷ 2 ∷ 2 ∷ []) (one_bucket 4 4 3 2 7 6) ≡ accepted_answer
  pub above_estimate : check_reply (1 ∷ 1 ∷ 2 ∷ 2 ∷ []) (one_bucket 4 3 3 2 7 6) ≡ failed_answer 2 0 2
  pub theta_count : check_reply (1 ∷ 7 ∷ []) (one_bucket 2 7 3 2 7 8) ≡ accepted_answer
  pub above_count : check_reply (1 ∷ 7 ∷ []) (one_bucket 2 6 3 2 7 8) ≡ failed_answer 2 1 2
  -- empty bucketlets are passed over
  pub gaps_taken : check_reply (6 ∷ 6 ∷ 4 ∷ 6 ∷ 6 ∷ 6 ∷ []) gaps ≡ accepted_answer
  pub after_gaps : check_reply (6 ∷ 6 ∷ 4 ∷ 6 ∷ 6 ∷ 60 ∷ []) gaps ≡ failed_answer 1 3 6
  -- words that no longer occur: class 0 stands for them alone, and they have no other; theta excuses a part, and not the whole
  pub zeros_taken : check_reply (0 ∷ 0 ∷ 0 ∷ []) zeros ≡ accepted_answer
  pub zeros_as_1 : check_reply (0 ∷ 0 ∷ 0 ∷ []) (one_bucket 3 1 3 2 1 1) ≡ failed_answer 1 0 3
  pub tens_as_0 : check_reply (10 ∷ 10 ∷ 10 ∷ 10 ∷ []) (one_bucket 4 1 3 2 0 40) ≡ failed_answer 2 0 1
  pub whole_as_0 : check_reply (0 ∷ 5 ∷ 7 ∷ []) (one_bucket 3 10 3 2 0 12) ≡ failed_answer 1 0 3
  -- an estimate of 0 is not judged as 1: one word as 0
  pub one_as_0 : check_reply (1 ∷ []) (one_bucket 1 1 3 2 0 1) ≡ failed_answer 1 0 1
  -- eight classes 0 with another total than 0 are read and never accepted, and code 0 beside another class is not read
  pub other_total : check_reply (0 ∷ 0 ∷ 0 ∷ []) (set zeros 6 0x80000020) ≡ failed_answer 3 0 3
  pub no_total : check_reply (0 ∷ 0 ∷ 0 ∷ []) (set zeros 5 0x81000000) ≡ refused_answer 12
  -- a bucketlet before its bucket's total, and that before the next bucket
  pub two_taken : check_reply twos (two_buckets 5 4 5 4) ≡ accepted_answer
  pub bucketlet_before : check_reply twos (two_buckets 9 9 5 4) ≡ failed_answer 1 0 2
  pub total_before : check_reply twos (two_buckets 5 9 9 4) ≡ failed_answer 3 0 2
  pub next_bucketlet : check_reply twos (two_buckets 5 4 9 9) ≡ failed_answer 1 2 4
  pub next_total : check_reply twos (two_buckets 5 4 5 9) ≡ failed_answer 3 2 4
  -- what fits is accepted with q 8/1, and refused with q 9/1, also where a word is missing and the list is not d long; but the list's faults come first
  pub q_8 : check_reply (10 ∷ 10 ∷ 10 ∷ 10 ∷ []) (set tens 2 (8 * 2 ^ 10 + 1)) ≡ accepted_answer
  pub q_9 : check_reply (10 ∷ 10 ∷ 10 ∷ 10 ∷ []) (set tens 2 (9 * 2 ^ 10 + 1)) ≡ refused_answer 24
  pub q_before : check_reply (10 ∷ []) (set (take 8 tens) 2 (9 * 2 ^ 10 + 1)) ≡ refused_answer 24
  pub q_no_entry : check_reply [] (set tens 2 (9 * 2 ^ 10 + 1)) ≡ refused_answer 1
  pub q_large_sum : check_reply (1073741823 ∷ 1 ∷ []) (set tens 2 (9 * 2 ^ 10 + 1)) ≡ refused_answer 3
  -- the list's faults come before those of the words, and 13 after 12
  pub no_entry : check_reply [] [] ≡ record { refusal = 1; accepted = false; sort = 0; start = 0; end = 0 }
  pub large_sum : check_reply (1073741823 ∷ 1 ∷ []) [] ≡ refused_answer 3
  pub no_words : check_reply (10 ∷ []) [] ≡ refused_answer 7
  pub wrong_code : check_reply (10 ∷ []) (set tens 6 0x80000000) ≡ refused_answer 12
  pub other_length : check_reply (10 ∷ []) tens ≡ refused_answer 13
