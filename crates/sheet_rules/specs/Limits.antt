-- How long an input and its sheet are at most (document 01, "The exam sheet"), and the bytes that are lent for them.
-- Assumes nothing.
use Rattle.std.specs.Prelude.{ℕ, ◌+◌, ◌*◌, ◌/◌}
use Rattle.build_rules.specs.Words.{words_for}

-- ---- an input: theta, qn and qd, then 1 to 4,096 frequencies

abbrev pub max_frequencies : ℕ
max_frequencies = 4096

abbrev pub least_numbers : ℕ
least_numbers = 3 + 1

abbrev pub most_numbers : ℕ
most_numbers = 3 + max_frequencies

-- of a number below 2^32
abbrev pub max_digits : ℕ
max_digits = 10

-- each number with its line feed: 45,089 bytes
abbrev pub max_input : ℕ
max_input = (max_digits + 1) * most_numbers

-- ---- its histogram: at most 512 buckets, 2,564 words

abbrev pub max_sheet_buckets : ℕ
max_sheet_buckets = (max_frequencies + 7) / 8

abbrev pub max_sheet_words : ℕ
max_sheet_words = words_for max_frequencies

-- ---- its sheet, by bounds that no line exceeds: at most 163,377 bytes

abbrev pub max_head_line : ℕ
max_head_line = 49

abbrev pub max_bucket_line : ℕ
max_bucket_line = 39

abbrev pub max_bucketlet_line : ℕ
max_bucketlet_line = 35

-- a bucket's line and those of its bucketlets
abbrev pub max_bucket_part : ℕ
max_bucket_part = max_bucket_line + 8 * max_bucketlet_line

abbrev pub max_sheet : ℕ
max_sheet = max_head_line + max_sheet_buckets * max_bucket_part

-- ---- the bytes that are lent: for a line, whatever its numbers, and for a sheet

abbrev pub line_bytes : ℕ
line_bytes = 80

abbrev pub sheet_bytes : ℕ
sheet_bytes = 163840
