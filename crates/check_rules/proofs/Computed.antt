-- The worked examples hold of the definitions, by computation. Assumes nothing.
use mathlib.Core.Path.{refl}
use Rattle.laws.specs.Each.{each, some}
use Rattle.laws.specs.Refusal.{refusal}
use Rattle.laws.specs.Search.{first, largest, root}
use Rattle.counts_rules.specs.Class.{class_number}
use Rattle.counts_rules.specs.Total.{middle, total_number, valid_fields}
use Rattle.words_rules.specs.Decoded.{decode}
use Rattle.words_rules.specs.Reading.{head_good, head_fault, large_q_fault, length_fault, words_broken, word_fault, start_fault, widths_broken, width_fault, class_broken, total_broken, codes_broken, code_fault}
use Rattle.list_rules.specs.Frequencies.{entries_fault, sum_fault}
use Rattle.fit.specs.Accepted.{mismatch}
use Rattle.check_rules.specs.Failing.{first_failing, range_verdict, start_verdict, bucketlet_verdict}
use Rattle.check_rules.specs.Checking.{total_verdict, bucket_verdict, buckets_verdict}
use Rattle.check_rules.specs.Worked.{Worked}

pub worked : Worked
unfolding each some refusal first largest root class_number middle total_number valid_fields decode head_good head_fault large_q_fault length_fault words_broken word_fault start_fault widths_broken width_fault class_broken total_broken codes_broken code_fault entries_fault sum_fault mismatch first_failing range_verdict start_verdict bucketlet_verdict total_verdict bucket_verdict buckets_verdict
worked =
    record {
      tens_taken = refl;
      tens_hundred = refl;
      whole_before = refl;
      first_end = refl;
      later_start = refl;
      one_entry = refl;
      small_whole = refl;
      small_total = refl;
      large_estimate = refl;
      unrounded = refl;
      large_count = refl;
      theta_estimate = refl;
      above_estimate = refl;
      theta_count = refl;
      above_count = refl;
      gaps_taken = refl;
      after_gaps = refl;
      zeros_taken = refl;
      zeros_as_1 = refl;
      tens_as_0 = refl;
      whole_as_0 = refl;
      one_as_0 = refl;
      other_total = refl;
      no_total = refl;
      two_taken = refl;
      bucketlet_before = refl;
      total_before = refl;
      next_bucketlet = refl;
      next_total = refl;
      no_entry = refl;
      large_sum = refl;
      no_words = refl;
      wrong_code = refl;
      other_length = refl;
      q_8 = refl;
      q_9 = refl;
      q_before = refl;
      q_no_entry = refl;
      q_large_sum = refl;
    }
