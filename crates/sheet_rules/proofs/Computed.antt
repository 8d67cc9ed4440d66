-- The worked examples hold of the definitions, by computation. Assumes nothing.
use mathlib.Core.Path.{refl}
use Rattle.laws.specs.Search.{first, largest, root}
use Rattle.laws.specs.Each.{each}
use Rattle.laws.specs.Refusal.{refusal}
use Rattle.counts_rules.specs.Class.{class_of, class_number}
use Rattle.counts_rules.specs.Total.{highest_bit, shift, bits, total_code, middle, total_number}
use Rattle.words_rules.specs.Decoded.{decode, encode}
use Rattle.list_rules.specs.Frequencies.{entries_fault, sum_fault}
use Rattle.fit.specs.Fit.{ranges_fit, bucketlet_fits}
use Rattle.build_rules.specs.Width.{fits_at, width}
use Rattle.build_rules.specs.Bucket.{widths_from, bucket_widths, classes_from, bucket_from}
use Rattle.build_rules.specs.Words.{buckets_from, bucket_words_of, words}
use Rattle.sheet_rules.specs.Text.{digits, places}
use Rattle.sheet_rules.specs.Input.{lines, every, value_after, numeral, numbers, passing, as_described}
use Rattle.sheet_rules.specs.Sheet.{joined, bucketlet_part, bucket_part, histogram_sheet, list_sheet, numbers_sheet, sheet_fault, sheet}
use Rattle.sheet_rules.specs.Worked.{Worked}

pub worked : Worked
unfolding first largest root each refusal class_of class_number highest_bit shift bits total_code middle total_number decode encode entries_fault sum_fault ranges_fit bucketlet_fits fits_at width widths_from bucket_widths classes_from bucket_from buckets_from bucket_words_of words digits places lines every value_after numeral numbers passing as_described joined bucketlet_part bucket_part histogram_sheet list_sheet numbers_sheet sheet_fault sheet
worked =
    record {
      pair = refl;
      unreduced = refl;
      zeros = refl;
      sum = refl;
      theta = refl;
      q = refl;
      q_part = refl;
      slip = refl;
      no_list = refl;
      slip_no_list = refl;
      no_input = refl;
      not_ended = refl;
      empty_line = refl;
      carriage_return = refl;
      sign = refl;
      leading_zero_lem = refl;
      space = refl;
      largest = refl;
      larger = refl;
      twenty_digits = refl;
      taken = refl;
      sum_fault_lem = refl;
      theta_fault = refl;
      q_fault = refl;
      input_fault = refl;
      comma_line = refl;
      heading_line = refl;
      open_line = refl;
      missing_line = refl;
      first_line = refl;
    }
