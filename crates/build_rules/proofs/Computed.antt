-- The worked examples hold of the definitions, by computation. Assumes nothing.
use mathlib.Core.Path.{refl}
use Rattle.laws.specs.Search.{first, largest, root}
use Rattle.laws.specs.Each.{each}
use Rattle.laws.specs.Refusal.{refusal}
use Rattle.counts_rules.specs.Class.{class_of, class_number}
use Rattle.counts_rules.specs.Total.{highest_bit, shift, bits, total_code}
use Rattle.words_rules.specs.Decoded.{encode}
use Rattle.list_rules.specs.Frequencies.{entries_fault, sum_fault}
use Rattle.fit.specs.Fit.{ranges_fit, bucketlet_fits}
use Rattle.build_rules.specs.Width.{fits_at, width}
use Rattle.build_rules.specs.Bucket.{widths_from, bucket_widths, classes_from, bucket_from}
use Rattle.build_rules.specs.Words.{buckets_from, bucket_words_of, words}
use Rattle.build_rules.specs.Building.{build_fault}
use Rattle.build_rules.specs.Worked.{Worked}

pub worked : Worked
unfolding first largest root each refusal class_of class_number highest_bit shift bits total_code encode entries_fault sum_fault ranges_fit bucketlet_fits fits_at width widths_from bucket_widths classes_from bucket_from buckets_from bucket_words_of words build_fault
worked =
    record {
      tens_words = refl;
      class_11 = refl;
      pair_words = refl;
      theta_99 = refl;
      theta_100 = refl;
      zeros_words = refl;
      zeros_widths = refl;
      zeros_classes = refl;
      zeros_apart = refl;
      not_average = refl;
      unrounded = refl;
      both_small = refl;
      count_small = refl;
      not_strict = refl;
      fits_again = refl;
      lent = refl;
      narrow_first = refl;
      wide_first = refl;
      free_place = refl;
    }
