-- The worked examples of specs/Worked.antt, computed.
-- Assumes nothing.
use mathlib.Core.Path.{refl}
use Rattle.laws.specs.Each.{each, some}
use Rattle.laws.specs.Refusal.{refusal}
use Rattle.laws.specs.Search.{first, halved}
use Rattle.counts_rules.specs.Total.{valid_fields}
use Rattle.words_rules.specs.Decoded.{decode, encode}
use Rattle.words_rules.specs.Reading.{head_good, head_fault, large_q_fault, length_fault, words_broken, word_fault, start_fault, widths_broken, width_fault, class_broken, total_broken, codes_broken, code_fault}
use Rattle.words_rules.specs.Finding.{bucket_of, bucket_by_halving, find_reply, bucketlet_of}
use Rattle.words_rules.specs.Worked.{Decoding, Faults, Found}

pub decoding : Decoding
unfolding decode encode
decoding =
    record {
      tens_decoded = refl;
      tens_encoded = refl;
      pair_decoded = refl;
      pair_encoded = refl;
      full_decoded = refl;
      full_encoded = refl;
      ends = refl;
      bucketlet_starts = refl;
      bucketlet_ends = refl;
    }

pub faults : Faults
unfolding each some refusal valid_fields decode head_good head_fault large_q_fault length_fault words_broken word_fault start_fault widths_broken width_fault class_broken total_broken codes_broken code_fault
faults =
    record {
      readable = refl;
      free_first = refl;
      too_short = refl;
      entries_limits = refl;
      theta_limits = refl;
      q_bits = refl;
      q_limits = refl;
      q_least = refl;
      q_most = refl;
      q_order = refl;
      bucket_limits = refl;
      lengths = refl;
      kinds = refl;
      bits_outside = refl;
      starts = refl;
      widths = refl;
      classes = refl;
      code_0 = refl;
      codes = refl;
      order = refl;
    }

pub found : Found
unfolding each some refusal valid_fields decode head_good head_fault large_q_fault length_fault words_broken word_fault start_fault widths_broken width_fault class_broken total_broken codes_broken code_fault bucket_of bucket_by_halving find_reply bucketlet_of first halved
found = record { buckets_of = refl; by_halving = refl; halved_none = refl; bucketlets_of = refl; first = refl; second = refl; faults = refl; refused = refl; places = refl }
