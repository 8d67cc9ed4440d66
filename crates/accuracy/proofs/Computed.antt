-- The worked examples hold of the definitions, by computation. Assumes nothing.
use mathlib.Core.Path.{refl}
use mathlib.Core.Logic.{inl, ⊎_elim}
use Prim.Native.Nat.{◌*◌, ◌≤◌}
use native.Mathlib.Omega.{arith}
use Rattle.laws.specs.Each.{each, some}
use Rattle.laws.specs.Refusal.{refusal}
use Rattle.laws.specs.Search.{first, largest, root}
use Rattle.counts_rules.specs.Class.{class_of, class_number}
use Rattle.counts_rules.specs.Total.{highest_bit, shift, bits, total_code, middle, total_number, valid_fields}
use Rattle.words_rules.specs.Decoded.{encode, decode}
use Rattle.words_rules.specs.Reading.{head_good, head_fault, large_q_fault, length_fault, words_broken, word_fault, start_fault, widths_broken, width_fault, class_broken, total_broken, codes_broken, code_fault}
use Rattle.fit.specs.Fit.{ranges_fit, bucketlet_fits}
use Rattle.list_rules.specs.Frequencies.{entries_fault, sum_fault}
use Rattle.fit.specs.Accepted.{mismatch, accepted}
use Rattle.build_rules.specs.Width.{fits_at, width}
use Rattle.build_rules.specs.Bucket.{widths_from, bucket_widths, classes_from, bucket_from}
use Rattle.build_rules.specs.Words.{buckets_from, bucket_words_of, words}
use Rattle.estimate_rules.specs.Fraction.{sum_of, rounded}
use Rattle.estimate_rules.specs.Exact.{piece, bucket_piece, exact}
use Rattle.estimate_rules.specs.Asking.{range_fault, raised, estimate, estimate_reply}
use Rattle.estimate_rules.specs.Search.{count_fault, order_fault, search_reply}
use Rattle.accuracy.specs.Worked.{Worked, WorkedTwo, WorkedSharper}

pub worked : Worked
unfolding each some refusal first largest root class_number middle total_number valid_fields decode head_good head_fault large_q_fault length_fault words_broken word_fault start_fault widths_broken width_fault class_broken total_broken codes_broken code_fault ranges_fit bucketlet_fits entries_fault sum_fault mismatch accepted sum_of rounded piece bucket_piece exact range_fault raised estimate estimate_reply
worked =
    record {
      all_accepted = refl;
      counts = refl;
      answers = refl;
      two_cuts = refl;
      below_theta = refl;
      needs_q = refl;
      outer_accepted = refl;
      outer_answered = refl;
      distances = ((omega arith, omega arith), (omega arith, omega arith));
      one_theta = refl;
      zeros_accepted = refl;
      zeros_answered = refl;
    }

pub worked_two : WorkedTwo
unfolding each some refusal first largest root class_number middle total_number valid_fields decode head_good head_fault large_q_fault length_fault words_broken word_fault start_fault widths_broken width_fault class_broken total_broken codes_broken code_fault ranges_fit bucketlet_fits entries_fault sum_fault mismatch accepted sum_of rounded piece bucket_piece exact range_fault raised estimate estimate_reply count_fault order_fault search_reply
worked_two =
    record {
      all_accepted = refl;
      counts = refl;
      answers = refl;
      searched = refl;
      four_cuts = refl;
      below_theta = refl;
      needs_q = refl;
      rules = (
        λ l r. record { count_within = omega arith; answer_within = omega arith },
        λ l r. absurd (⊎_elim (λ h. omega arith) (λ h. omega arith) r),
        λ l r. record { count_within = omega arith; answer_within = omega arith },
      );
      shorter_rules = (
        λ l r. record { count_below = omega arith; answer_below = omega arith },
        λ l r. absurd (⊎_elim (λ h. omega arith) (λ h. omega arith) r),
        λ l r. record { count_below = omega arith; answer_below = omega arith },
      );
    }

pub worked_sharper : WorkedSharper
unfolding each some refusal first largest root class_of class_number highest_bit shift bits total_code middle total_number valid_fields encode decode head_good head_fault large_q_fault length_fault words_broken word_fault start_fault widths_broken width_fault class_broken total_broken codes_broken code_fault ranges_fit bucketlet_fits entries_fault sum_fault mismatch accepted fits_at width widths_from bucket_widths classes_from bucket_from buckets_from bucket_words_of words sum_of rounded piece bucket_piece exact range_fault raised estimate estimate_reply
worked_sharper =
    record {
      factors = refl;
      all_built = refl;
      counts = refl;
      answers = refl;
      one_cut = refl;
      two_cuts = refl;
      one_off = refl;
      needs_5/4 = refl;
      below_theta = refl;
      rules = (
        λ l r. record { count_within = omega arith; answer_within = omega arith },
        λ l r. record { count_within = omega arith; answer_within = omega arith },
        λ l r. record { count_within = omega arith; answer_within = omega arith },
        λ l r. record { count_within = omega arith; answer_within = omega arith },
        λ l r. absurd (⊎_elim (λ h. omega arith) (λ h. omega arith) r),
      );
      other_accepted = refl;
      other_answered = refl;
      other_beyond = λ s. let far : 4 * 16 ≤ 15 * 4 = (s.sharper 5 8 3 (omega arith) (omega arith) (omega arith) (inl (omega arith))).count_within in omega arith;
    }
