-- The worked examples hold of the definitions, by computation. Assumes nothing.
use mathlib.Core.Path.{refl}
use Rattle.laws.specs.Each.{each, some}
use Rattle.laws.specs.Refusal.{refusal}
use Rattle.laws.specs.Search.{first, largest, root}
use Rattle.counts_rules.specs.Class.{class_number}
use Rattle.counts_rules.specs.Total.{middle, total_number, valid_fields}
use Rattle.words_rules.specs.Decoded.{decode}
use Rattle.words_rules.specs.Reading.{head_good, head_fault, large_q_fault, length_fault, words_broken, word_fault, start_fault, widths_broken, width_fault, class_broken, total_broken, codes_broken, code_fault}
use Rattle.estimate_rules.specs.Fraction.{sum_of, rounded}
use Rattle.estimate_rules.specs.Exact.{piece, bucket_piece, exact}
use Rattle.estimate_rules.specs.Asking.{range_fault, raised, estimate, estimate_reply}
use Rattle.estimate_rules.specs.Running.{totals_from, running_total, fill_reply, totals_filled}
use Rattle.estimate_rules.specs.Worksheet.{short_fault, totals_fault, ranges_fault, worksheet_reply, worksheet_answered}
use Rattle.estimate_rules.specs.Search.{count_fault, order_fault, search_reply}
use Rattle.estimate_rules.specs.Worked.{Worked, WorkedSheets, WorkedSearches}

pub worked : Worked
unfolding each some refusal first largest root class_number middle total_number valid_fields decode head_good head_fault large_q_fault length_fault words_broken word_fault start_fault widths_broken width_fault class_broken total_broken codes_broken code_fault sum_of rounded piece bucket_piece exact range_fault raised estimate estimate_reply
worked =
    record {
      one_to_three = refl;
      zero_to_three = refl;
      zero_to_four = refl;
      two_to_two = refl;
      at_end = refl;
      past_end = refl;
      turned = refl;
      words_first = refl;
      q_first = refl;
      rounded_once = refl;
      cut_and_whole = refl;
      among_empty = refl;
      around_empty = refl;
      bucket_inside = refl;
      both_inside = refl;
      neither_inside = refl;
      zeros_asked = refl;
      beside_zeros = refl;
      narrower = refl;
      wider = refl;
    }

pub worked_sheets : WorkedSheets
unfolding each some refusal first largest root class_number middle total_number valid_fields decode head_good head_fault large_q_fault length_fault words_broken word_fault start_fault widths_broken width_fault class_broken total_broken codes_broken code_fault sum_of rounded piece bucket_piece exact range_fault raised estimate totals_from running_total fill_reply totals_filled short_fault totals_fault ranges_fault worksheet_reply worksheet_answered
worked_sheets =
    record {
      running_totals_lem = refl;
      difference = refl;
      filled = refl;
      not_filled = refl;
      fill_replies = refl;
      fill_words_first = refl;
      sheet_answered = refl;
      sheet_refused = refl;
      sheet_totals = refl;
      sheet_short = refl;
      sheet_room = refl;
      sheet_odd = refl;
      sheet_ranges = refl;
      sheet_empty = refl;
      sheet_order = refl;
    }

pub worked_searches : WorkedSearches
unfolding each some refusal first largest root class_number middle total_number valid_fields decode head_good head_fault large_q_fault length_fault words_broken word_fault start_fault widths_broken width_fault class_broken total_broken codes_broken code_fault sum_of rounded piece bucket_piece exact range_fault raised estimate count_fault order_fault search_reply
worked_searches =
    record {
      one_range = refl;
      four_ranges = refl;
      each_rounded = refl;
      over_buckets = refl;
      broken = refl;
      odd = refl;
      most = refl;
      too_many = refl;
      order = refl;
      touching = refl;
      refusal_order = refl;
    }
