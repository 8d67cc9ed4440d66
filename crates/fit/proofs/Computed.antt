-- The worked examples hold of the definitions, by computation. Assumes nothing.
use mathlib.Core.Path.{refl}
use Rattle.laws.specs.Each.{each, some}
use Rattle.laws.specs.Refusal.{refusal}
use Rattle.laws.specs.Search.{first, largest, root}
use Rattle.counts_rules.specs.Class.{class_number}
use Rattle.counts_rules.specs.Total.{valid_fields, middle, total_number}
use Rattle.words_rules.specs.Decoded.{decode}
use Rattle.words_rules.specs.Reading.{head_good, head_fault, large_q_fault, length_fault, words_broken, word_fault, start_fault, widths_broken, width_fault, class_broken, total_broken, codes_broken, code_fault}
use Rattle.list_rules.specs.Frequencies.{entries_fault, sum_fault}
use Rattle.fit.specs.Fit.{ranges_fit, bucketlet_fits}
use Rattle.fit.specs.Accepted.{mismatch, accepted}
use Rattle.fit.specs.Worked.{Worked}

pub worked : Worked
unfolding each some refusal first largest root class_number middle total_number valid_fields decode head_good head_fault large_q_fault length_fault words_broken word_fault start_fault widths_broken width_fault class_broken total_broken codes_broken code_fault ranges_fit bucketlet_fits entries_fault sum_fault mismatch accepted
worked = record { near_edges = refl; theta_edges = refl; whole = refl; inside = refl; totals = refl; near_0 = refl; zeros = refl; q_most = refl }
