-- The examples of specs/Worked.antt, computed. Assumes nothing.
use mathlib.Core.Path.{refl}
use Rattle.laws.specs.Each.{each, some}
use Rattle.laws.specs.Refusal.{refusal}
use Rattle.list_rules.specs.Frequencies.{entries_fault, sum_fault}
use Rattle.journal_rules.specs.Lines.{after_lines, changes_of}
use Rattle.journal_rules.specs.Replaying.{lines_fault, outside_fault, breaks, bound_fault, replayed, replay_reply}
use Rattle.journal_rules.specs.AddingUp.{has_backward, of32_bits}
use Rattle.journal_rules.specs.Worked.{Worked, WorkedTogether}

pub worked : Worked
unfolding each some refusal entries_fault sum_fault after_lines changes_of lines_fault outside_fault breaks bound_fault replayed replay_reply
worked =
    record {
      replays = refl;
      answers = refl;
      changes = refl;
      below_first = refl;
      below_last = refl;
      to_zero = refl;
      below_zero_lem = refl;
      to_limit = refl;
      past_limit = refl;
      past_and_back = refl;
      moved_over = refl;
      least_change = refl;
      change_of_limit = refl;
      largest_change = refl;
      unchanged = refl;
      lengths = refl;
      outside = refl;
      order = refl;
      no_lines = refl;
    }

pub worked_together : WorkedTogether
unfolding each some refusal entries_fault sum_fault after_lines lines_fault outside_fault breaks bound_fault replayed replay_reply has_backward of32_bits
worked_together =
    record {
      in_turn = refl;
      each_alone = refl;
      first_replayed = refl;
      second_needs_first = refl;
      number_26 = refl;
      number_same = refl;
      weeks = refl;
      weeks_in_turn = refl;
      unequal = refl;
      back = refl;
      back_answers = refl;
      back_lines = refl;
      order_matters = refl;
      bits = refl;
      least = refl;
    }
