-- The examples of specs/Worked.antt, computed. Assumes nothing.
use mathlib.Core.Path.{refl}
use Rattle.laws.specs.Refusal.{refusal}
use Rattle.list_rules.specs.Frequencies.{entries_fault, sum_fault}
use Rattle.list_rules.specs.Worked.{Worked}

pub worked : Worked
unfolding refusal entries_fault sum_fault
worked = record { entries = refl; theta = refl; least_q = refl; q_parts = refl; most_q = refl; zeros = refl; sums = refl; order = refl; slips = refl }
