-- The worked examples hold of the definitions, by computation. Assumes nothing.
use mathlib.Core.Path.{refl}
use Rattle.laws.specs.Search.{first, largest, root}
use Rattle.counts_rules.specs.Class.{class_of, class_start, class_number}
use Rattle.counts_rules.specs.Total.{highest_bit, shift, bits, total_code, middle, total_number, valid_fields}
use Rattle.counts_rules.specs.Worked.{Worked}

pub worked : Worked
unfolding first largest root class_of class_start class_number highest_bit shift bits total_code middle total_number valid_fields
worked =
    record {
      count_0 = record { class = refl; number = refl };
      count_1 = record { class = refl; number = refl };
      count_2 = record { class = refl; number = refl };
      count_5 = record { class = refl; number = refl };
      count_10 = record { class = refl; number = refl };
      count_11 = record { class = refl; number = refl };
      count_100 = record { class = refl; number = refl };
      total_0 = record { code = refl; number = refl };
      total_127 = record { code = refl; number = refl };
      total_128 = record { code = refl; number = refl };
      total_1000 = record { code = refl; number = refl };
      starts = refl;
      used = refl;
      coded = refl;
      valid = refl;
    }
