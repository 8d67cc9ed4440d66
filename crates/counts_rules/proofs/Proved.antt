-- The claims of specs/Claims.antt, each from its law. Assumes nothing.
use mathlib.Core.Path.{refl}
use native.Mathlib.Omega.{arith}
use lib.Dec.{lit≤}
use Rattle.laws.specs.Each.{each}
use Rattle.laws.specs.Search.{first, largest, root}
use Rattle.counts_rules.specs.Form.{base}
use Rattle.counts_rules.specs.Class.{class_of, class_number}
use Rattle.counts_rules.specs.Claims.{Classes, Totals}
use Rattle.counts_rules.proofs.ClassLaws.{class_is, only_none, class_eq, class_mono, start_is, start_least, start_le, number_is, number_mono}
use Rattle.counts_rules.proofs.BaseLaws.{class_used, number_small, number_has_class, count_close}
use Rattle.counts_rules.proofs.TotalLaws as total

pub classes : Classes
unfolding class_of class_number first largest root
classes =
    record {
      class_of_0 = refl;
      number_of_0 = refl;
      only_0 = only_none base (omega arith) (omega arith);
      has_class_lem = class_is base (omega arith) (omega arith);
      one_class = class_eq base (omega arith) (omega arith);
      class_used = class_used;
      start_reaches = λ c _. (start_is base (omega arith) (omega arith) c).reached;
      start_least = λ c v _. start_least base (omega arith) (omega arith) c v;
      class_starts_lem = start_le base (omega arith) (omega arith);
      number_rule = number_is base (omega arith) (omega arith);
      number_has_class = number_has_class;
      number_small = number_small;
      count_within = λ v l. (count_close v l).count;
      number_within = λ v l. (count_close v l).number;
      attained_by_5 = refl;
      attained_by_10 = refl;
      number_grows = λ v w h. number_mono base (omega arith) (omega arith) _ _ (class_mono base (omega arith) (omega arith) v w h);
    }

pub totals : Totals
unfolding each
totals =
    record {
      highest_bit_lem = total.highest_is;
      one_highest_bit = total.highest_eq;
      code_of_0 = total.code_none;
      number_of_0 = total.number_none;
      only_0 = total.only_none;
      code_valid = total.code_valid;
      middle_within = λ s. (total.middle_is s).within;
      middle_most = λ s m. (total.middle_is s).most m;
      middle_moved = λ s h. total.moved_is _ _ 33 refl s (omega arith);
      number_has_code = total.number_has_code;
      number_small = λ c t. omega (arith, total.number_small c t);
      count_within = total.count_within;
      number_within = total.number_within;
      below_11/10 = lit≤ tt;
      number_grows = total.number_grows;
    }
