-- What the tables answer for any number at all.
-- Assumes nothing.
use Rattle.std.specs.Prelude.{cond, ◌&&◌, ℕ, leb}
use Rattle.counts_rules.specs.Form.{form, base, used_class}
use Rattle.counts_rules.specs.Class.{class_start, class_number}

-- where a class begins; the one that begins above the limit is among them
unfoldable pub start_of : ℕ → ℕ
start_of c = cond (leb 1 c && leb c form.class_end) (class_start base c) 0

unfoldable pub number_of : ℕ → ℕ
number_of c = cond (used_class c) (class_number base c) 0
