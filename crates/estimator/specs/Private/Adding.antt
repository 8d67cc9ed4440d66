-- The words of the private contracts that add up a sum.
-- Assumes nothing.
use Rattle.std.specs.Prelude.{◌≡◌, true, ℕ, ◌+◌, ◌*◌, ◌^◌, ◌≤◌, ◌<◌}
use Rattle.counts_rules.specs.Form.{base, used_class}
use Rattle.counts_rules.specs.Class.{class_number}
use Rattle.words_rules.specs.Limits.{max_width}
use Rattle.estimate_rules.specs.declared.Fraction.{Fraction}
use Rattle.estimate_rules.specs.Fraction.{plus}
use Rattle.estimate_rules.specs.Exact.{piece}

-- all that is reckoned with it stays far below 2^64
pub record Small (e : Fraction) : Type 0 where
  pub whole_small : e.whole ≤ 2 ^ 47
  pub bottom_some : 0 < e.bottom
  pub bottom_small : e.bottom ≤ max_width ^ 2
  pub top_small : e.top ≤ 2 ^ 32 * e.bottom

-- a bucketlet that may be added to a sum
pub record Addable (sum : Fraction) (x y a w class : ℕ) : Type 0 where
  pub class_used : used_class class ≡ true
  pub within : a + w ≤ 65536
  pub small : Small (plus sum (piece x y a w (class_number base class)))
