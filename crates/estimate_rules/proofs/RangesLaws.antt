-- Laws of ranges that are lent as a list (specs/Ranges.antt).
-- Assumes nothing.
use mathlib.Core.Path.{◌≡◌}
use mathlib.Core.Bool.{false}
use mathlib.Core.List.{List}
use Prim.Native.Nat.{ℕ, ◌≤◌, ◌<◌}
use Rattle.laws.proofs.EachLaws.{none_at}
use Rattle.words_rules.specs.Words.{entries}
use Rattle.estimate_rules.specs.Ranges.{range_count, x_at, y_at, refused_at, some_refused}
use Rattle.estimate_rules.proofs.AskingLaws.{range_says}

-- where 14 would refuse none of them each lies within the list
module _ (ws ranges : List ℕ) (h : some_refused ws ranges ≡ false) (i : ℕ) (l : i < range_count ranges) where
  in_list : (x_at ranges i ≤ y_at ranges i) × (y_at ranges i ≤ entries ws)
  in_list = range_says ws (x_at ranges i) (y_at ranges i) (none_at (range_count ranges) (refused_at ws ranges) h i l)

  pub range_ordered : x_at ranges i ≤ y_at ranges i
  range_ordered = in_list.0

  pub range_within : y_at ranges i ≤ entries ws
  range_within = in_list.1
