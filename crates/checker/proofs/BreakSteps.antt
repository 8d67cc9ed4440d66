-- The steps from start to start: the ends far from the one in hand are known, and so is the first start from it on of a range that breaks the bound.
-- Assumes nothing.
use mathlib.Core.Path.{◌≡◌, sym, subst}
use mathlib.Core.List.{List}
use Prim.Native.Nat.{ℕ, ◌+◌, ◌-◌, ◌≤◌, ◌<◌}
use lib.ListN.{get_or}
use Rattle.checker.specs.declared.bound.Bound.{Bound}
use Rattle.checker.specs.declared.bound.Point.{Point}
use Rattle.checker.specs.declared.bound.FarEnds.{FarEnds}
use Rattle.checker.specs.Private.Breaking.{IsPoint, Far, FarAll, stepped}
use Rattle.checker.proofs.BoundLaws.{FirstFrom, moved, moved_at, none_higher, some_higher, first_kept, first_found}

pub record Passed (fs : List ℕ) (b : Bound) (start : Point) (ends : FarEnds) (first : ℕ) : Type 0 where
  pub point : IsPoint fs b start
  pub far : Far fs b (start.over + b.least) ends
  pub is_first : FirstFrom fs b start.at first

module _ (fs : List ℕ) (b : Bound) (before p : Point) (known e : FarEnds) (first : ℕ) (d : Passed fs b before known first) (some : 0 < before.at)
    (is : p ≡ stepped b (get_or fs (b.start + (before.at - 1)) 0) before) (r : FarAll fs b p e) where
  -- a far end is higher than the start in hand
  pub next_found : p.over + p.under < e.highest → Passed fs b p e p.at
  next_found h =
      let point = moved fs b before p d.point some is in
      record { point = point; far = r.far; is_first = first_found fs b p.at point.within (some_higher fs b p e point r h) }

  -- or none is
  pub next_kept : e.highest ≤ p.over + p.under → Passed fs b p e first
  next_kept h =
      let point = moved fs b before p d.point some is in
      let later = subst (λ (i : ℕ). FirstFrom fs b i first) (sym (moved_at fs b before p d.point some is)) d.is_first in
      record { point = point; far = r.far; is_first = first_kept fs b p.at first later (none_higher fs b p e point r h) }
