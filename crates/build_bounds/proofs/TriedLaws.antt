-- What one range more does to the bounds of a bucketlet, by the numbers that the code has in hand, and that the tests of them fit 64 bits.
-- Assumes nothing.
use mathlib.Core.Path.{◌≡◌, sym, subst}
use mathlib.Core.List.{List}
use Prim.Native.Nat.{ℕ, suc, ◌+◌, ◌-◌, ◌^◌, ◌≤◌, ◌<◌}
use native.Mathlib.Omega.{arith}
use Rattle.laws.specs.Sums.{part_sum}
use Rattle.list_rules.specs.declared.Quality.{Quality}
use Rattle.list_rules.specs.Private.Sound.{Sound}
use Rattle.build_bounds.specs.declared.Ratio.{Ratio}
use Rattle.build_bounds.specs.declared.Bounds.{Bounds}
use Rattle.build_bounds.specs.Private.Growing.{ratio, bounds, Inside, low_bound, up_bound, BoundsSeen, Testable, greater_if_heavy, longer}
use Rattle.build_bounds.proofs.SeenLaws.{seen_none, seen_row, seen_counted}
use Rattle.build_bounds.proofs.LongestLaws.{longest_none, longest_row, longest_longer}

module _ (q : Quality) (fs : List ℕ) (a : ℕ) where
  pub bounds_none : BoundsSeen q fs a 0 0 (bounds (ratio 0 1) (ratio 0 1) 0)
  bounds_none = record { low = seen_none (low_bound q) fs a; up = seen_none (up_bound q) fs a; longest = longest_none (up_bound q).threshold fs a }

  -- the next end begins with what is known
  pub bounds_row : (v w : ℕ) (b : Bounds) → w ≡ suc v → BoundsSeen q fs a v 0 b → BoundsSeen q fs a w w b
  bounds_row v w b e k =
      subst (λ (z : ℕ). BoundsSeen q fs a z z b) (sym e)
      (record {
        low = seen_row (low_bound q) fs a v (suc v) b.low (omega arith) k.low;
        up = seen_row (up_bound q) fs a v (suc v) b.up (omega arith) k.up;
        longest = longest_row (up_bound q).threshold fs a v b.longest k.longest;
      })

  -- the range of n entries from i on, with the count f
  pub bounds_step : (w i f n threshold : ℕ) (low up low' up' : Ratio) (longest longest' : ℕ) → suc i ≤ w → Inside fs a w → part_sum a i fs + f ≡ part_sum a w fs → n ≡ w - i
      → threshold ≡ (up_bound q).threshold → low' ≡ greater_if_heavy low q.theta f (ratio f n) → up' ≡ greater_if_heavy up threshold f (ratio n f) → longest' ≡ longer longest threshold f n
      → BoundsSeen q fs a w (suc i) (bounds low up longest) → BoundsSeen q fs a w i (bounds low' up' longest')
  bounds_step w i f n threshold low up low' up' longest longest' h inside e d j l u g k =
      record {
        low = seen_counted (low_bound q) fs a w i f f n low low' inside e (omega arith) d l k.low;
        up = seen_counted (up_bound q) fs a w i f n f up up' inside e d (omega arith) (rw j at u) k.up;
        longest = longest_longer (up_bound q).threshold fs a w i h longest k.longest f n longest' e d (rw j at g);
      }

  pub testable : (w s : ℕ) (b : Bounds) → Sound fs q → Inside fs a w → s < 2 ^ 31 → BoundsSeen q fs a w 0 b → Testable q b s w
  testable w s b sound inside h k =
      record {
        low_top = k.low.top_small;
        low_bottom = k.low.bottom_small;
        up_top = k.up.top_small;
        up_bottom = k.up.bottom_small;
        longest_small = omega (arith, inside.narrow, k.longest.is, k.longest.reached.inside);
        number = h;
        narrow = inside.narrow;
        theta_small = sound.theta_small;
        qn_small = sound.qn_small;
        qd_small = sound.qd_small;
      }
