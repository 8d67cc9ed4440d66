-- What the code does to what it keeps: the starts that an end makes heavy, the search where a range exceeds the greatest fraction, and that nothing
-- moves where the range from the lowest start does not.
-- Assumes nothing.
use mathlib.Core.Path.{◌≡◌, refl, sym, ap, subst, ◌∙◌}
use mathlib.Core.Bool.{Bool, true, false, cond}
use mathlib.Core.List.{List}
use mathlib.Core.Logic.{◌⊎◌, inl, inr, ⊎_elim}
use Prim.Native.Nat.{ℕ, suc, ◌*◌, ◌≤◌, ◌<◌}
use native.Mathlib.Nat.{eq-or-lt_of_le, lt_of_not-le}
use native.Mathlib.Omega.{arith}
use borrow.Author.Tests.{ltb-true, ltb-false}
use Rattle.build_bounds.specs.declared.Ratio.{Ratio}
use Rattle.build_bounds.specs.declared.Bound.{Bound}
use Rattle.build_bounds.specs.declared.Point.{Point}
use Rattle.build_bounds.specs.declared.Kept.{Kept}
use Rattle.build_bounds.specs.Private.Growing.{ratio, kept, unsearched, point, IsPoint, Inside, Between, fraction_of, above, top_at, bottom_at, range_top, range_bottom, Heavy, Light, NoHigher, lower_of, greater, start_of, GreatestSeen, StartsAt, Found, LowestOf, Standing}
use Rattle.build_bounds.proofs.HeightLaws.{falls, at_most, rises}
use Rattle.build_bounds.proofs.RangeLaws.{count_mono, count_small, small, heavy_some, heavy_wider, top_mono, bottom_mono, fraction_is, start_is}
use Rattle.build_bounds.proofs.SeenLaws.{seen_row, seen_stays, seen_greater, seen_smaller, seen_split}

module _ (b : Bound) (fs : List ℕ) (a : ℕ) where
  abbrev Lower : Ratio → ℕ → ℕ → Type 0
  Lower = NoHigher b.over fs a

  -- the range from i to j is at most p exactly if its end is no higher, and at least p if its start is
  range_falls : (p : Ratio) (i j : ℕ) → i ≤ j → range_top b.over fs a i j * p.bottom ≤ p.top * range_bottom b.over fs a i j → Lower p j i
  range_falls p i j h =
      falls (top_at b.over fs a i) (bottom_at b.over fs a i) (top_at b.over fs a j) (bottom_at b.over fs a j) p.top p.bottom
      (top_mono fs a b.over i j h) (bottom_mono fs a b.over i j h)

  range_at_most : (p : Ratio) (i j : ℕ) → i ≤ j → Lower p j i → range_top b.over fs a i j * p.bottom ≤ p.top * range_bottom b.over fs a i j
  range_at_most p i j h =
      at_most (top_at b.over fs a i) (bottom_at b.over fs a i) (top_at b.over fs a j) (bottom_at b.over fs a j) p.top p.bottom
      (top_mono fs a b.over i j h) (bottom_mono fs a b.over i j h)

  range_rises : (p : Ratio) (i j : ℕ) → i ≤ j → p.top * range_bottom b.over fs a i j ≤ range_top b.over fs a i j * p.bottom → Lower p i j
  range_rises p i j h =
      rises (top_at b.over fs a i) (bottom_at b.over fs a i) (top_at b.over fs a j) (bottom_at b.over fs a j) p.top p.bottom
      (top_mono fs a b.over i j h) (bottom_mono fs a b.over i j h)

  -- what the code's comparison of a range between two points says
  module _ (p : Ratio) (x y : Point) (is_x : IsPoint fs a x) (is_y : IsPoint fs a y) (before : x.at ≤ y.at) where
    pub not_above_lower : above (fraction_of b.over x y) p ≡ false → Lower p y.at x.at
    not_above_lower e =
        let r = fraction_is fs a b.over x y is_x is_y in
        range_falls p x.at y.at before (ltb-false _ _ (subst (λ (f : Ratio). above f p ≡ false) r e))

    pub above_lower : above (fraction_of b.over x y) p ≡ true → Lower p x.at y.at
    above_lower e =
        let r = fraction_is fs a b.over x y is_x is_y in
        let i = x.at in
        let j = y.at in
        let l = ltb-true (p.top * range_bottom b.over fs a i j) (range_top b.over fs a i j * p.bottom) (subst (λ (f : Ratio). above f p ≡ true) r e) in
        range_rises p i j before (omega arith)

  -- the code may compare it
  pub between : (v i w : ℕ) (p : Ratio) (x y : Point) → Inside fs a w → GreatestSeen b fs a v i p → IsPoint fs a x → IsPoint fs a y → x.at ≤ y.at → y.at ≤ w → Between p x y
  between v i w p x y inside g is_x is_y h k =
      record {
        ratio_small = small b.over p g.top_small g.bottom_small;
        at = h;
        count = omega (arith, count_mono fs a x.at y.at h);
        at_small = omega (arith, inside.narrow);
        count_small = omega (arith, count_small fs a w y.at inside);
      }

  -- ---- the starts

  -- none is known yet
  pub standing_begins : (w : ℕ) (g : Ratio) → GreatestSeen b fs a w 0 g → Standing b fs a w w (unsearched g)
  standing_begins w g s =
      record {
        seen = s;
        starts =
            record {
              light_point = refl;
              light_inside = omega arith;
              heavy = λ i h. absurd (omega arith);
              lowest_point = refl;
              lowest_inside = omega arith;
              lowest_before = λ h. h;
              lowest = λ i h. absurd (omega arith);
            };
      }

  -- for a later end
  pub lowest_later : (v w : ℕ) (k : Kept) → v ≤ w → LowestOf b fs a v k → LowestOf b fs a w k
  lowest_later v w k h l =
      record {
        light_point = l.light_point;
        light_inside = omega (arith, l.light_inside);
        heavy = λ i g. heavy_wider fs a b.threshold i v i w (omega arith) h (l.heavy i g);
        lowest_point = l.lowest_point;
        lowest_inside = l.lowest_inside;
        lowest_before = l.lowest_before;
        lowest = l.lowest;
      }

  -- with the first light start, which is heavy for this end
  pub lowest_next : (w : ℕ) (g : Ratio) (l n l' n' : Point) → LowestOf b fs a w (kept g l n) → Heavy b.threshold fs a n.at w → l' ≡ lower_of b.over g l n
      → n' ≡ point fs a (suc n.at) → LowestOf b fs a w (kept g l' n')
  lowest_next w g l n l' n' k h e f = rw (e, f) (go (above (fraction_of b.over l n) g) refl)
    where
      heavies : (i : ℕ) → i < suc n.at → Heavy b.threshold fs a i w
      heavies i m = heavy_wider fs a b.threshold n.at w i w (omega arith) (omega arith) h

      go : (t : Bool) → above (fraction_of b.over l n) g ≡ t → LowestOf b fs a w (kept g (cond t l n) (point fs a (suc n.at)))
      go true e =
          let new = above_lower g l n k.lowest_point k.light_point k.lowest_inside e in
          record {
            light_point = refl;
            light_inside = heavy_some fs a b.threshold n.at w h;
            heavy = heavies;
            lowest_point = k.lowest_point;
            lowest_inside = omega (arith, k.lowest_inside);
            lowest_before = λ _. omega (arith, k.lowest_inside);
            lowest = λ i m. ⊎_elim (λ (d : i ≡ n.at). subst (λ (z : ℕ). Lower g l.at z) (sym d) new) (λ (j : i < n.at). k.lowest i j) (eq-or-lt_of_le (omega arith));
          }
      go false e =
          let new = not_above_lower g l n k.lowest_point k.light_point k.lowest_inside e in
          record {
            light_point = refl;
            light_inside = heavy_some fs a b.threshold n.at w h;
            heavy = heavies;
            lowest_point = k.light_point;
            lowest_inside = omega arith;
            lowest_before = λ _. omega arith;
            lowest = λ i m. ⊎_elim (λ (d : i ≡ n.at). subst (λ (z : ℕ). Lower g n.at z) (sym d) (omega arith)) (λ (j : i < n.at). omega (arith, k.lowest i j)) (eq-or-lt_of_le (omega arith));
          }

  -- ---- nothing moves

  -- a heavy start is before the first light one
  heavy_before : (i n w : ℕ) → Light b.threshold fs a n w → Heavy b.threshold fs a i w → i < n
  heavy_before i n w l h = lt_of_not-le (λ (m : n ≤ i). omega (arith, count_mono fs a n i m))

  -- the end is no higher than the lowest start, if there is one
  pub stays : (v w : ℕ) (k : Kept) → w ≡ suc v → Standing b fs a v w k → Light b.threshold fs a k.light.at w → (0 < k.light.at → Lower k.greatest w k.lowest.at)
      → Standing b fs a w w k
  stays v w k e s l f =
      record {
        seen = subst (λ (z : ℕ). GreatestSeen b fs a z 0 k.greatest) (sym e) (seen_stays b fs a v k.greatest below s.seen);
        starts = s.starts;
      }
    where
      below : (x : ℕ) → Heavy b.threshold fs a x (suc v) → range_top b.over fs a x (suc v) * k.greatest.bottom ≤ k.greatest.top * range_bottom b.over fs a x (suc v)
      below x h =
          let l' = subst (λ (z : ℕ). Light b.threshold fs a k.light.at z) e l in
          let before = heavy_before x k.light.at (suc v) l' h in
          let low = s.starts.lowest x before in
          let end = subst (λ (z : ℕ). Lower k.greatest z k.lowest.at) e (f (omega arith)) in
          range_at_most k.greatest x (suc v) (omega (arith, heavy_some fs a b.threshold x (suc v) h)) (omega arith)

  -- ---- the search, from the first light start n down to the start i

  -- p is what was known, or the fraction of such a start
  pub record Searching (w n : ℕ) (known : Ratio) (i : ℕ) (p : Ratio) : Type 0 where
    pub seen : GreatestSeen b fs a w i p
    pub moved : (p ≡ known) ⊎ StartsAt b fs a w n p

  pub search_begins : (v w n : ℕ) (p : Ratio) → w ≡ suc v → GreatestSeen b fs a v 0 p → Light b.threshold fs a n w → Searching w n p n p
  search_begins v w n p e s l =
      record {
        seen = subst (λ (z : ℕ). GreatestSeen b fs a z n p) (sym e) (seen_row b fs a v n p (subst (λ (z : ℕ). Light b.threshold fs a n z) e l) s);
        moved = inl refl;
      }

  -- one start earlier
  pub search_step : (w n i : ℕ) (known p p' f : Ratio) (x e : Point) → Inside fs a w → i < n → Heavy b.threshold fs a i w → x ≡ point fs a i → IsPoint fs a e → e.at ≡ w
      → f ≡ fraction_of b.over x e → p' ≡ greater p f → Searching w n known (suc i) p → Searching w n known i p'
  search_step w n i known p p' f x e inside h heavy is_x is_e at g d s =
      rw (d, g) (go (above (fraction_of b.over x e) p) refl)
    where
      here : fraction_of b.over x e ≡ ratio (range_top b.over fs a i w) (range_bottom b.over fs a i w)
      here =
          let q = ap (λ (z : Point). z.at) is_x in
          fraction_is fs a b.over x e (rw is_x) is_e ∙ rw (q, at)

      go : (t : Bool) → above (fraction_of b.over x e) p ≡ t → Searching w n known i (cond t (fraction_of b.over x e) p)
      go true q =
          let l =
          ltb-true (p.top * range_bottom b.over fs a i w) (range_top b.over fs a i w * p.bottom) (subst (λ (f : Ratio). above f p ≡ true) here q) in
          record {
            seen = subst (GreatestSeen b fs a w i) (sym here) (seen_greater b fs a w i inside heavy p s.seen (omega arith));
            moved = inr (record { start = i; before = h; is = here });
          }
      go false q =
          record { seen = seen_smaller b fs a w i inside heavy p s.seen (ltb-false _ _ (subst (λ (f : Ratio). above f p ≡ false) here q)); moved = s.moved }

  -- the start i and all before it split at m
  pub search_splits : (w n i m : ℕ) (known p : Ratio) → m < w → Heavy b.threshold fs a i m → Heavy b.threshold fs a m w → Searching w n known (suc i) p → Searching w n known 0 p
  search_splits w n i m known p h early late s = record { seen = seen_split b fs a w i m p h early late s.seen; moved = s.moved }

  -- all starts have been searched, and from the lowest one a range exceeded what was known: so another is known now
  pub search_moved : (k : Kept) (e : Point) (p : Ratio) → LowestOf b fs a e.at k → IsPoint fs a e → 0 < k.light.at → above (fraction_of b.over k.lowest e) k.greatest ≡ true
      → Searching e.at k.light.at k.greatest 0 p → Found b fs a k e p
  search_moved k e p l is_e some t s =
      record { seen = s.seen; starts_at = ⊎_elim (λ (d : p ≡ k.greatest). absurd (not_known d)) (λ (m : StartsAt b fs a e.at k.light.at p). m) s.moved }
    where
      not_known : p ≡ k.greatest → ⊥
      not_known d =
          let i = k.lowest.at in
          let w = e.at in
          let heavy = l.heavy i (l.lowest_before some) in
          let c = subst (λ (r : Ratio). range_top b.over fs a i w * r.bottom ≤ r.top * range_bottom b.over fs a i w) d
          (s.seen.greatest.covers i w (record { inside = omega arith; from = λ _. omega arith; heavy = heavy })) in
          let r = fraction_is fs a b.over k.lowest e l.lowest_point is_e in
          let x =
          ltb-true (k.greatest.top * range_bottom b.over fs a i w) (range_top b.over fs a i w * k.greatest.bottom)
          (subst (λ (f : Ratio). above f k.greatest ≡ true) r t) in
          omega arith

  -- its start is found again, and is the lowest: as high as the end, and so no higher than any
  pub search_ends : (k : Kept) (e x : Point) (p : Ratio) → LowestOf b fs a e.at k → x ≡ start_of b.over p e → IsPoint fs a e → Found b fs a k e p → Standing b fs a e.at e.at (kept p x k.light)
  search_ends k e x p l d is_e s =
      let w = e.at in
      let i = s.starts_at.start in
      let n = k.light.at in
      let before : i ≤ w = omega (arith, s.starts_at.before, l.light_inside) in
      let is_x : x ≡ point fs a i = d ∙ ap (λ (f : Ratio). start_of b.over f e) s.starts_at.is ∙ start_is fs a b.over i e is_e before in
      rw is_x
      (record {
        seen = s.seen;
        starts =
            record {
              light_point = l.light_point;
              light_inside = l.light_inside;
              heavy = l.heavy;
              lowest_point = refl;
              lowest_inside = omega (arith, s.starts_at.before);
              lowest_before = λ _. s.starts_at.before;
              lowest = λ j h. lower j h before;
            };
      })
    where
      lower : (j : ℕ) → j < k.light.at → s.starts_at.start ≤ e.at → Lower p s.starts_at.start j
      lower j h before =
          let w = e.at in
          let top = s.seen.greatest.covers j w (record { inside = omega arith; from = λ _. omega arith; heavy = l.heavy j h }) in
          let end = range_falls p j w (omega (arith, l.light_inside)) top in
          let own = subst (λ (r : Ratio). r.top * range_bottom b.over fs a s.starts_at.start w ≤ range_top b.over fs a s.starts_at.start w * r.bottom) (sym s.starts_at.is) (omega arith) in
          let start = range_rises p s.starts_at.start w before own in
          omega arith
