-- Laws of the greatest fraction of the heavy ranges seen so far: what one start more does to it, and which ranges add nothing. A range that splits into
-- two heavy ones is at most the greater of these, their mediant; where all that end at one place are at most the greatest, it stays.
-- Assumes nothing.
use mathlib.Core.Path.{◌≡◌, refl, sym, subst}
use mathlib.Core.Bool.{Bool, true, false, cond}
use mathlib.Core.Logic.{◌⊎◌, inl, inr, ⊎_elim}
use mathlib.Core.List.{List}
use Prim.Native.Nat.{ℕ, suc, ◌+◌, ◌*◌, ◌≤◌, ◌<◌}
use native.Mathlib.Nat.{eq-or-lt_of_le}
use native.Mathlib.Omega.{arith}
use borrow.Author.Tests.{leb-true, leb-false, ltb-true, ltb-false}
use lib.Dec.{leb, ltb}
use Rattle.laws.specs.Sums.{part_sum}
use Rattle.laws.proofs.GreatestLaws.{of_none, of_greater, of_others}
use Rattle.build_bounds.specs.declared.Ratio.{Ratio}
use Rattle.build_bounds.specs.declared.Bound.{Bound}
use Rattle.build_bounds.specs.Private.Growing.{ratio, Inside, range_top, range_bottom, Heavy, Light, HeavySeen, GreatestSeen, greater, greater_if_heavy}
use Rattle.build_bounds.proofs.RangeLaws.{count_mono, heavy_some, heavy_wider, top_mono, bottom_mono, bottom_some, top_small, bottom_small, bottom_one}

module _ (b : Bound) (fs : List ℕ) (a : ℕ) where
  -- short names for this bound, this list and this start
  abbrev Top : ℕ → ℕ → ℕ
  Top = range_top b.over fs a

  abbrev Bottom : ℕ → ℕ → ℕ
  Bottom = range_bottom b.over fs a

  abbrev Seen : ℕ → ℕ → ℕ → ℕ → Type 0
  Seen = HeavySeen b.threshold fs a

  abbrev IsHeavy : ℕ → ℕ → Type 0
  IsHeavy = Heavy b.threshold fs a

  pub seen_none : GreatestSeen b fs a 0 0 (ratio 0 1)
  seen_none =
      record {
        greatest = of_none Top Bottom (Seen 0 0) (λ x y s. omega (arith, s.inside, heavy_some fs a b.threshold x y s.heavy));
        top_small = omega arith;
        bottom_small = bottom_one b.over;
      }

  -- the same numbers for another set
  with_others : (v i w j : ℕ) (p : Ratio) → ((x y : ℕ) → Seen v i x y → Seen w j x y) → ((x y : ℕ) → Seen w j x y → Seen v i x y ⊎ (Top x y * p.bottom ≤ p.top * Bottom x y))
      → GreatestSeen b fs a v i p → GreatestSeen b fs a w j p
  with_others v i w j p old split g =
      record {
        greatest = of_others Top Bottom (Seen v i) (Seen w j) p.top p.bottom g.greatest old split;
        top_small = g.top_small;
        bottom_small = g.bottom_small;
      }

  -- a range that ends at w does so before suc w
  old_seen : (w i x y : ℕ) → Seen w 0 x y → Seen (suc w) i x y
  old_seen w i x y s = record { inside = omega (arith, s.inside); from = λ e. absurd (omega (arith, s.inside)); heavy = s.heavy }

  -- a range up to suc w ends before it or there
  before_or_at : (w i x y : ℕ) → Seen (suc w) i x y → Seen w 0 x y ⊎ (y ≡ suc w)
  before_or_at w i x y s =
      ⊎_elim
      (λ (e : y ≡ suc w). inr e)
      (λ (l : y < suc w). inl (record { inside = omega arith; from = λ _. omega arith; heavy = s.heavy }))
      (eq-or-lt_of_le s.inside)

  -- at the next end, before its heavy starts are looked at
  pub seen_row : (w i : ℕ) (p : Ratio) → Light b.threshold fs a i (suc w) → GreatestSeen b fs a w 0 p → GreatestSeen b fs a (suc w) i p
  seen_row w i p l =
      with_others w 0 (suc w) i p (old_seen w i)
      (λ x y s. ⊎_elim (λ (t : Seen w 0 x y). inl t) (λ (e : y ≡ suc w). absurd (none x y s e)) (before_or_at w i x y s))
    where
      none : (x y : ℕ) → Seen (suc w) i x y → y ≡ suc w → ⊥
      none x y s e =
          let h : part_sum a x fs + b.threshold < part_sum a (suc w) fs = subst (λ (z : ℕ). IsHeavy x z) e s.heavy in
          omega (arith, count_mono fs a i x (s.from e))

  -- or all of them are at most the greatest
  pub seen_stays : (w : ℕ) (p : Ratio) → ((x : ℕ) → IsHeavy x (suc w) → Top x (suc w) * p.bottom ≤ p.top * Bottom x (suc w))
      → GreatestSeen b fs a w 0 p → GreatestSeen b fs a (suc w) 0 p
  seen_stays w p f =
      with_others w 0 (suc w) 0 p (old_seen w 0)
      (λ x y s. ⊎_elim (λ (t : Seen w 0 x y). inl t) (λ (e : y ≡ suc w). inr (below x y s e)) (before_or_at w 0 x y s))
    where
      below : (x y : ℕ) → Seen (suc w) 0 x y → y ≡ suc w → Top x y * p.bottom ≤ p.top * Bottom x y
      below x y s e = subst (λ (z : ℕ). Top x z * p.bottom ≤ p.top * Bottom x z) (sym e) (f x (subst (λ (z : ℕ). IsHeavy x z) e s.heavy))

  -- ---- one start more, at i

  later_seen : (w i x y : ℕ) → Seen w (suc i) x y → Seen w i x y
  later_seen w i x y s = record { inside = s.inside; from = λ e. omega (arith, s.from e); heavy = s.heavy }

  later_or_new : (w i x y : ℕ) → Seen w i x y → Seen w (suc i) x y ⊎ ((x ≡ i) × (y ≡ w))
  later_or_new w i x y s =
      ⊎_elim
      (λ (e : y ≡ w). ⊎_elim
      (λ (d : i ≡ x). inr (sym d, e))
      (λ (l : i < x). inl (record { inside = s.inside; from = λ _. l; heavy = s.heavy }))
      (eq-or-lt_of_le (s.from e)))
      (λ (l : y < w). inl (record { inside = s.inside; from = λ e. absurd (omega arith); heavy = s.heavy }))
      (eq-or-lt_of_le s.inside)

  -- it is light
  pub seen_light : (w i : ℕ) (p : Ratio) → Light b.threshold fs a i w → GreatestSeen b fs a w (suc i) p → GreatestSeen b fs a w i p
  seen_light w i p l =
      with_others w (suc i) w i p (later_seen w i)
      (λ x y s. ⊎_elim (λ (t : Seen w (suc i) x y). inl t) (λ (e : (x ≡ i) × (y ≡ w)). absurd (light x y s e)) (later_or_new w i x y s))
    where
      light : (x y : ℕ) → Seen w i x y → (x ≡ i) × (y ≡ w) → ⊥
      light x y s e = let h = subst (λ (z : ℕ). IsHeavy z w) e.0 (subst (λ (z : ℕ). IsHeavy x z) e.1 s.heavy) in omega arith

  -- or heavy
  module _ (w i : ℕ) (inside : Inside fs a w) (heavy : IsHeavy i w) (p : Ratio) (g : GreatestSeen b fs a w (suc i) p) where
    pub seen_greater : p.top * Bottom i w ≤ Top i w * p.bottom → GreatestSeen b fs a w i (ratio (Top i w) (Bottom i w))
    seen_greater l =
        record {
          greatest =
              of_greater Top Bottom (Seen w (suc i)) (Seen w i) p.top p.bottom g.greatest i w
              (record { inside = omega arith; from = λ _. omega arith; heavy = heavy }) (bottom_some fs a b.over b.threshold i w heavy) l (later_or_new w i);
          top_small = top_small fs a b.over w i w inside (omega arith);
          bottom_small = bottom_small fs a b.over w i w inside (omega arith);
        }

    pub seen_smaller : Top i w * p.bottom ≤ p.top * Bottom i w → GreatestSeen b fs a w i p
    seen_smaller l =
        with_others w (suc i) w i p (later_seen w i)
        (λ x y s. ⊎_elim
        (λ (t : Seen w (suc i) x y). inl t)
        (λ (e : (x ≡ i) × (y ≡ w)). inr (subst (λ (z : ℕ). Top z y * p.bottom ≤ p.top * Bottom z y) (sym e.0) (subst (λ (z : ℕ). Top i z * p.bottom ≤ p.top * Bottom i z) (sym e.1) l)))
        (later_or_new w i x y s)) g

  -- what the code makes of it, by the range's numbers in hand
  pub seen_counted : (w i f t u : ℕ) (p p' : Ratio) → Inside fs a w → part_sum a i fs + f ≡ part_sum a w fs → t ≡ Top i w → u ≡ Bottom i w → p' ≡ greater_if_heavy p b.threshold f (ratio t u)
      → GreatestSeen b fs a w (suc i) p → GreatestSeen b fs a w i p'
  seen_counted w i f t u p p' inside e tops bottoms d g = rw (d, tops, bottoms) (go (ltb b.threshold f) refl)
    where
      greater_or_not : IsHeavy i w → (z : Bool) → ltb (p.top * Bottom i w) (Top i w * p.bottom) ≡ z → GreatestSeen b fs a w i (cond z (ratio (Top i w) (Bottom i w)) p)
      greater_or_not h true k =
          let l = ltb-true (p.top * Bottom i w) (Top i w * p.bottom) k in
          seen_greater w i inside h p g (omega arith)
      greater_or_not h false k = seen_smaller w i inside h p g (ltb-false (p.top * Bottom i w) (Top i w * p.bottom) k)

      go : (z : Bool) → ltb b.threshold f ≡ z → GreatestSeen b fs a w i (cond z (greater p (ratio (Top i w) (Bottom i w))) p)
      go true k = let l = ltb-true b.threshold f k in greater_or_not (omega arith) (ltb (p.top * Bottom i w) (Top i w * p.bottom)) refl
      go false k = let l = ltb-false b.threshold f k in seen_light w i p (omega arith) g

  -- ---- a start whose range splits at m, as do those of all starts before it

  pub seen_split : (w i m : ℕ) (p : Ratio) → m < w → IsHeavy i m → IsHeavy m w → GreatestSeen b fs a w (suc i) p → GreatestSeen b fs a w 0 p
  seen_split w i m p before early late g =
      with_others w (suc i) w 0 p earlier
      (λ x y s. ⊎_elim
      (λ (e : y ≡ w). ⊎_elim (λ (l : suc i ≤ x). inl (record { inside = s.inside; from = λ _. l; heavy = s.heavy })) (λ (l : x ≤ i). inr (mediant x y e l)) (start x (leb x i) refl))
      (λ (l : y < w). inl (record { inside = s.inside; from = λ e. absurd (omega arith); heavy = s.heavy }))
      (eq-or-lt_of_le s.inside)) g
    where
      earlier : (x y : ℕ) → Seen w (suc i) x y → Seen w 0 x y
      earlier x y s = record { inside = s.inside; from = λ _. omega arith; heavy = s.heavy }

      start : (x : ℕ) (t : Bool) → leb x i ≡ t → (suc i ≤ x) ⊎ (x ≤ i)
      start x true e = inr (leb-true x i e)
      start x false e = inl (leb-false x i e)

      sum_at_most : (t t₁ t₂ u u₁ u₂ : ℕ) → t ≡ t₁ + t₂ → u ≡ u₁ + u₂ → t₁ * p.bottom ≤ p.top * u₁ → t₂ * p.bottom ≤ p.top * u₂ → t * p.bottom ≤ p.top * u
      sum_at_most t t₁ t₂ u u₁ u₂ e f h k = rw (e, f) (omega arith)

      mediant : (x y : ℕ) → y ≡ w → x ≤ i → Top x y * p.bottom ≤ p.top * Bottom x y
      mediant x y e l =
          let inner = heavy_some fs a b.threshold i m early in
          let first = g.greatest.covers x m (record { inside = omega arith; from = λ d. absurd (omega arith); heavy = heavy_wider fs a b.threshold i m x m l (omega arith) early }) in
          let second = g.greatest.covers m w (record { inside = omega arith; from = λ _. omega arith; heavy = late }) in
          let t : Top x w ≡ Top x m + Top m w = omega (arith, top_mono fs a b.over x m (omega arith), top_mono fs a b.over m w (omega arith)) in
          let u : Bottom x w ≡ Bottom x m + Bottom m w = omega (arith, bottom_mono fs a b.over x m (omega arith), bottom_mono fs a b.over m w (omega arith)) in
          subst (λ (z : ℕ). Top x z * p.bottom ≤ p.top * Bottom x z) (sym e) (sum_at_most (Top x w) (Top x m) (Top m w) (Bottom x w) (Bottom x m) (Bottom m w) t u first second)
