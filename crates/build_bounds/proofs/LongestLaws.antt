-- Laws of the longest light range: what one start more, or one end more, does to it.
-- Assumes nothing.
use mathlib.Core.Path.{◌≡◌, refl, sym, subst}
use mathlib.Core.Bool.{Bool, true, false, cond}
use mathlib.Core.List.{List}
use mathlib.Core.Logic.{◌⊎◌, inl, inr, ⊎_elim}
use Prim.Native.Nat.{ℕ, suc, ◌+◌, ◌-◌, ◌≤◌, ◌<◌, max}
use native.Mathlib.Nat.{eq-or-lt_of_le, lt_of_not-le}
use native.Mathlib.Omega.{arith}
use borrow.Author.Tests.{leb-true, leb-false, ltb-true, ltb-false}
use lib.Dec.{leb, ltb}
use Rattle.laws.specs.Sums.{part_sum}
use Rattle.build_bounds.specs.Private.Growing.{Heavy, Light, LightSeen, Longest, longer}

module _ (threshold : ℕ) (fs : List ℕ) (a : ℕ) where
  abbrev Seen : ℕ → ℕ → ℕ → ℕ → Type 0
  Seen = LightSeen threshold fs a

  pub longest_none : Longest threshold fs a 0 0 0
  longest_none =
      record {
        covers = λ x y s. omega (arith, s.inside);
        start = 0;
        end = 0;
        reached = record { some = omega arith; inside = omega arith; from = λ _. omega arith; light = omega arith };
        is = refl;
      }

  -- with a range of the larger set that no other new one is longer than
  longest_with : (v i w j x y n : ℕ) → ((s e : ℕ) → Seen v i s e → Seen w j s e) → ((s e : ℕ) → Seen w j s e → Seen v i s e ⊎ (e - s ≤ y - x)) → Seen w j x y
      → Longest threshold fs a v i n → Longest threshold fs a w j (max n (y - x))
  longest_with v i w j x y n old split new l = go (leb (y - x) n) refl
    where
      all : (s e : ℕ) → Seen w j s e → e - s ≤ max n (y - x)
      all s e h = ⊎_elim (λ (o : Seen v i s e). omega (arith, l.covers s e o)) (λ (m : e - s ≤ y - x). omega arith) (split s e h)

      go : (t : Bool) → leb (y - x) n ≡ t → Longest threshold fs a w j (max n (y - x))
      go true d = record { covers = all; start = l.start; end = l.end; reached = old l.start l.end l.reached; is = omega (arith, leb-true (y - x) n d, l.is) }
      go false d = record { covers = all; start = x; end = y; reached = new; is = omega (arith, leb-false (y - x) n d) }

  -- with none that is longer
  longest_same : (v i w j n : ℕ) → ((s e : ℕ) → Seen v i s e → Seen w j s e) → ((s e : ℕ) → Seen w j s e → Seen v i s e ⊎ (e - s ≡ 0)) → Longest threshold fs a v i n
      → Longest threshold fs a w j n
  longest_same v i w j n old split l =
      record {
        covers = λ s e h. ⊎_elim (λ (o : Seen v i s e). l.covers s e o) (λ (m : e - s ≡ 0). omega arith) (split s e h);
        start = l.start;
        end = l.end;
        reached = old l.start l.end l.reached;
        is = l.is;
      }

  old_end : (w i s e : ℕ) → Seen w 0 s e → Seen (suc w) i s e
  old_end w i s e h = record { some = h.some; inside = omega (arith, h.inside); from = λ d. absurd (omega (arith, h.inside)); light = h.light }

  before_or_at : (w i s e : ℕ) → Seen (suc w) i s e → Seen w 0 s e ⊎ (e ≡ suc w)
  before_or_at w i s e h =
      ⊎_elim
      (λ (d : e ≡ suc w). inr d)
      (λ (l : e < suc w). inl (record { some = h.some; inside = omega arith; from = λ _. omega arith; light = h.light }))
      (eq-or-lt_of_le h.inside)

  -- at the next end, before its starts are looked at
  pub longest_row : (w n : ℕ) → Longest threshold fs a w 0 n → Longest threshold fs a (suc w) (suc w) n
  longest_row w n =
      longest_same w 0 (suc w) (suc w) n (old_end w (suc w))
      (λ s e h. ⊎_elim (λ (o : Seen w 0 s e). inl o) (λ (d : e ≡ suc w). inr (omega (arith, h.from d))) (before_or_at w (suc w) s e h))

  -- with all of them, the first light one being at l
  pub longest_end : (w l n : ℕ) → l ≤ suc w → Light threshold fs a l (suc w) → ((i : ℕ) → i < l → Heavy threshold fs a i (suc w)) → Longest threshold fs a w 0 n
      → Longest threshold fs a (suc w) 0 (max n (suc w - l))
  longest_end w l n h light heavy =
      longest_with w 0 (suc w) 0 l (suc w) n (old_end w 0)
      (λ s e g. ⊎_elim (λ (o : Seen w 0 s e). inl o) (λ (d : e ≡ suc w). inr (later s e g d)) (before_or_at w 0 s e g))
      (record { some = h; inside = omega arith; from = λ _. omega arith; light = light })
    where
      later : (s e : ℕ) → Seen (suc w) 0 s e → e ≡ suc w → e - s ≤ suc w - l
      later s e g d =
          let u = subst (λ (z : ℕ). Light threshold fs a s z) d g.light in
          let o = lt_of_not-le (λ (m : suc s ≤ l). omega (arith, heavy s m)) in
          omega arith

  -- ---- one start more, at i

  module _ (w i : ℕ) (in_row : suc i ≤ w) (n : ℕ) (l : Longest threshold fs a w (suc i) n) where
    later_seen : (s e : ℕ) → Seen w (suc i) s e → Seen w i s e
    later_seen s e h = record { some = h.some; inside = h.inside; from = λ d. omega (arith, h.from d); light = h.light }

    later_or_new : (s e : ℕ) → Seen w i s e → Seen w (suc i) s e ⊎ ((s ≡ i) × (e ≡ w))
    later_or_new s e h =
        ⊎_elim
        (λ (d : e ≡ w). ⊎_elim
        (λ (z : i ≡ s). inr (sym z, d))
        (λ (m : i < s). inl (record { some = h.some; inside = h.inside; from = λ _. m; light = h.light }))
        (eq-or-lt_of_le (h.from d)))
        (λ (m : e < w). inl (record { some = h.some; inside = h.inside; from = λ d. absurd (omega arith); light = h.light }))
        (eq-or-lt_of_le h.inside)

    pub longest_light : Light threshold fs a i w → Longest threshold fs a w i (max n (w - i))
    longest_light h =
        longest_with w (suc i) w i i w n later_seen
        (λ s e g. ⊎_elim (λ (o : Seen w (suc i) s e). inl o) (λ (d : (s ≡ i) × (e ≡ w)). inr (omega (arith, d.0, d.1))) (later_or_new s e g))
        (record { some = omega arith; inside = omega arith; from = λ _. omega arith; light = h }) l

    pub longest_heavy : Heavy threshold fs a i w → Longest threshold fs a w i n
    longest_heavy h =
        longest_same w (suc i) w i n later_seen
        (λ s e g. ⊎_elim (λ (o : Seen w (suc i) s e). inl o) (λ (d : (s ≡ i) × (e ≡ w)). absurd (not_light s e g d)) (later_or_new s e g)) l
      where
        not_light : (s e : ℕ) → Seen w i s e → (s ≡ i) × (e ≡ w) → ⊥
        not_light s e g d = let u = subst (λ (z : ℕ). Light threshold fs a z w) d.0 (subst (λ (z : ℕ). Light threshold fs a s z) d.1 g.light) in omega arith

    pub longest_longer : (f m n' : ℕ) → part_sum a i fs + f ≡ part_sum a w fs → m ≡ w - i → n' ≡ longer n threshold f m → Longest threshold fs a w i n'
    longest_longer f m n' e d g = rw (g, d) (go (ltb threshold f) refl)
      where
        go : (z : Bool) → ltb threshold f ≡ z → Longest threshold fs a w i (cond z n (max n (w - i)))
        go true k = let l = ltb-true threshold f k in longest_heavy (omega arith)
        go false k = let l = ltb-false threshold f k in longest_light (omega arith)
