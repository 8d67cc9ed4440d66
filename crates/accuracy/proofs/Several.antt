-- Several ranges: what is within q but for 2 theta of each is so but for 2r theta of r together, and above k theta that is the rule. And which rule
-- follows from which. Assumes nothing.
use mathlib.Core.Path.{◌≡◌, ap}
use mathlib.Core.List.{List, [], ◌∷◌}
use mathlib.Core.Logic.{◌⊎◌, inl, inr, ⊎_elim}
use Prim.Native.Nat.{ℕ, zero, suc, ◌+◌, ◌-◌, ◌*◌, ◌≤◌, ◌<◌}
use native.Mathlib.Nat.{add-zero, le_of_lt, mul-le-mul_left, mul-pos, eq-zero-or-pos}
use native.Mathlib.Omega.{arith}
use Rattle.laws.specs.Sums.{sum}
use Rattle.laws.specs.Tabulate.{tabulate}
use Rattle.laws.proofs.TabulateLaws.{sums_within}
use Rattle.estimate_rules.specs.Ranges.{range_count, x_at, y_at}
use Rattle.accuracy.specs.Claims.{count, answer, count_of, answer_of, InList, Within, ShorterRule, OneRange, OneRangeShorter, SeveralRanges, SeveralRangesShorter, Follows}
use Rattle.accuracy.proofs.ButFor.{ButFor, factor}

-- one of two facts, each as another follows from it
pub either : {A B C D : Type 0} → A ⊎ B → (A → C) → (B → D) → C ⊎ D
either (inl a) f g = inl (f a)
either (inr b) f g = inr (g b)

module _ (fs ws : List ℕ) (d theta qn qd : ℕ) where
  module _ (least : 1 ≤ qd) (above : qd ≤ qn) (near : (x y : ℕ) → x ≤ y → y ≤ d → ButFor qn qd theta 2 (count fs x y) (answer ws x y)) (ranges : List ℕ) where
    abbrev count_for : ℕ → ℕ
    count_for i = count fs (x_at ranges i) (y_at ranges i)

    abbrev answer_for : ℕ → ℕ
    answer_for i = answer ws (x_at ranges i) (y_at ranges i)

    several_but_for : InList d ranges → ButFor qn qd theta (2 * range_count ranges) (count_of fs ranges) (answer_of ws ranges)
    several_but_for h =
        let at : (i : ℕ) → i < range_count ranges → ButFor qn qd theta 2 (count_for i) (answer_for i) = λ i l. near (x_at ranges i) (y_at ranges i) (h i l).0 (h i l).1 in
        record {
          f_over = omega (arith, sums_within (range_count ranges) qd qn (qd * (2 * theta)) count_for answer_for (λ i l. (at i l).f_over));
          v_over = omega (arith, sums_within (range_count ranges) qd qn (qd * (2 * theta)) answer_for count_for (λ i l. (at i l).v_over));
        }

    -- a list of no range has neither count nor answer
    some_range : (t : ℕ) → (t < count_of fs ranges) ⊎ (t < answer_of ws ranges) → 0 < range_count ranges
    some_range t r =
        ⊎_elim
        (λ (z : range_count ranges ≡ 0).
        let f = ap (λ (n : ℕ). sum (tabulate n count_for)) z in
        let g = ap (λ (n : ℕ). sum (tabulate n answer_for)) z in
        absurd (⊎_elim (λ (l : t < count_of fs ranges). omega arith) (λ (l : t < answer_of ws ranges). omega arith) r))
        (λ (h : 0 < range_count ranges). h)
        (eq-zero-or-pos (range_count ranges))

    pub several_shorter : (k : ℕ) → InList d ranges → ShorterRule theta qn qd (range_count ranges) k (count_of fs ranges) (answer_of ws ranges)
    several_shorter k h l r =
        let w = factor (several_but_for h) k 1 above (omega arith) (either r (λ g. omega arith) (λ g. omega arith)) in
        let more : 0 < qd * (2 * range_count ranges) = mul-pos least (omega (arith, some_range (k * theta) r)) in
        record { count_below = omega (arith, w.f_within); answer_below = omega (arith, w.v_within) }

  as_asked : SeveralRangesShorter fs ws d theta qn qd → SeveralRanges fs ws d theta qn qd
  as_asked shorter ranges k h l r =
      let b = shorter ranges k h l (either r (λ g. g) (λ g. omega arith)) in
      let n = range_count ranges in
      record {
        count_within = le_of_lt b.count_below;
        answer_within = omega (arith, b.answer_below, mul-le-mul_left (qd * (k - 2 * n)) (most (answer_of ws ranges) n));
      }
    where
      most : (a n : ℕ) → a - n ≤ a
      most a n = omega arith

  alone : (x y : ℕ) → x ≤ y → y ≤ d → InList d (x ∷ y ∷ [])
  alone x y h l zero i = (h, l)
  alone x y h l (suc n) i = absurd (omega arith)

  one : SeveralRanges fs ws d theta qn qd → OneRange fs ws d theta qn qd
  one rule x y k h l g r =
      let w : Within (qn * k) (qd * (k - 2)) 1 (count fs x y + 0) (answer ws x y + 0) =
      rule (x ∷ y ∷ []) k (alone x y h l) g (either r (λ f. omega arith) (λ f. omega arith)) in
      rw (add-zero (count fs x y), add-zero (answer ws x y)) at w

  one_shorter : SeveralRangesShorter fs ws d theta qn qd → OneRangeShorter fs ws d theta qn qd
  one_shorter rule x y k h l =
      let s : ShorterRule theta qn qd 1 k (count fs x y + 0) (answer ws x y + 0) = rule (x ∷ y ∷ []) k (alone x y h l) in
      rw (add-zero (count fs x y), add-zero (answer ws x y)) at s

  pub follows : Follows fs ws d theta qn qd
  follows = record { as_asked = as_asked; one = one; one_shorter = one_shorter }
