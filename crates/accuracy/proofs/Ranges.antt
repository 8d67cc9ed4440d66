-- A range over spans that follow one another: its count is the sum of what it holds of each. So what is shown of two spans, and can be added up, is
-- shown of both together, with as many cuts excused as there are ends that cut. Assumes nothing.
use mathlib.Core.Path.{◌≡◌, ap, subst, sym, ◌∙◌}
use mathlib.Core.List.{List}
use Prim.Native.Nat.{ℕ, ◌+◌, ◌-◌, ◌*◌, ◌≤◌, ◌<◌, min, max}
use native.Mathlib.Nat.{mul-le-mul_left, sub-eq-zero_of_le}
use native.Mathlib.Omega.{arith}
use Rattle.laws.specs.Sums.{part_sum}
use Rattle.laws.proofs.SumsLaws.{part_add}
use Rattle.estimate_rules.specs.declared.Fraction.{Fraction}
use Rattle.estimate_rules.specs.Fraction.{nothing, plus}
use Rattle.estimate_rules.specs.Exact.{overlap}
use Rattle.estimate_rules.proofs.CutLaws.{cuts, cuts_join}
use Rattle.estimate_rules.proofs.SpanLaws.{Joined}

-- the place of the range that is nearest to t
unfoldable pub nearest : ℕ → ℕ → ℕ → ℕ
nearest x y t = max x (min y t)

nearest_rises : (x y t u : ℕ) → t ≤ u → nearest x y t ≤ nearest x y u
unfolding nearest
nearest_rises x y t u h = omega arith

-- what the range from x to y counts in the span from a to e
abbrev pub count_in : List ℕ → ℕ → ℕ → ℕ → ℕ → ℕ
count_in fs x y a e = part_sum (nearest x y a) (nearest x y e - nearest x y a) fs

pub count_join : (fs : List ℕ) (x y a b e : ℕ) → a ≤ b → b ≤ e → count_in fs x y a b + count_in fs x y b e ≡ count_in fs x y a e
count_join fs x y a b e h k =
    let up = nearest_rises x y a b h in
    let next = nearest_rises x y b e k in
    let i = nearest x y a in
    let n = nearest x y b - i in
    let p : i + n ≡ nearest x y b = omega arith in
    let q : n + (nearest x y e - nearest x y b) ≡ nearest x y e - i = omega arith in
    ap (λ (j : ℕ). part_sum i n fs + part_sum j (nearest x y e - nearest x y b) fs) (sym p)
    ∙ sym (part_add i n (nearest x y e - nearest x y b) fs)
    ∙ ap (λ (l : ℕ). part_sum i l fs) q

pub count_same : (fs : List ℕ) (x y a : ℕ) → count_in fs x y a a ≡ 0
count_same fs x y a = let z : nearest x y a - nearest x y a ≡ 0 = omega arith in ap (λ (n : ℕ). part_sum (nearest x y a) n fs) z

-- where the range and the span have no entry in common, and where they have some
module _ (x y a e : ℕ) (ordered : x ≤ y) where
  nearest_none : overlap x y a e ≡ 0 → nearest x y e - nearest x y a ≡ 0
  unfolding nearest
  nearest_none z = sub-eq-zero_of_le (most (min y e) (omega arith) (omega arith))
    where
      most : (m : ℕ) → m ≤ y → m ≤ max x a → max x m ≤ max x (min y a)
      most m h k = omega arith

  nearest_start : 0 < overlap x y a e → nearest x y a ≡ max x a
  unfolding nearest
  nearest_start p = omega arith

  nearest_end : 0 < overlap x y a e → nearest x y e ≡ min y e
  unfolding nearest
  nearest_end p = omega arith

module _ (fs : List ℕ) (x y a e : ℕ) (ordered : x ≤ y) where
  pub count_none : overlap x y a e ≡ 0 → count_in fs x y a e ≡ 0
  count_none z = ap (λ (n : ℕ). part_sum (nearest x y a) n fs) (nearest_none x y a e ordered z)

  pub count_some : 0 < overlap x y a e → count_in fs x y a e ≡ part_sum (max x a) (overlap x y a e) fs
  count_some p =
      ap (λ (i : ℕ). part_sum i (nearest x y e - i) fs) (nearest_start x y a e ordered p)
      ∙ ap (λ (j : ℕ). part_sum (max x a) (j - max x a) fs) (nearest_end x y a e ordered p)

-- a span that holds the whole range
pub count_all : (fs : List ℕ) (x y a e : ℕ) → x ≤ y → a ≤ x → y ≤ e → count_in fs x y a e ≡ part_sum x (y - x) fs
unfolding nearest
count_all fs x y a e g h k =
    let from : nearest x y a ≡ x = omega arith in
    let to : nearest x y e ≡ y = omega arith in
    ap (λ (i : ℕ). part_sum i (nearest x y e - i) fs) from ∙ ap (λ (j : ℕ). part_sum x (j - x) fs) to

-- what is shown of a number of excused cuts, a count, and the fraction that estimates it, and can be added up
pub record Adding (P : ℕ → ℕ → Fraction → Type 0) : Type 0 where
  pub none : P 0 0 nothing
  pub more : (m n f : ℕ) (e : Fraction) → m ≤ n → P m f e → P n f e
  pub add : (m n f g : ℕ) (d e : Fraction) → P m f d → P n g e → P (m + n) (f + g) (plus d e)

module _ (P : ℕ → ℕ → Fraction → Type 0) (u v : ℕ) (fs : List ℕ) (x y : ℕ) where
  -- it is shown of a span from a to e and of the fraction that estimates what the range holds of it: u are excused where x cuts, v where y does
  abbrev pub Spanned : ℕ → ℕ → Fraction → Type 0
  Spanned a e s = P (u * cuts x a e + v * cuts y a e) (count_in fs x y a e) s

  pub spanned_joined : Adding P → Joined Spanned
  spanned_joined adds = record { none = spanned_none; join = spanned_join }
    where
      spanned_none : (a : ℕ) → Spanned a a nothing
      spanned_none a =
          subst (λ (n : ℕ). P (u * cuts x a a + v * cuts y a a) n nothing) (sym (count_same fs x y a))
          (adds.more 0 (u * cuts x a a + v * cuts y a a) 0 nothing (omega arith) adds.none)

      spanned_join : (a b e : ℕ) (s t : Fraction) → a ≤ b → b ≤ e → Spanned a b s → Spanned b e t → Spanned a e (plus s t)
      spanned_join a b e s t h k p q =
          subst (λ (n : ℕ). P (u * cuts x a e + v * cuts y a e) n (plus s t)) (count_join fs x y a b e h k)
          (adds.more _ (u * cuts x a e + v * cuts y a e) _ (plus s t)
          (omega (arith, mul-le-mul_left u (cuts_join x a b e h k), mul-le-mul_left v (cuts_join y a b e h k)))
          (adds.add _ _ _ _ s t p q))
