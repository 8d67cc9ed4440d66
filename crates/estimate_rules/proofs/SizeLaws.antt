-- How large the numbers of an estimate become: a whole part is at most 2^31 an entry, and each cut multiplies the bottom by a width.
-- Assumes nothing.
use mathlib.Core.Path.{◌≡◌, subst, sym}
use mathlib.Core.Bool.{true, false}
use mathlib.Core.List.{List}
use mathlib.Core.Logic.{⊎_elim}
use Prim.Native.Nat.{ℕ, ◌+◌, ◌-◌, ◌*◌, ◌^◌, ◌≤◌, ◌<◌}
use native.Mathlib.Nat.{mul-le-mul, mul-le-mul_right, mul-pos, le_of_lt, le_trans, eq-zero-or-pos, one-le-pow, pow-le-pow_right}
use native.Mathlib.Omega.{arith}
use lib.Pow.{pow-add}
use Rattle.laws.proofs.Tests.{tested}
use Rattle.counts_rules.specs.Total.{total_number}
use Rattle.words_rules.specs.Limits.{max_width}
use Rattle.words_rules.specs.Words.{buckets, start, end}
use Rattle.words_rules.specs.Decoded.{bucket_at, class_at, bucketlet_start, bucketlet_end, width_at, number_at}
use Rattle.words_rules.specs.Reading.{Readable}
use Rattle.words_rules.proofs.Proved.{histogram}
use Rattle.words_rules.proofs.EntryLaws.{bucketlet_end_lem}
use Rattle.counts_rules.proofs.Proved.{classes, totals}
use Rattle.estimate_rules.specs.declared.Fraction.{Fraction}
use Rattle.estimate_rules.specs.Fraction.{number, quotient, plus}
use Rattle.estimate_rules.specs.Exact.{inside, overlap, piece, bucketlet_piece}
use Rattle.estimate_rules.proofs.ExactLaws.{piece_none, piece_whole, piece_cut}
use Rattle.estimate_rules.proofs.CutLaws.{cuts, cuts_join, cut_some}
use Rattle.estimate_rules.proofs.SpanLaws.{Joined}

-- of a span from a to e, with as many cuts, and what it gives
pub record Sized (x y a e : ℕ) (s : Fraction) : Type 0 where
  pub whole_small : s.whole ≤ (e - a) * 2 ^ 31
  pub bottom_some : 0 < s.bottom
  pub bottom_small : s.bottom ≤ max_width ^ (cuts x a e + cuts y a e)
  pub top_small : s.top ≤ (cuts x a e + cuts y a e) * (2 ^ 31 * s.bottom)

module _ (x y : ℕ) where
  sized_number : (a e n : ℕ) → n ≤ (e - a) * 2 ^ 31 → Sized x y a e (number n)
  sized_number a e n h =
      record {
        whole_small = h;
        bottom_some = omega arith;
        bottom_small = one-le-pow (cuts x a e + cuts y a e) max_width (omega arith);
        top_small = omega arith;
      }

  -- a cut of n entries of w
  sized_cut : (a e n w s : ℕ) → 1 ≤ cuts x a e + cuts y a e → 0 < w → w ≤ max_width → n ≤ w → s ≤ 2 ^ 31 → Sized x y a e (quotient (n * s) w)
  sized_cut a e n w s c p m h k =
      record {
        whole_small = omega arith;
        bottom_some = p;
        bottom_small = le_trans m (pow-le-pow_right {n = max_width} (omega arith) {i = 1} {j = cuts x a e + cuts y a e} c);
        top_small = omega (arith, mul-le-mul h k, mul-le-mul_right (2 ^ 31 * w) c);
      }

  sized_join : (a b e : ℕ) (s t : Fraction) → a ≤ b → b ≤ e → Sized x y a b s → Sized x y b e t → Sized x y a e (plus s t)
  sized_join a b e s t h k p q =
      let c = cuts x a b + cuts y a b in
      let d = cuts x b e + cuts y b e in
      let n = cuts x a e + cuts y a e in
      let l : c + d ≤ n = omega (arith, cuts_join x a b e h k, cuts_join y a b e h k) in
      let wide : max_width ^ (c + d) ≤ max_width ^ n = pow-le-pow_right {n = max_width} (omega arith) l in
      record {
        whole_small = omega (arith, p.whole_small, q.whole_small);
        bottom_some = mul-pos p.bottom_some q.bottom_some;
        bottom_small = le_trans (mul-le-mul p.bottom_small q.bottom_small) (subst (λ (m : ℕ). m ≤ max_width ^ n) (pow-add max_width c d) wide);
        top_small = omega (arith, mul-le-mul_right t.bottom p.top_small, mul-le-mul_right s.bottom q.top_small, mul-le-mul_right (2 ^ 31 * (s.bottom * t.bottom)) l);
      }

  pub sized_joined : Joined (Sized x y)
  sized_joined = record { none = λ a. sized_number a a 0 (omega arith); join = sized_join }

  sized_piece : (a w s : ℕ) → w ≤ max_width → s ≤ 2 ^ 31 → Sized x y a (a + w) (piece x y a w s)
  sized_piece a w s h k =
      ⊎_elim
      (λ (z : met ≡ 0). subst (Sized x y a (a + w)) (sym (piece_none x y a w s z)) (sized_number a (a + w) 0 (omega arith)))
      (λ (p : 0 < met).
      ⊎_elim
      (λ (t : inside x y a (a + w) ≡ true). subst (Sized x y a (a + w)) (sym (piece_whole x y a w s p t)) (sized_number a (a + w) s (omega arith)))
      (λ (t : inside x y a (a + w) ≡ false).
      subst (Sized x y a (a + w)) (sym (piece_cut x y a w s p t)) (sized_cut a (a + w) met w s (cut_some x y a (a + w) p t) (omega arith) h (omega arith) k))
      (tested (inside x y a (a + w))))
      (eq-zero-or-pos met)
    where
      met : ℕ
      met = overlap x y a (a + w)

module _ (ws : List ℕ) (readable : Readable ws) (x y b : ℕ) (is : b < buckets ws) where
  class_small : (j : ℕ) → j < 8 → number_at (bucket_at ws b) j ≤ 2 ^ 31
  class_small j l = le_of_lt (classes.number_small (class_at (bucket_at ws b) j) ((histogram.holds ws readable b is).class_used j l))

  pub bucketlet_sized : (j : ℕ) → j < 8 → Sized x y (bucketlet_start (bucket_at ws b) j) (bucketlet_end (bucket_at ws b) j) (bucketlet_piece x y (bucket_at ws b) j)
  bucketlet_sized j l =
      let r = bucket_at ws b in
      let holds = histogram.holds ws readable b is in
      subst (λ (e : ℕ). Sized x y (bucketlet_start r j) e (bucketlet_piece x y r j)) (sym (bucketlet_end_lem r j))
      (sized_piece x y (bucketlet_start r j) (width_at r j) (number_at r j) (holds.widths j) (class_small j l))

  pub total_sized : Sized x y (start ws b) (end ws b) (number (total_number (bucket_at ws b).total))
  total_sized =
      let some = (histogram.tiles ws readable).not_empty b is in
      sized_number x y (start ws b) (end ws b) (total_number (bucket_at ws b).total)
      (omega (arith, totals.number_small (bucket_at ws b).total (histogram.holds ws readable b is).total_valid))
