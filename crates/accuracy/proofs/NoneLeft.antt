-- Where the sum of an estimate is 0 so is the count: each of its pieces is 0, so the number that gives it is, and what that stands for counts 0.
-- Assumes nothing.
use mathlib.Core.Path.{◌≡◌, subst, sym, ◌∙◌}
use mathlib.Core.Bool.{true, false}
use mathlib.Core.List.{List}
use mathlib.Core.Logic.{⊎_elim}
use Prim.Native.Nat.{ℕ, ◌+◌, ◌-◌, ◌≤◌, ◌<◌, max}
use native.Mathlib.Nat.{mul-le-mul_left, mul-le-mul_right, mul-pos, eq-zero-or-pos}
use native.Mathlib.Omega.{arith}
use Rattle.laws.specs.Sums.{part_sum}
use Rattle.laws.proofs.SumsLaws.{part_within}
use Rattle.laws.proofs.Tests.{tested}
use Rattle.counts_rules.specs.Total.{total_number}
use Rattle.words_rules.specs.Words.{entries, buckets, start, end, span}
use Rattle.words_rules.specs.Decoded.{bucket_at, bucketlet_start, bucketlet_end, width_at, number_at}
use Rattle.words_rules.proofs.Proved.{histogram}
use Rattle.words_rules.proofs.EntryLaws.{bucketlet_end_lem}
use Rattle.list_rules.specs.declared.Quality.{Quality}
use Rattle.fit.specs.Fit.{near, bucketlet_fits}
use Rattle.fit.specs.Accepted.{quality_of}
use Rattle.fit.proofs.FitLaws.{says_near}
use Rattle.fit.proofs.AcceptedLaws.{Fitting}
use Rattle.fit.proofs.ZeroLaws.{number_0, none_counted}
use Rattle.estimate_rules.specs.declared.Fraction.{Fraction}
use Rattle.estimate_rules.specs.Fraction.{number, plus, numerator}
use Rattle.estimate_rules.specs.Exact.{inside, piece, bucketlet_piece, exact}
use Rattle.estimate_rules.proofs.ExactLaws.{inside_says, piece_none, piece_whole, piece_cut}
use Rattle.estimate_rules.proofs.SpanLaws.{Joined, exact_holds}
use Rattle.accuracy.proofs.Ranges.{count_in, count_join, count_same, count_none, count_some, count_all}
use Rattle.accuracy.proofs.Pieces.{met}
use Rattle.accuracy.proofs.Estimate.{total_count}

-- what is shown of a span from a to e and of the fraction that estimates what the range holds of it
pub record Vanishing (fs : List ℕ) (x y a e : ℕ) (s : Fraction) : Type 0 where
  pub positive : 0 < s.bottom
  pub none : numerator s ≡ 0 → count_in fs x y a e ≡ 0

module _ (fs : List ℕ) (x y : ℕ) where
  vanishing_join : (a b e : ℕ) (s t : Fraction) → a ≤ b → b ≤ e → Vanishing fs x y a b s → Vanishing fs x y b e t → Vanishing fs x y a e (plus s t)
  vanishing_join a b e s t h k p q =
      record {
        positive = mul-pos p.positive q.positive;
        none = λ z.
            let one = p.none (omega (arith, mul-le-mul_left (numerator s) q.positive)) in
            let two = q.none (omega (arith, mul-le-mul_left (numerator t) p.positive)) in
            sym (count_join fs x y a b e h k) ∙ omega (arith, one, two);
      }

  vanishing_joined : Joined (Vanishing fs x y)
  vanishing_joined = record { none = λ a. record { positive = omega arith; none = λ z. count_same fs x y a }; join = vanishing_join }

  module _ (q : Quality) (least : 1 ≤ q.qd) (a w s : ℕ) (ordered : x ≤ y) (good : 0 < w → bucketlet_fits q fs a w s ≡ true) where
    -- of a bucketlet that stands for 0 the range counts 0
    counts_none : 0 < met x y a w → s ≡ 0 → count_in fs x y a (a + w) ≡ 0
    counts_none p z =
        let whole = none_counted q fs a w s least good z in
        let part = part_within a w (max x a) (met x y a w) fs (omega arith) (omega arith) in
        omega (arith, count_some fs x y a (a + w) ordered p)

    vanishing_piece : Vanishing fs x y a (a + w) (piece x y a w s)
    vanishing_piece =
        ⊎_elim
        (λ (z : met x y a w ≡ 0).
        subst (Vanishing fs x y a (a + w)) (sym (piece_none x y a w s z)) (record { positive = omega arith; none = λ _. count_none fs x y a (a + w) ordered z }))
        (λ (p : 0 < met x y a w). ⊎_elim
        (λ (t : inside x y a (a + w) ≡ true).
        subst (Vanishing fs x y a (a + w)) (sym (piece_whole x y a w s p t)) (record { positive = omega arith; none = λ z. counts_none p (omega arith) }))
        (λ (t : inside x y a (a + w) ≡ false).
        subst (Vanishing fs x y a (a + w)) (sym (piece_cut x y a w s p t))
        (record { positive = omega arith; none = λ z. counts_none p (omega (arith, mul-le-mul_right s p)) }))
        (tested (inside x y a (a + w))))
        (eq-zero-or-pos (met x y a w))

module _ (fs ws : List ℕ) (ok : Fitting fs ws) (x y : ℕ) (ordered : x ≤ y) where
  least : 1 ≤ (quality_of ws).qd
  least = (histogram.limits ws ok.readable).least_qd_lem

  vanishing_bucketlet : (b j : ℕ) → b < buckets ws → j < 8
      → Vanishing fs x y (bucketlet_start (bucket_at ws b) j) (bucketlet_end (bucket_at ws b) j) (bucketlet_piece x y (bucket_at ws b) j)
  vanishing_bucketlet b j h l =
      let r = bucket_at ws b in
      subst (λ (e : ℕ). Vanishing fs x y (bucketlet_start r j) e (bucketlet_piece x y r j)) (sym (bucketlet_end_lem r j))
      (vanishing_piece fs x y (quality_of ws) least (bucketlet_start r j) (width_at r j) (number_at r j) ordered (ok.bucketlets b j h l))

  vanishing_total : (b : ℕ) → b < buckets ws → inside x y (start ws b) (end ws b) ≡ true
      → Vanishing fs x y (start ws b) (end ws b) (number (total_number (bucket_at ws b).total))
  vanishing_total b h t =
      let says = inside_says x y (start ws b) (end ws b) t in
      let f = part_sum (start ws b) (span ws b) fs in
      record {
        positive = omega arith;
        none = λ z.
            let n : near (quality_of ws) f 0 1 ≡ true =
            subst (λ (x : ℕ). near (quality_of ws) f x 1 ≡ true) (omega arith) (says_near (quality_of ws) f (total_number (bucket_at ws b).total) 1 (ok.totals b h)) in
            total_count fs ws ok x y ordered (start ws b) (end ws b) says.0 says.1 ((histogram.tiles ws ok.readable).not_empty b h)
            ∙ number_0 (quality_of ws) f 1 least (omega arith) n;
      }

  pub none_left : y ≤ entries ws → numerator (exact ws x y) ≡ 0 → part_sum x (y - x) fs ≡ 0
  none_left l z =
      let all = exact_holds ws ok.readable x y (Vanishing fs x y) (vanishing_joined fs x y) vanishing_bucketlet vanishing_total in
      sym (count_all fs x y 0 (entries ws) ordered (omega arith) l) ∙ all.none z
