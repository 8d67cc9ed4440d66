-- Laws of running totals (specs/Running.antt): how they rise, and how they give the sum of a range whose buckets between its ends lie wholly
-- inside it.
-- Assumes nothing.
use mathlib.Core.Path.{◌≡◌, refl, sym, ap, ◌∙◌}
use mathlib.Core.List.{List}
use mathlib.Core.Logic.{⊎_elim}
use Prim.Native.Nat.{ℕ, zero, suc, ◌+◌, ◌-◌, ◌*◌, ◌^◌, ◌≤◌, ◌<◌}
use native.Mathlib.Nat.{zero-add, le_of_suc-le-suc, eq-or-lt_of_le}
use native.Mathlib.Omega.{arith}
use borrow.Author.Tests.{le-leb}
use lib.Dec.{leb}
use Rattle.laws.proofs.Tests.{both}
use Rattle.counts_rules.proofs.Proved.{totals}
use Rattle.words_rules.specs.Words.{entries, buckets, start, end}
use Rattle.words_rules.specs.Decoded.{bucket_at}
use Rattle.words_rules.specs.Reading.{Readable}
use Rattle.words_rules.specs.Finding.{bucket_of}
use Rattle.words_rules.specs.Claims.{InBucket}
use Rattle.words_rules.proofs.Proved.{histogram}
use Rattle.estimate_rules.specs.declared.Fraction.{Fraction}
use Rattle.estimate_rules.specs.Fraction.{number, nothing, plus, sum_of}
use Rattle.estimate_rules.specs.Exact.{total_at, bucket_piece, exact}
use Rattle.estimate_rules.specs.Running.{totals_from, running_total}
use Rattle.estimate_rules.specs.Claims.{ByTotals}
use Rattle.estimate_rules.proofs.FractionLaws.{plus_nothing, nothing_plus, plus_numbers, sum_none, sum_one, sum_rest}
use Rattle.estimate_rules.proofs.ExactLaws.{bucket_whole}
use Rattle.estimate_rules.proofs.CutLaws.{before_or_not, rises}
use Rattle.estimate_rules.proofs.SpanLaws.{edge, edge_start, edge_end, edges_rise, bucket_none}

module _ (ws : List ℕ) where
  pub running_none : running_total ws 0 ≡ 0
  unfolding running_total totals_from
  running_none = refl

  pub running_next : (i : ℕ) → running_total ws (suc i) ≡ running_total ws i + total_at ws i
  unfolding running_total totals_from
  running_next i = ap (λ (b : ℕ). totals_from ws 0 i + total_at ws b) (zero-add i)

  pub joined : (a n : ℕ) → running_total ws (a + n) ≡ running_total ws a + totals_from ws a n
  unfolding totals_from
  joined a zero = let e : a + 0 ≡ a = omega arith in omega (arith, ap (running_total ws) e)
  joined a (suc n) = let e : a + suc n ≡ suc (a + n) = omega arith in omega (arith, ap (running_total ws) e, running_next (a + n), joined a n)

  pub difference : (a b : ℕ) → a ≤ b → totals_from ws a (b - a) ≡ running_total ws b - running_total ws a
  difference a b h = let e : a + (b - a) ≡ b = omega arith in omega (arith, joined a (b - a), ap (running_total ws) e)

  pub running_rises : (a b : ℕ) → a ≤ b → running_total ws a ≤ running_total ws b
  running_rises a b h = let e : a + (b - a) ≡ b = omega arith in omega (arith, joined a (b - a), ap (running_total ws) e)

module _ (ws : List ℕ) (readable : Readable ws) where
  running_most : (i : ℕ) → i ≤ buckets ws → running_total ws i ≤ i * 2 ^ 31
  running_most zero h = omega (arith, running_none ws)
  running_most (suc i) h =
      omega (arith, running_next ws i, running_most i (omega arith), totals.number_small (bucket_at ws i).total (histogram.holds ws readable i h).total_valid)

  pub running_small : (i : ℕ) → i ≤ buckets ws → running_total ws i < 2 ^ 48
  running_small i h =
      let l = histogram.limits ws readable in
      omega (arith, running_most i h, l.most_buckets, l.most_entries)

  -- a bucket ends before a later one starts
  end_before : (a b : ℕ) → a < b → b < buckets ws → end ws a ≤ start ws b
  end_before a b l h =
      omega (arith, rises (edge ws) (suc a) b (λ k g. edges_rise ws readable k (omega arith)) l, edge_end ws a, edge_start ws b h)

-- ---- the sum of a range that isn't empty

module _ (ws : List ℕ) (readable : Readable ws) (x y : ℕ) (some : x < y) (within : y ≤ entries ws) where
  abbrev first : ℕ
  first = bucket_of ws x

  abbrev last : ℕ
  last = bucket_of ws (y - 1)

  pub in_first : InBucket ws x (bucket_of ws x)
  in_first = (histogram.entries ws readable).has_bucket x (omega arith)

  pub in_last : InBucket ws (y - 1) (bucket_of ws (y - 1))
  in_last = (histogram.entries ws readable).has_bucket (y - 1) (omega arith)

  pub in_order : bucket_of ws x ≤ bucket_of ws (y - 1)
  in_order =
      let turned : last < first → ⊥ = λ l. omega (arith, end_before ws readable last first l in_first.is_bucket, in_first.from, in_last.before) in
      omega arith

  none_before : (b : ℕ) → b < first → bucket_piece ws x y b ≡ nothing
  none_before b l =
      bucket_none ws readable x y b (omega (arith, in_first.is_bucket)) (omega (arith, end_before ws readable b first l in_first.is_bucket, in_first.from))

  none_after : (b : ℕ) → last < b → b < buckets ws → bucket_piece ws x y b ≡ nothing
  none_after b l h =
      bucket_none ws readable x y b h (omega (arith, end_before ws readable last b l h, in_last.before))

  whole_between : (b : ℕ) → first < b → b < last → bucket_piece ws x y b ≡ number (total_at ws b)
  whole_between b l g =
      bucket_whole ws x y b
      (both (leb x (start ws b)) (leb (end ws b) y)
      (le-leb x (start ws b) (omega (arith, end_before ws readable first b l (omega (arith, in_last.is_bucket)), in_first.before)))
      (le-leb (end ws b) y (omega (arith, end_before ws readable b last g in_last.is_bucket, in_last.from))))

  -- before the first there is nothing to sum
  pub sum_first : sum_of (bucket_of ws x) (bucket_piece ws x y) ≡ nothing
  sum_first = sum_none first (bucket_piece ws x y) none_before

  -- the sum up to a bucket that is not after the last
  pub sum_before : (n : ℕ) → bucket_of ws x < n → n ≤ bucket_of ws (y - 1)
      → sum_of n (bucket_piece ws x y) ≡ plus (bucket_piece ws x y (bucket_of ws x)) (number (running_total ws n - running_total ws (bucket_of ws x + 1)))
  unfolding sum_of
  sum_before zero l h = absurd (omega arith)
  sum_before (suc n) l h =
      let f = bucket_piece ws x y in
      let r = running_total ws in
      ⊎_elim
      (λ (e : first ≡ n).
      let same : suc n ≡ first + 1 = omega arith in
      let z : r (suc n) - r (first + 1) ≡ 0 = omega (arith, ap r same) in
      ap (λ (k : ℕ). plus (sum_of k f) (f k)) (sym e)
      ∙ ap (λ (s : Fraction). plus s (f first)) sum_first
      ∙ nothing_plus (f first)
      ∙ sym (ap (λ (k : ℕ). plus (f first) (number k)) z ∙ plus_nothing (f first)))
      (λ (g : first < n).
      let d : r n - r (first + 1) + total_at ws n ≡ r (suc n) - r (first + 1) = omega (arith, running_next ws n, running_rises ws (first + 1) n (omega arith)) in
      ap (λ (s : Fraction). plus s (f n)) (sum_before n g (omega arith))
      ∙ ap (plus (plus (f first) (number (r n - r (first + 1))))) (whole_between n g (omega arith))
      ∙ plus_numbers (f first) (r n - r (first + 1)) (total_at ws n)
      ∙ ap (λ (k : ℕ). plus (f first) (number k)) d)
      (eq-or-lt_of_le (le_of_suc-le-suc l))

  -- and with the last
  pub sum_last : exact ws x y ≡ sum_of (suc (bucket_of ws (y - 1))) (bucket_piece ws x y)
  unfolding exact
  sum_last = sum_rest (buckets ws) (suc last) (bucket_piece ws x y) in_last.is_bucket (λ i k h. none_after i k h)

  over_several : bucket_of ws x < bucket_of ws (y - 1)
      → exact ws x y ≡ plus (plus (bucket_piece ws x y (bucket_of ws x)) (number (running_total ws (bucket_of ws (y - 1)) - running_total ws (bucket_of ws x + 1)))) (bucket_piece ws x y (bucket_of ws (y - 1)))
  unfolding sum_of
  over_several l = sum_last ∙ ap (λ (s : Fraction). plus s (bucket_piece ws x y last)) (sum_before last l (omega arith))

  within_one : bucket_of ws x ≡ bucket_of ws (y - 1) → exact ws x y ≡ bucket_piece ws x y (bucket_of ws x)
  unfolding exact
  within_one e =
      sum_one (buckets ws) (bucket_piece ws x y) first in_first.is_bucket
      (λ i h d. ⊎_elim (λ (l : i < first). none_before i l) (λ (g : first ≤ i). none_after i (let n : i ≡ first → ⊥ = d in omega arith) h) (before_or_not i first))

  pub by_totals : ByTotals ws x y
  by_totals = record { in_order = in_order; within_one = within_one; over_several = over_several }
