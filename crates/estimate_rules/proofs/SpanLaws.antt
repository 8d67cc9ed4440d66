-- The sum over spans that follow one another: bucketlets tile their bucket and buckets tile the list, so what holds of a span and what it
-- gives, for each bucketlet and for each bucket that lies wholly inside, holds of the list and its sum, if it can be joined.
-- Assumes nothing.
use mathlib.Core.Path.{◌≡◌, ap, subst, sym, ◌∙◌}
use mathlib.Core.Bool.{true, false, cond}
use mathlib.Core.List.{List}
use mathlib.Core.Logic.{⊎_elim}
use Prim.Native.Nat.{ℕ, zero, suc, ◌+◌, ◌≤◌, ◌<◌}
use native.Mathlib.Nat.{le_of_lt}
use native.Mathlib.Omega.{arith}
use borrow.Author.Tests.{lt-ltb, le-ltb}
use lib.Dec.{ltb}
use Rattle.laws.proofs.SumsLaws.{prefix_suc, prefix_all}
use Rattle.laws.proofs.Tests.{tested, is_false}
use Rattle.counts_rules.specs.Total.{total_number}
use Rattle.words_rules.specs.declared.Bucket.{Bucket}
use Rattle.words_rules.specs.Words.{entries, buckets, start, end}
use Rattle.words_rules.specs.Decoded.{decode, bucket_at, bucketlet_start, bucketlet_end, width_at, number_at}
use Rattle.words_rules.specs.Reading.{Readable}
use Rattle.words_rules.proofs.Proved.{histogram}
use Rattle.words_rules.proofs.EntryLaws.{bucketlet_end_lem}
use Rattle.estimate_rules.specs.declared.Fraction.{Fraction}
use Rattle.estimate_rules.specs.Fraction.{number, nothing, plus, sum_of}
use Rattle.estimate_rules.specs.Exact.{inside, overlap, bucketlet_piece, bucket_piece, exact}
use Rattle.estimate_rules.proofs.FractionLaws.{sum_none}
use Rattle.estimate_rules.proofs.ExactLaws.{inside_says, piece_none, bucket_whole, bucket_parts}
use Rattle.estimate_rules.proofs.CutLaws.{rises}

-- bucketlets follow one another, from the start of their bucket to its end

pub bucketlets_rise : (r : Bucket) (j : ℕ) → bucketlet_start r j ≤ bucketlet_start r (suc j)
bucketlets_rise r j = omega (arith, prefix_suc j r.widths)

pub first_bucketlet : (ws : List ℕ) (b : ℕ) → bucketlet_start (bucket_at ws b) 0 ≡ start ws b
unfolding decode
first_bucketlet ws b = omega arith

pub last_bucketlet : (ws : List ℕ) → Readable ws → (b : ℕ) → b < buckets ws → bucketlet_start (bucket_at ws b) 8 ≡ end ws b
last_bucketlet ws r b h =
    let k = (histogram.holds ws r b h).in_range in
    omega (arith, k.ends, prefix_all 8 (bucket_at ws b).widths (omega (arith, k.eight_widths)))

pub bucketlet_within : (ws : List ℕ) → Readable ws → (b : ℕ) → b < buckets ws → (k : ℕ) → k ≤ 8 → bucketlet_start (bucket_at ws b) k ≤ end ws b
bucketlet_within ws r b h k l = omega (arith, rises (bucketlet_start (bucket_at ws b)) k 8 (λ j g. bucketlets_rise (bucket_at ws b) j) l, last_bucketlet ws r b h)

-- a bucket of which the range holds no entry gives nothing
pub bucket_none : (ws : List ℕ) → Readable ws → (x y b : ℕ) → b < buckets ws → overlap x y (start ws b) (end ws b) ≡ 0 → bucket_piece ws x y b ≡ nothing
bucket_none ws readable x y b h z =
    let r = bucket_at ws b in
    bucket_parts ws x y b (is_false _ (λ t. omega (arith, inside_says x y (start ws b) (end ws b) t, (histogram.tiles ws readable).not_empty b h)))
    ∙ sum_none 8 (bucketlet_piece x y r) (λ k l.
    piece_none x y (bucketlet_start r k) (width_at r k) (number_at r k)
    (omega (arith, z, bucketlet_end_lem r k, bucketlet_within ws readable b h (suc k) (omega arith), first_bucketlet ws b, rises (bucketlet_start r) 0 k (λ j g. bucketlets_rise r j) (omega arith))))

-- where bucket b starts, and d where there is none
abbrev pub edge : List ℕ → ℕ → ℕ
edge ws b = cond (ltb b (buckets ws)) (start ws b) (entries ws)

pub edge_start : (ws : List ℕ) (b : ℕ) → b < buckets ws → edge ws b ≡ start ws b
edge_start ws b h = simp (lt-ltb b (buckets ws) h)

pub edge_end : (ws : List ℕ) (b : ℕ) → edge ws (suc b) ≡ end ws b
edge_end ws b = let e : suc b ≡ b + 1 = omega arith in ap (edge ws) e

pub edge_last : (ws : List ℕ) → edge ws (buckets ws) ≡ entries ws
edge_last ws = simp (le-ltb (buckets ws) (buckets ws) (omega arith))

pub edges_rise : (ws : List ℕ) → Readable ws → (b : ℕ) → b < buckets ws → edge ws b ≤ edge ws (suc b)
edges_rise ws r b h = rw (edge_start ws b h, edge_end ws b) (le_of_lt ((histogram.tiles ws r).not_empty b h))

-- what holds of a span and of what it gives, and can be joined
pub record Joined (P : ℕ → ℕ → Fraction → Type 0) : Type 0 where
  pub none : (a : ℕ) → P a a nothing
  pub join : (a b e : ℕ) (s t : Fraction) → a ≤ b → b ≤ e → P a b s → P b e t → P a e (plus s t)

tiled : (P : ℕ → ℕ → Fraction → Type 0) → Joined P → (at : ℕ → ℕ) (f : ℕ → Fraction) (n : ℕ) → ((i : ℕ) → i < n → at i ≤ at (suc i))
    → ((i : ℕ) → i < n → P (at i) (at (suc i)) (f i)) → P (at 0) (at n) (sum_of n f)
unfolding sum_of
tiled P p at f zero up h = p.none (at 0)
tiled P p at f (suc n) up h =
    p.join (at 0) (at n) (at (suc n)) (sum_of n f) (f n) (rises at 0 n (λ i l. up i (omega arith)) (omega arith)) (up n (omega arith))
    (tiled P p at f n (λ i l. up i (omega arith)) (λ i l. h i (omega arith)))
    (h n (omega arith))

module _ (ws : List ℕ) (readable : Readable ws) (x y : ℕ) (P : ℕ → ℕ → Fraction → Type 0) (p : Joined P)
    (bucketlet : (b j : ℕ) → b < buckets ws → j < 8 → P (bucketlet_start (bucket_at ws b) j) (bucketlet_end (bucket_at ws b) j) (bucketlet_piece x y (bucket_at ws b) j))
    (total : (b : ℕ) → b < buckets ws → inside x y (start ws b) (end ws b) ≡ true → P (start ws b) (end ws b) (number (total_number (bucket_at ws b).total))) where
  -- the first n bucketlets of bucket b
  pub bucketlets_hold : (b n : ℕ) → b < buckets ws → n ≤ 8 → P (start ws b) (bucketlet_start (bucket_at ws b) n) (sum_of n (bucketlet_piece x y (bucket_at ws b)))
  bucketlets_hold b n h k =
      let r = bucket_at ws b in
      subst (λ (a : ℕ). P a (bucketlet_start r n) (sum_of n (bucketlet_piece x y r))) (first_bucketlet ws b)
      (tiled P p (bucketlet_start r) (bucketlet_piece x y r) n (λ j l. bucketlets_rise r j) (λ j l. bucketlet b j h (omega arith)))

  bucket_holds : (b : ℕ) → b < buckets ws → P (start ws b) (end ws b) (bucket_piece ws x y b)
  bucket_holds b h =
      ⊎_elim
      (λ (t : inside x y (start ws b) (end ws b) ≡ true). subst (P (start ws b) (end ws b)) (sym (bucket_whole ws x y b t)) (total b h t))
      (λ (t : inside x y (start ws b) (end ws b) ≡ false).
      subst (P (start ws b) (end ws b)) (sym (bucket_parts ws x y b t))
      (subst (λ (e : ℕ). P (start ws b) e (sum_of 8 (bucketlet_piece x y (bucket_at ws b)))) (last_bucketlet ws readable b h) (bucketlets_hold b 8 h (omega arith))))
      (tested (inside x y (start ws b) (end ws b)))

  edge_holds : (b : ℕ) → b < buckets ws → P (edge ws b) (edge ws (suc b)) (bucket_piece ws x y b)
  edge_holds b h =
      subst (λ (e : ℕ). P (edge ws b) e (bucket_piece ws x y b)) (sym (edge_end ws b))
      (subst (λ (a : ℕ). P a (end ws b) (bucket_piece ws x y b)) (sym (edge_start ws b h)) (bucket_holds b h))

  -- the first n buckets
  pub buckets_hold : (n : ℕ) → n ≤ buckets ws → P 0 (edge ws n) (sum_of n (bucket_piece ws x y))
  buckets_hold n k =
      let some = (histogram.limits ws readable).some_buckets in
      subst (λ (a : ℕ). P a (edge ws n) (sum_of n (bucket_piece ws x y))) (edge_start ws 0 some ∙ (histogram.tiles ws readable).first_start)
      (tiled P p (edge ws) (bucket_piece ws x y) n (λ b l. edges_rise ws readable b (omega arith)) (λ b l. edge_holds b (omega arith)))

  pub exact_holds : P 0 (entries ws) (exact ws x y)
  unfolding exact
  exact_holds = subst (λ (e : ℕ). P 0 e (sum_of (buckets ws) (bucket_piece ws x y))) (edge_last ws) (buckets_hold (buckets ws) (omega arith))
