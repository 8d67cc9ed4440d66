-- A range inside one bucketlet: the estimate is that bucketlet's piece alone, or its bucket's total. Above theta the piece is not excused,
-- so it is within q. Assumes nothing.
use mathlib.Core.Path.{◌≡◌, subst, sym, ◌∙◌}
use mathlib.Core.Bool.{true, false}
use mathlib.Core.List.{List}
use mathlib.Core.Logic.{◌⊎◌, inl, inr, ⊎_elim}
use Prim.Native.Nat.{ℕ, suc, ◌+◌, ◌-◌, ◌≤◌, ◌<◌}
use native.Mathlib.Nat.{le_trans}
use native.Mathlib.Omega.{arith}
use Rattle.laws.specs.Sums.{part_sum}
use Rattle.laws.proofs.Tests.{is_false, tested}
use Rattle.words_rules.specs.declared.Bucket.{Bucket}
use Rattle.words_rules.specs.Words.{entries, theta, qn, qd, buckets, start, end}
use Rattle.words_rules.specs.Decoded.{bucket_at, bucketlet_start, bucketlet_end, width_at, number_at}
use Rattle.words_rules.proofs.Proved.{histogram}
use Rattle.words_rules.proofs.EntryLaws.{bucketlet_end_lem}
use Rattle.fit.specs.Accepted.{quality_of}
use Rattle.estimate_rules.specs.Fraction.{nothing, sum_of, rounded}
use Rattle.estimate_rules.specs.Exact.{inside, piece, bucketlet_piece, bucket_piece, exact}
use Rattle.estimate_rules.proofs.FractionLaws.{sum_none, sum_one}
use Rattle.estimate_rules.proofs.ExactLaws.{inside_says, piece_none, bucket_whole, bucket_parts}
use Rattle.estimate_rules.proofs.CutLaws.{rises, apart}
use Rattle.estimate_rules.proofs.SpanLaws.{bucketlets_rise, first_bucketlet, last_bucketlet, edge, edge_start, edge_end, edges_rise}
use Rattle.accuracy.proofs.Close.{Close, close_as}
use Rattle.accuracy.proofs.Ranges.{count_in, count_all}
use Rattle.accuracy.proofs.Pieces.{bucketlet_above}
use Rattle.fit.proofs.AcceptedLaws.{Fitting}
use Rattle.accuracy.proofs.Estimate.{whole_within_q, total_close}

module _ (x y : ℕ) where
  -- the range lies beside the span from a to e
  abbrev Beside : ℕ → ℕ → Type 0
  Beside a e = (e ≤ x) ⊎ (y ≤ a)

  piece_beside : (a w s : ℕ) → Beside a (a + w) → piece x y a w s ≡ nothing
  piece_beside a w s d = piece_none x y a w s (⊎_elim (λ (l : a + w ≤ x). omega arith) (λ (l : y ≤ a). omega arith) d)

  bucketlet_beside : (r : Bucket) (j : ℕ) → Beside (bucketlet_start r j) (bucketlet_end r j) → bucketlet_piece x y r j ≡ nothing
  bucketlet_beside r j d =
      piece_beside (bucketlet_start r j) (width_at r j) (number_at r j) (subst (λ (e : ℕ). Beside (bucketlet_start r j) e) (bucketlet_end_lem r j) d)

module _ (fs ws : List ℕ) (ok : Fitting fs ws) (x y : ℕ) (ordered : x ≤ y) where
  not_inside : (b : ℕ) → b < buckets ws → Beside x y (start ws b) (end ws b) → inside x y (start ws b) (end ws b) ≡ false
  not_inside b h d =
      let some = (histogram.tiles ws ok.readable).not_empty b h in
      is_false (inside x y (start ws b) (end ws b))
      (λ t.
      let says = inside_says x y (start ws b) (end ws b) t in
      ⊎_elim (λ (g : end ws b ≤ x). omega arith) (λ (g : y ≤ start ws b). omega arith) d)

  bucket_beside : (b : ℕ) → b < buckets ws → Beside x y (start ws b) (end ws b) → bucket_piece ws x y b ≡ nothing
  bucket_beside b h d =
      let r = bucket_at ws b in
      let first = first_bucketlet ws b in
      let last = last_bucketlet ws ok.readable b h in
      bucket_parts ws x y b (not_inside b h d)
      ∙ sum_none 8 (bucketlet_piece x y r)
      (λ j l.
      let from = rises (bucketlet_start r) 0 j (λ k g. bucketlets_rise r k) (omega arith) in
      let to = rises (bucketlet_start r) (suc j) 8 (λ k g. bucketlets_rise r k) l in
      bucketlet_beside x y r j (⊎_elim (λ (g : end ws b ≤ x). inl (omega arith)) (λ (g : y ≤ start ws b). inr (omega arith)) d))

  module _ (b j : ℕ) (h : b < buckets ws) (l : j < 8) (from : bucketlet_start (bucket_at ws b) j ≤ x) (to : y ≤ bucketlet_end (bucket_at ws b) j) where
    -- the range lies in the bucket
    starts_in : start ws b ≤ x
    starts_in =
        let r = bucket_at ws b in
        omega (arith, first_bucketlet ws b, rises (bucketlet_start r) 0 j (λ k g. bucketlets_rise r k) (omega arith))

    ends_in : y ≤ end ws b
    ends_in =
        let r = bucket_at ws b in
        omega (arith, last_bucketlet ws ok.readable b h, rises (bucketlet_start r) (suc j) 8 (λ k g. bucketlets_rise r k) l)

    pub ends_in_list : y ≤ entries ws
    ends_in_list = le_trans ends_in ((histogram.tiles ws ok.readable).within b h)

    exact_one : exact ws x y ≡ bucket_piece ws x y b
    unfolding exact
    exact_one =
        sum_one (buckets ws) (bucket_piece ws x y) b h
        (λ i k d.
        let e = edge_end ws i in
        let f = edge_end ws b in
        let s = edge_start ws i k in
        let t = edge_start ws b h in
        bucket_beside i k
        (⊎_elim
        (λ (g : edge ws (suc i) ≤ edge ws b). inl (omega (arith, starts_in)))
        (λ (g : edge ws (suc b) ≤ edge ws i). inr (omega (arith, ends_in)))
        (apart (edge ws) (buckets ws) i b (edges_rise ws ok.readable) k h d)))

    bucketlets_one : sum_of 8 (bucketlet_piece x y (bucket_at ws b)) ≡ bucketlet_piece x y (bucket_at ws b) j
    bucketlets_one =
        let r = bucket_at ws b in
        sum_one 8 (bucketlet_piece x y r) j l
        (λ i k d.
        bucketlet_beside x y r i
        (⊎_elim
        (λ (g : bucketlet_start r (suc i) ≤ bucketlet_start r j). inl (omega arith))
        (λ (g : bucketlet_start r (suc j) ≤ bucketlet_start r i). inr (omega arith))
        (apart (bucketlet_start r) 8 i j (λ k g. bucketlets_rise r k) k l d)))

    bucket_count : count_in fs x y (start ws b) (end ws b) ≡ part_sum x (y - x) fs
    bucket_count = count_all fs x y (start ws b) (end ws b) ordered starts_in ends_in

    pub one_close : (theta ws < part_sum x (y - x) fs) ⊎ (theta ws < rounded (exact ws x y)) → Close (qn ws) (qd ws) (theta ws) 0 (part_sum x (y - x) fs) (exact ws x y)
    one_close above = ⊎_elim whole part (tested (inside x y (start ws b) (end ws b)))
      where
        f : ℕ
        f = part_sum x (y - x) fs

        r : Bucket
        r = bucket_at ws b

        whole : inside x y (start ws b) (end ws b) ≡ true → Close (qn ws) (qd ws) (theta ws) 0 f (exact ws x y)
        whole t = close_as (total_close fs ws ok x y ordered (qn ws, qd ws) (whole_within_q fs ws ok) b h t) f (exact ws x y) (sym bucket_count) (exact_one ∙ bucket_whole ws x y b t)

        part : inside x y (start ws b) (end ws b) ≡ false → Close (qn ws) (qd ws) (theta ws) 0 f (exact ws x y)
        part t =
            let a = bucketlet_start r j in
            let w = width_at r j in
            let s = number_at r j in
            let c : count_in fs x y a (a + w) ≡ f = count_all fs x y a (a + w) ordered from (omega (arith, bucketlet_end_lem r j)) in
            let e : exact ws x y ≡ piece x y a w s = exact_one ∙ bucket_parts ws x y b t ∙ bucketlets_one in
            let up : (theta ws < count_in fs x y a (a + w)) ⊎ (theta ws < rounded (piece x y a w s)) =
            ⊎_elim (λ (g : theta ws < f). inl (rw c g)) (λ (g : theta ws < rounded (exact ws x y)). inr (rw e at g)) above in
            close_as (bucketlet_above (quality_of ws) fs x y a w s ordered (ok.bucketlets b j h l) up) f (exact ws x y) (sym c) e
