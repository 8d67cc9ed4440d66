-- What is shown of each bucketlet's piece (Pieces.antt), with what is excused at either end, is shown of the estimate of a range by an accepted
-- histogram: each end of the range cuts at most one bucketlet. Assumes nothing.
use mathlib.Core.Path.{◌≡◌, refl, ap, subst, sym, ◌∙◌}
use mathlib.Core.Bool.{true}
use mathlib.Core.List.{List}
use mathlib.Core.Logic.{inl, ⊎_elim}
use Prim.Native.Nat.{ℕ, ◌+◌, ◌-◌, ◌≤◌, ◌<◌, min, max}
use native.Mathlib.Nat.{mul-le-mul_left}
use native.Mathlib.Omega.{arith}
use Rattle.laws.specs.Sums.{part_sum}
use Rattle.counts_rules.specs.Total.{total_number}
use Rattle.words_rules.specs.Words.{entries, theta, qn, qd, buckets, start, end}
use Rattle.words_rules.specs.Decoded.{bucket_at, bucketlet_start, bucketlet_end, width_at}
use Rattle.words_rules.proofs.Proved.{histogram}
use Rattle.words_rules.proofs.EntryLaws.{bucketlet_end_lem}
use Rattle.fit.specs.Accepted.{quality_of}
use Rattle.estimate_rules.specs.declared.Fraction.{Fraction}
use Rattle.estimate_rules.specs.Fraction.{number}
use Rattle.estimate_rules.specs.Exact.{inside, bucketlet_piece, exact}
use Rattle.estimate_rules.proofs.ExactLaws.{inside_says}
use Rattle.estimate_rules.proofs.CutLaws.{cuts_most}
use Rattle.estimate_rules.proofs.SpanLaws.{exact_holds}
use Rattle.accuracy.specs.Sharper.{WholeWithin, UpTo}
use Rattle.accuracy.proofs.Ranges.{count_in, count_some, count_all, Adding, Spanned, spanned_joined}
use Rattle.accuracy.proofs.Close.{Close, close_more, close_as, close_adds, TwoWays, ways_adds, Capped, capped_whole, capped_adds}
use Rattle.accuracy.proofs.Pieces.{whole_keeps, number_close, bucketlet_ways, bucketlet_capped}
use Rattle.fit.proofs.AcceptedLaws.{Fitting}

module _ (fs ws : List ℕ) (ok : Fitting fs ws) where
  -- q is a factor that the numbers of an accepted histogram keep to

  q_up_to : UpTo (qn ws, qd ws) (qn ws, qd ws)
  q_up_to = let limits = histogram.limits ws ok.readable in record { positive = limits.least_qd_lem; least = omega (arith, limits.least_q); most = omega arith }

  pub whole_within_q : WholeWithin (qn ws, qd ws) fs ws
  whole_within_q =
      record {
        bucketlets = λ b j h l some. whole_keeps (quality_of ws) fs _ _ _ some (ok.bucketlets b j h l some);
        totals = λ b h. let near = ok.totals b h in record { count_at_most = omega (arith, near.count); number_at_most = omega (arith, near.estimate) };
      }

module _ (fs ws : List ℕ) (ok : Fitting fs ws) (x y : ℕ) (ordered : x ≤ y) where
  -- what the total of a bucket that lies wholly inside is near
  pub total_count : (a e : ℕ) → x ≤ a → e ≤ y → a < e → count_in fs x y a e ≡ part_sum a (e - a) fs
  total_count a e l r s =
      let from : max x a ≡ a = omega arith in
      let to : min y e ≡ e = omega arith in
      count_some fs x y a e ordered (omega arith) ∙ ap (λ (i : ℕ). part_sum i (min y e - i) fs) from ∙ ap (λ (j : ℕ). part_sum a (j - a) fs) to

  pub total_close : (p : ℕ × ℕ) → WholeWithin p fs ws → (b : ℕ) → b < buckets ws → inside x y (start ws b) (end ws b) ≡ true
      → Close p.0 p.1 (theta ws) 0 (count_in fs x y (start ws b) (end ws b)) (number (total_number (bucket_at ws b).total))
  total_close p keeps b h t =
      let a = start ws b in
      let e = end ws b in
      let says = inside_says x y a e t in
      close_as (number_close p (theta ws) _ _ (keeps.totals b h))
      (count_in fs x y a e) _ (total_count a e says.0 says.1 ((histogram.tiles ws ok.readable).not_empty b h)) refl

  -- what is shown of bucketlet j of bucket b
  abbrev pub OfBucketlet : (ℕ → ℕ → Fraction → Type 0) → ℕ → ℕ → ℕ → ℕ → Type 0
  OfBucketlet P u v b j =
      Spanned P u v fs x y (bucketlet_start (bucket_at ws b) j) (bucketlet_end (bucket_at ws b) j) (bucketlet_piece x y (bucket_at ws b) j)

  -- it is shown of the range, if it can be added up and is shown of each bucketlet, and of each total with nothing excused
  range_holds : (P : ℕ → ℕ → Fraction → Type 0) → Adding P → (u v : ℕ) → ((b j : ℕ) → b < buckets ws → j < 8 → OfBucketlet P u v b j)
      → ((b : ℕ) → b < buckets ws → inside x y (start ws b) (end ws b) ≡ true → P 0 (count_in fs x y (start ws b) (end ws b)) (number (total_number (bucket_at ws b).total)))
      → y ≤ entries ws → P (u + v) (part_sum x (y - x) fs) (exact ws x y)
  range_holds P adds u v bucketlets totals l =
      let d = entries ws in
      let all = exact_holds ws ok.readable x y (Spanned P u v fs x y) (spanned_joined P u v fs x y adds) bucketlets
      (λ b h t. adds.more 0 _ _ _ (omega arith) (totals b h t)) in
      subst (λ (n : ℕ). P (u + v) n (exact ws x y)) (count_all fs x y 0 d ordered (omega arith) l)
      (adds.more _ (u + v) _ (exact ws x y) (omega (arith, mul-le-mul_left u (cuts_most x 0 d), mul-le-mul_left v (cuts_most y 0 d))) all)

  -- with nothing excused
  pub range_close : (p : ℕ × ℕ) → WholeWithin p fs ws → ((b j : ℕ) → b < buckets ws → j < 8 → OfBucketlet (Close p.0 p.1 (theta ws)) 0 0 b j) → y ≤ entries ws
      → Close p.0 p.1 (theta ws) 0 (part_sum x (y - x) fs) (exact ws x y)
  range_close p keeps bucketlets = range_holds (Close p.0 p.1 (theta ws)) (close_adds p.0 p.1 (theta ws)) 0 0 bucketlets (total_close p keeps)

  -- a bucketlet by its start and its width
  pub by_width : (P : ℕ → ℕ → Fraction → Type 0) (u v b j : ℕ)
      → (let r = bucket_at ws b in Spanned P u v fs x y (bucketlet_start r j) (bucketlet_start r j + width_at r j) (bucketlet_piece x y r j)) → OfBucketlet P u v b j
  by_width P u v b j s =
      let r = bucket_at ws b in
      subst (λ (e : ℕ). Spanned P u v fs x y (bucketlet_start r j) e (bucketlet_piece x y r j)) (sym (bucketlet_end_lem r j)) s

  -- both cuts excused and the rest within p, or at most one and the rest within q

  pub range_ways : (p : ℕ × ℕ) → UpTo (qn ws, qd ws) p → WholeWithin p fs ws → y ≤ entries ws
      → TwoWays p (qn ws, qd ws) (theta ws) 2 (part_sum x (y - x) fs) (exact ws x y)
  range_ways p up keeps =
      range_holds (TwoWays p (qn ws, qd ws) (theta ws)) (ways_adds p (qn ws, qd ws) (theta ws) up) 1 1
      (λ b j h l.
      by_width (TwoWays p (qn ws, qd ws) (theta ws)) 1 1 b j
      (bucketlet_ways (quality_of ws) fs x y _ _ _ ordered (ok.bucketlets b j h l) p (keeps.bucketlets b j h l)))
      (λ b h t. inl (total_close p keeps b h t))

  pub range_close_two : y ≤ entries ws → Close (qn ws) (qd ws) (theta ws) 2 (part_sum x (y - x) fs) (exact ws x y)
  range_close_two l = ⊎_elim (λ s. s) (λ s. close_more s.close 2 (omega (arith, s.fewer))) (range_ways (qn ws, qd ws) (q_up_to fs ws ok) (whole_within_q fs ws ok) l)

  pub range_capped : y ≤ entries ws → Capped (qn ws) (qd ws) (theta ws) 2 (part_sum x (y - x) fs) (exact ws x y)
  range_capped =
      let least = (histogram.limits ws ok.readable).least_theta in
      range_holds (Capped (qn ws) (qd ws) (theta ws)) (capped_adds (qn ws) (qd ws) (theta ws)) 1 1
      (λ b j h l. by_width (Capped (qn ws) (qd ws) (theta ws)) 1 1 b j (bucketlet_capped (quality_of ws) fs x y _ _ _ ordered (ok.bucketlets b j h l) least))
      (λ b h t. capped_whole (qn ws) (qd ws) (theta ws) _ _ refl (total_close (qn ws, qd ws) (whole_within_q fs ws ok) b h t))
