-- The walk over a bucket's bucketlets and over the buckets: what is summed so far is a sum of the definition, and it is small.
-- Assumes nothing.
use mathlib.Core.Path.{◌≡◌, sym, ap, subst, ◌∙◌}
use mathlib.Core.Bool.{true}
use mathlib.Core.List.{List, ◌∷◌}
use Prim.Native.Nat.{ℕ, suc, ◌+◌, ◌-◌, ◌≤◌, ◌<◌}
use native.Mathlib.Nat.{le_trans}
use native.Mathlib.Omega.{arith}
use lib.ListN.{length, drop, length-drop}
use lib.Seq.{drop-cons}
use Rattle.counts_rules.specs.Form.{base, used_class}
use Rattle.counts_rules.specs.Class.{class_number}
use Rattle.words_rules.specs.declared.Bucket.{Bucket}
use Rattle.words_rules.specs.Words.{entries, buckets, start, end}
use Rattle.words_rules.specs.Decoded.{bucket_at, class_at, bucketlet_start, width_at, number_at}
use Rattle.words_rules.specs.Reading.{Readable}
use Rattle.words_rules.specs.Finding.{bucket_of, bucket_by_halving}
use Rattle.words_rules.proofs.Proved.{histogram}
use Rattle.words_rules.proofs.EntryLaws.{bucketlet_end_lem}
use Rattle.estimate_rules.specs.declared.Fraction.{Fraction}
use Rattle.estimate_rules.specs.Fraction.{nothing, plus, sum_of}
use Rattle.estimate_rules.specs.Exact.{piece, bucketlet_piece, bucket_piece, exact}
use Rattle.estimate_rules.proofs.CutLaws.{rises}
use Rattle.estimate_rules.proofs.RunningLaws.{in_last, in_order, sum_first, sum_last}
use Rattle.estimate_rules.proofs.SpanLaws.{bucketlet_within, edge, edges_rise, edge_last, bucketlets_hold, buckets_hold}
use Rattle.estimate_rules.proofs.SizeLaws.{Sized, sized_joined, bucketlet_sized, total_sized}
use Rattle.estimator.specs.Private.Adding.{Small, Addable}
use Rattle.estimator.proofs.AskLaws.{small_of}

-- the first k bucketlets of a bucket are summed
pub record Walked (r : Bucket) (x y : ℕ) (sum : Fraction) (a k : ℕ) : Type 0 where
  pub places : k ≤ 8
  pub at : a ≡ bucketlet_start r k
  pub summed : sum ≡ sum_of k (bucketlet_piece x y r)

module _ (r : Bucket) (x y : ℕ) where
  pub walk_start : (sum : Fraction) → sum ≡ nothing → (a : ℕ) → a ≡ bucketlet_start r 0 → Walked r x y sum a 0
  unfolding sum_of
  walk_start sum n a e = record { places = omega arith; at = e; summed = n }

  module _ (sum : Fraction) (a k : ℕ) (walked : Walked r x y sum a k) (l : k < 8) where
    next_at : a + width_at r k ≡ bucketlet_start r (suc k)
    next_at = omega (arith, walked.at, bucketlet_end_lem r k)

    next_sum : plus sum (piece x y a (width_at r k) (number_at r k)) ≡ sum_of (suc k) (bucketlet_piece x y r)
    unfolding sum_of
    next_sum =
        let e = walked.summed in
        let at = walked.at in
        λ i. plus (e i) (piece x y (at i) (width_at r k) (number_at r k))

    pub walk_step : (t : Fraction) → t ≡ plus sum (piece x y a (width_at r k) (number_at r k))
        → Walked r x y t (a + width_at r k) (suc k)
    walk_step t e = record { places = omega arith; at = next_at; summed = e ∙ next_sum }

-- and these are the widths and the classes of the others
pub record Along (r : Bucket) (x y : ℕ) (sum : Fraction) (a : ℕ) (widths classes : List ℕ) : Type 0 where
  pub k : ℕ
  pub walked : Walked r x y sum a k
  pub widths_left : widths ≡ drop k r.widths
  pub classes_left : classes ≡ drop k r.classes

module _ (r : Bucket) (x y : ℕ) (sum : Fraction) (a : ℕ) (ws cs : List ℕ) (g : Along r x y sum a ws cs) (eight : length r.widths ≡ 8) (as_many : length r.classes ≡ 8) where
  module _ (w c : ℕ) (us ds : List ℕ) (p : ws ≡ w ∷ us) (q : cs ≡ c ∷ ds) where
    pub some_left : g.k < 8
    some_left = omega (arith, ap length (sym g.widths_left ∙ p), length-drop g.k r.widths)

    next_width : w ∷ us ≡ width_at r g.k ∷ drop (suc g.k) r.widths
    next_width = let l = some_left in sym p ∙ g.widths_left ∙ drop-cons r.widths g.k 0 (omega arith)

    next_class : c ∷ ds ≡ class_at r g.k ∷ drop (suc g.k) r.classes
    next_class = let l = some_left in sym q ∙ g.classes_left ∙ drop-cons r.classes g.k 0 (omega arith)

    pub width_is : w ≡ width_at r g.k
    width_is = let e = next_width in cc

    pub class_is : c ≡ class_at r g.k
    class_is = let e = next_class in cc

    pub along_step : (t : Fraction) → t ≡ plus sum (piece x y a w (class_number base c)) → Along r x y t (a + w) us ds
    along_step t e =
        let wide = width_is in
        let class = class_is in
        record {
          k = suc g.k;
          walked = rw wide (walk_step r x y sum a g.k g.walked some_left t (e ∙ (λ i. plus sum (piece x y a (wide i) (class_number base (class i))))));
          widths_left = let e = next_width in cc;
          classes_left = let e = next_class in cc;
        }

module _ (ws : List ℕ) (readable : Readable ws) (x y : ℕ) where
  module _ (b : ℕ) (h : b < buckets ws) where
    -- a bucket ends within the list
    end_within : end ws b ≤ 65536
    end_within = le_trans ((histogram.tiles ws readable).within b h) (histogram.limits ws readable).most_entries

    sums_small : (k : ℕ) → k ≤ 8 → Small (sum_of k (bucketlet_piece x y (bucket_at ws b)))
    sums_small k l =
        small_of x y (start ws b) (bucketlet_start (bucket_at ws b) k) _
        (bucketlets_hold ws readable x y (Sized x y) (sized_joined x y) (λ b j h l. bucketlet_sized ws readable x y b h j l) (λ b h t. total_sized ws readable x y b h) b k h l)
        (omega (arith, bucketlet_within ws readable b h k l, end_within))

    -- of the bucket in hand
    module _ (r : Bucket) (e : r ≡ bucket_at ws b) where
      of_bucket : (P : Bucket → Type 0) → P (bucket_at ws b) → P r
      of_bucket P p = subst P (sym e) p

      pub class_used : (k : ℕ) → k < 8 → used_class (class_at r k) ≡ true
      class_used k l = of_bucket (λ (r : Bucket). used_class (class_at r k) ≡ true) ((histogram.holds ws readable b h).class_used k l)

      pub walk_within : (sum : Fraction) (a k : ℕ) → Walked r x y sum a k → k < 8 → a + width_at r k ≤ 65536
      walk_within sum a k w l =
          omega (arith, next_at r x y sum a k w l, end_within, of_bucket (λ (r : Bucket). bucketlet_start r (suc k) ≤ end ws b) (bucketlet_within ws readable b h (suc k) (omega arith)))

      pub walk_small : (sum : Fraction) (a k : ℕ) → Walked r x y sum a k → k < 8
          → (t : Fraction) → t ≡ piece x y a (width_at r k) (number_at r k) → Small (plus sum t)
      walk_small sum a k w l t p =
          subst (λ (t : Fraction). Small (plus sum t)) (sym p)
          (subst Small (sym (next_sum r x y sum a k w l)) (of_bucket (λ (r : Bucket). Small (sum_of (suc k) (bucketlet_piece x y r))) (sums_small (suc k) (omega arith))))

      -- and of the next bucketlet
      pub addable : (sum : Fraction) (a : ℕ) (us cs : List ℕ) (g : Along r x y sum a us cs) (eight : length r.widths ≡ 8) (as_many : length r.classes ≡ 8)
          (w c : ℕ) (vs ds : List ℕ) → us ≡ w ∷ vs → cs ≡ c ∷ ds → Addable sum x y a w c
      addable sum a us cs g eight as_many w c vs ds p q =
          let wide = width_is r x y sum a us cs g eight as_many w c vs ds p q in
          let class = class_is r x y sum a us cs g eight as_many w c vs ds p q in
          let l = some_left r x y sum a us cs g eight as_many w c vs ds p q in
          record {
            class_used = ap used_class class ∙ class_used g.k l;
            within = rw wide (walk_within sum a g.k g.walked l);
            small = walk_small sum a g.k g.walked l _ (λ i. piece x y a (wide i) (class_number base (class i)));
          }

  pub buckets_small : (n : ℕ) → n ≤ buckets ws → Small (sum_of n (bucket_piece ws x y))
  buckets_small n l =
      small_of x y 0 (edge ws n) _
      (buckets_hold ws readable x y (Sized x y) (sized_joined x y) (λ b j h l. bucketlet_sized ws readable x y b h j l) (λ b h t. total_sized ws readable x y b h) n l)
      (le_trans (rises (edge ws) n (buckets ws) (edges_rise ws readable) l) (omega (arith, edge_last ws, (histogram.limits ws readable).most_entries)))

-- the buckets before n are summed, of those up to that of the range's last entry
pub record Passed (ws : List ℕ) (x y : ℕ) (sum : Fraction) (n : ℕ) : Type 0 where
  pub within : n ≤ suc (bucket_of ws (y - 1))
  pub summed : sum ≡ sum_of n (bucket_piece ws x y)

module _ (ws : List ℕ) (readable : Readable ws) (x y : ℕ) (some : x < y) (within : y ≤ entries ws) where
  pub pass_start : (sum : Fraction) → sum ≡ nothing → (b : ℕ) → b ≡ bucket_by_halving ws x → Passed ws x y sum b
  pass_start sum n b e =
      let p = e ∙ (histogram.entries ws readable).halved x (omega arith) in
      record {
        within = omega (arith, p, in_order ws readable x y some within);
        summed = n ∙ sym (ap (λ (n : ℕ). sum_of n (bucket_piece ws x y)) p ∙ sum_first ws readable x y some within);
      }

  module _ (last : ℕ) (e : last ≡ bucket_by_halving ws (y - 1)) where
    last_is : last ≡ bucket_of ws (y - 1)
    last_is = e ∙ (histogram.entries ws readable).halved (y - 1) (omega arith)

    last_in : last < buckets ws
    last_in = omega (arith, last_is, (in_last ws readable x y some within).is_bucket)

    pub pass_bucket : (n : ℕ) → n ≤ last → n < buckets ws
    pass_bucket n l = omega (arith, last_in)

    module _ (sum : Fraction) (n : ℕ) (passed : Passed ws x y sum n) where
      next_passed : (t : Fraction) → t ≡ bucket_piece ws x y n → plus sum t ≡ sum_of (suc n) (bucket_piece ws x y)
      unfolding sum_of
      next_passed t p = let q = passed.summed in λ i. plus (q i) (p i)

      pub pass_small : n ≤ last → (t : Fraction) → t ≡ bucket_piece ws x y n → Small (plus sum t)
      pass_small l t p = subst Small (sym (next_passed t p)) (buckets_small ws readable x y (suc n) (pass_bucket n l))

      pub pass_step : n ≤ last → (t u : Fraction) → t ≡ bucket_piece ws x y n → u ≡ plus sum t → Passed ws x y u (suc n)
      pass_step l t u p q = record { within = omega (arith, last_is); summed = q ∙ next_passed t p }

      pub pass_end : last < n → sum ≡ exact ws x y
      pass_end l =
          let all : n ≡ suc (bucket_of ws (y - 1)) = omega (arith, last_is, passed.within) in
          passed.summed ∙ ap (λ (n : ℕ). sum_of n (bucket_piece ws x y)) all ∙ sym (sum_last ws readable x y some within)
