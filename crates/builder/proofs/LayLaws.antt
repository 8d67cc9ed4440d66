-- One bucketlet more is what the definition of the bucket has at that place, and eight of them are the bucket.
-- Assumes nothing.
use mathlib.Core.Path.{◌≡◌, refl, sym, ap, ◌∙◌}
use mathlib.Core.Bool.{Bool, not}
use mathlib.Core.List.{List}
use Prim.Native.Nat.{ℕ, zero, suc, ◌+◌, ◌≤◌, ◌<◌}
use native.Mathlib.Omega.{arith}
use lib.ListN.{length, get_or, set}
use Rattle.laws.specs.Sums.{sum, prefix_sum, part_sum}
use Rattle.laws.proofs.Filled.{Filled, filled_none, filled_more, filled_all}
use Rattle.laws.proofs.SumsLaws.{prefix_suc, prefix_all, part_add}
use Rattle.counts_rules.specs.Form.{base}
use Rattle.counts_rules.specs.Class.{class_of}
use Rattle.counts_rules.specs.Total.{total_code}
use Rattle.list_rules.specs.declared.Quality.{Quality}
use Rattle.build_rules.specs.Bucket.{width_within, first_free, limits_of, bucket_widths, bucketlet_class, classes_from, bucket_from}
use Rattle.build_rules.proofs.BucketLaws.{place_of, widths_length, first_is, width_at_lem, place_next, next_is, classes_length, class_at_lem}
use Rattle.builder.specs.Private.Laying.{placed}

-- the first limit does not depend on the first width
limit_same : (k x y : ℕ) → (0 < k → x ≡ y) → get_or (limits_of x) k 0 ≡ get_or (limits_of y) k 0
limit_same zero x y h = refl
limit_same (suc k) x y h = ap (λ (n : ℕ). get_or (limits_of n) (suc k) 0) (h (omega arith))

module _ (q : Quality) (fs : List ℕ) (end a : ℕ) where
  abbrev ws : List ℕ
  ws = bucket_widths q fs end a

  abbrev pub width_of : ℕ → ℕ
  width_of k = get_or ws k 0

  abbrev pub class_of_place : ℕ → ℕ
  class_of_place k = get_or (classes_from fs a ws) k 0

  -- the first k bucketlets are there
  pub record Laid (widths classes : List ℕ) (total at k : ℕ) : Type 0 where
    pub places : k ≤ 8
    pub at_place : at ≡ place_of q fs end a k
    pub widths_in : Filled width_of 8 k widths
    pub classes_in_lem : Filled class_of_place 8 k classes
    pub counted : total ≡ part_sum a (prefix_sum k ws) fs

  pub laid_none : (widths classes : List ℕ) → length widths ≡ 8 → length classes ≡ 8 → Laid widths classes 0 a 0
  laid_none widths classes e d =
      record {
        places = omega arith;
        at_place = omega arith;
        widths_in = filled_none width_of 8 widths e;
        classes_in_lem = filled_none class_of_place 8 classes d;
        counted = refl;
      }

  module _ (k : ℕ) (h : k < 8) (widths classes : List ℕ) (total at : ℕ) (l : Laid widths classes total at k) where
    -- the width that is grown there
    pub width_step : (most w : ℕ) → most ≡ get_or (limits_of (get_or widths 0 0)) k 0 → w ≡ width_within q fs end at most → w ≡ width_of k
    width_step most w e d =
        let m : most ≡ get_or (limits_of (width_of 0)) k 0 = e ∙ limit_same k (get_or widths 0 0) (width_of 0) (λ p. l.widths_in.front 0 p) in
        d ∙ ap (λ (x : ℕ). width_within q fs end x most) l.at_place ∙ ap (width_within q fs end (place_of q fs end a k)) m ∙ sym (width_at_lem q fs end a k h)

    class_step : (w count class : ℕ) → w ≡ width_of k → count ≡ part_sum at w fs → class ≡ class_of base count → class ≡ class_of_place k
    class_step w count class e d f =
        f
        ∙ ap (class_of base) d
        ∙ ap (λ (x : ℕ). bucketlet_class fs x w) l.at_place
        ∙ ap (bucketlet_class fs (place_of q fs end a k)) e
        ∙ sym (class_at_lem fs a ws k (omega (arith, widths_length q fs end a)))

    pub total_step : (w count : ℕ) → w ≡ width_of k → count ≡ part_sum at w fs → total + count ≡ part_sum a (prefix_sum (suc k) ws) fs
    total_step w count e d =
        let p = prefix_sum k ws in
        let s : part_sum a (p + w) fs ≡ part_sum a p fs + part_sum (a + p) w fs = part_add a p w fs in
        let c : count ≡ part_sum (a + p) w fs = d ∙ ap (λ (x : ℕ). part_sum x w fs) l.at_place in
        let n : prefix_sum (suc k) ws ≡ p + w = prefix_suc k ws ∙ ap (λ (x : ℕ). p + x) (sym e) in
        let t = l.counted in
        let r : part_sum a (prefix_sum (suc k) ws) fs ≡ part_sum a (p + w) fs = ap (λ (x : ℕ). part_sum a x fs) n in
        omega arith

    pub laid_more : (w count class : ℕ) → w ≡ width_of k → count ≡ part_sum at w fs → class ≡ class_of base count
        → Laid (set widths k w) (set classes k class) (total + count) (at + w) (suc k)
    laid_more w count class e d f =
        record {
          places = h;
          at_place = omega (arith, l.at_place, place_next q fs end a k);
          widths_in = filled_more width_of 8 k w widths h e l.widths_in;
          classes_in_lem = filled_more class_of_place 8 k class classes h (class_step w count class e d f) l.classes_in_lem;
          counted = total_step w count e d;
        }

  -- all eight
  module _ (widths classes : List ℕ) (total at : ℕ) (l : Laid widths classes total at 8) where
    pub total_all : total ≡ part_sum a (sum ws) fs
    total_all = l.counted ∙ ap (λ (x : ℕ). part_sum a x fs) (prefix_all 8 ws (omega (arith, widths_length q fs end a)))

    pub laid_all : (flag : Bool) (code : ℕ) → flag ≡ not (first_free (get_or widths 0 0)) → code ≡ total_code total
        → record { bucket = record { widths = widths; classes = classes; start = a; flag = flag; total = code }; next = at } ≡ placed q fs end a
    unfolding bucket_from
    laid_all flag code e d =
        let w : widths ≡ ws = filled_all width_of 8 widths ws l.widths_in (widths_length q fs end a) (λ k h. refl) in
        let c : classes ≡ classes_from fs a ws =
        filled_all class_of_place 8 classes (classes_from fs a ws) l.classes_in_lem (classes_length fs a ws ∙ widths_length q fs end a) (λ k h. refl) in
        let f = e ∙ ap (λ (n : ℕ). not (first_free n)) (l.widths_in.front 0 (omega arith) ∙ first_is q fs end a) in
        let t = d ∙ ap total_code total_all in
        let n = l.at_place ∙ sym (next_is q fs end a) in
        rw (w, c, f, t, n)
