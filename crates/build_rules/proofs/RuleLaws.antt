-- Each bucket that is read of the words keeps the rules of building: it is the bucket of the definition, whose widths are each the largest.
-- Assumes nothing.
use mathlib.Core.Path.{◌≡◌, refl, sym, ap, subst, ◌∙◌}
use mathlib.Core.Bool.{not}
use mathlib.Core.List.{List}
use Prim.Native.Nat.{ℕ, ◌<◌}
use native.Mathlib.Omega.{arith}
use lib.ListN.{length}
use Rattle.laws.specs.Sums.{part_sum}
use Rattle.counts_rules.specs.Total.{total_code}
use Rattle.words_rules.specs.declared.Bucket.{Bucket}
use Rattle.words_rules.specs.Words.{span}
use Rattle.words_rules.specs.Decoded.{width_at}
use Rattle.list_rules.specs.declared.Quality.{Quality}
use Rattle.list_rules.specs.Private.Sound.{Sound}
use Rattle.build_rules.specs.Bucket.{first_free, bucket_widths, bucket_from}
use Rattle.build_rules.specs.Words.{stretch, words}
use Rattle.build_rules.specs.Claims.{Largest, AsWide, ByRule}
use Rattle.build_rules.proofs.WidthLaws.{width_largest}
use Rattle.build_rules.proofs.BucketLaws.{place_of, widths_length, width_at_lem, class_at_lem, class_of_none}
use Rattle.build_rules.proofs.ReadBack.{start_of, start_is, span_is, bucket_is}

-- the largest within a limit is that within an equal one
same_limit : {q : Quality} {fs : List ℕ} {a most limit w : ℕ} → Largest q fs a most w → most ≡ limit → Largest q fs a limit w
same_limit {q} {fs} {a} {most} {limit} {w} l e = subst (λ (n : ℕ). Largest q fs a n w) e l

-- bucketlets of the definition
as_wide : (q : Quality) (fs : List ℕ) (a k : ℕ) → k < 8 → AsWide q fs (bucket_from q fs (length fs) a) k
unfolding bucket_from
as_wide q fs a k h =
    let ws = bucket_widths q fs (length fs) a in
    let long : k < length ws = omega (arith, widths_length q fs (length fs) a) in
    record {
      widest = rw (width_at_lem q fs (length fs) a k h) (same_limit (width_largest q fs (place_of q fs (length fs) a k) _) (omega arith));
      class_of_count = class_at_lem fs a ws k long;
      class_of_none = class_of_none fs a ws k long;
    }

pub by_rule : (q : Quality) (fs : List ℕ) (sound : Sound fs q) (b : ℕ) → b < length (stretch q fs (length fs) 0) → ByRule q fs (words q fs) b
unfolding bucket_from bucket_widths
by_rule q fs sound b h =
    let ws = words q fs in
    let a = start_of q fs sound b in
    let e = bucket_is q fs sound b h in
    record {
      as_wide = λ k l. subst (λ (r : Bucket). AsWide q fs r k) (sym e) (as_wide q fs a k l);
      eighth_free = subst (λ (r : Bucket). r.flag ≡ not (first_free (width_at r 0))) (sym e) refl;
      total_of_count =
          ap (λ (r : Bucket). r.total) e
          ∙ ap (λ (n : ℕ). total_code (part_sum a n fs)) (sym (span_is q fs sound b h))
          ∙ ap (λ (x : ℕ). total_code (part_sum x (span ws b) fs)) (sym (start_is q fs sound b h));
    }
