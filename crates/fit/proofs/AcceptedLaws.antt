-- What acceptance says (document 01, "What fits"): the list is readable, each bucketlet that is not empty fits, and each total is near its count.
-- Assumes nothing.
use mathlib.Core.Path.{◌≡◌}
use mathlib.Core.Bool.{true}
use mathlib.Core.List.{List}
use Prim.Native.Nat.{ℕ, ◌<◌}
use native.Mathlib.Omega.{arith}
use borrow.Author.Tests.{eqb-true, ne_eqb}
use lib.Dec.{eqb}
use Rattle.laws.specs.Each.{each}
use Rattle.laws.specs.Sums.{part_sum}
use Rattle.laws.proofs.EachLaws.{each_at}
use Rattle.laws.proofs.Tests.{both_left, both_right, holds_other}
use Rattle.counts_rules.specs.Total.{total_number}
use Rattle.words_rules.specs.Words.{buckets, start, span}
use Rattle.words_rules.specs.Decoded.{bucket_at, bucketlet_start, width_at, number_at}
use Rattle.words_rules.specs.Reading.{Readable}
use Rattle.fit.specs.Fit.{bucketlet_fits}
use Rattle.fit.specs.Accepted.{check_fault, quality_of, bucketlet_good, bucket_good, accepted}
use Rattle.fit.proofs.FitLaws.{Near, near_says}
use Rattle.fit.proofs.FaultLaws.{matching}

pub record Fitting (fs ws : List ℕ) : Type 0 where
  pub readable : Readable ws
  pub bucketlets : (b j : ℕ) → b < buckets ws → j < 8 → 0 < width_at (bucket_at ws b) j
      → bucketlet_fits (quality_of ws) fs (bucketlet_start (bucket_at ws b) j) (width_at (bucket_at ws b) j) (number_at (bucket_at ws b) j) ≡ true
  pub totals : (b : ℕ) → b < buckets ws → Near (quality_of ws) (part_sum (start ws b) (span ws b) fs) (total_number (bucket_at ws b).total) 1

module _ (fs ws : List ℕ) (t : accepted fs ws ≡ true) where
  no_fault : check_fault fs ws ≡ 0
  unfolding accepted
  no_fault = eqb-true (check_fault fs ws) 0 (both_left (eqb (check_fault fs ws) 0) _ t)

  bucket_good_lem : (b : ℕ) → b < buckets ws → bucket_good (quality_of ws) fs ws b ≡ true
  unfolding accepted
  bucket_good_lem b h = each_at (buckets ws) (bucket_good (quality_of ws) fs ws) (both_right (eqb (check_fault fs ws) 0) _ t) b h

  pub fitting : Fitting fs ws
  fitting =
      record {
        readable = (matching fs ws no_fault).readable;
        bucketlets = λ b j h l p.
            let good = each_at 8 (bucketlet_good (quality_of ws) fs (bucket_at ws b)) (both_left (each 8 (bucketlet_good (quality_of ws) fs (bucket_at ws b))) _ (bucket_good_lem b h)) j l in
            holds_other (eqb (width_at (bucket_at ws b) j) 0) _ good (ne_eqb (width_at (bucket_at ws b) j) 0 (λ z. omega arith));
        totals = λ b h. near_says (quality_of ws) _ _ 1 (both_right (each 8 (bucketlet_good (quality_of ws) fs (bucket_at ws b))) _ (bucket_good_lem b h));
      }
