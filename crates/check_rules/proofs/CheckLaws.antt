-- The answer for a bucket and for all of them (specs/Checking.antt) against what is accepted (specs/Accepted.antt of the crate fit): both take
-- the same way, so one accepts exactly if the other does. Assumes nothing.
use mathlib.Core.Path.{◌≡◌, refl, sym, ap, ◌∙◌}
use mathlib.Core.Bool.{Bool, true, false, ◌&&◌}
use mathlib.Core.List.{List}
use mathlib.Core.Logic.{⊎_elim}
use Prim.Native.Nat.{ℕ, ◌-◌, ◌<◌}
use native.Mathlib.Nat.{eq-or-lt_of_le}
use native.Mathlib.Omega.{arith}
use borrow.Author.Tests.{eq-eqb, ne_eqb, eqb-true, eqb-false}
use lib.Dec.{eqb}
use Rattle.laws.specs.Each.{each}
use Rattle.laws.specs.Sums.{part_sum}
use Rattle.laws.proofs.Tests.{both, both_left, both_right, either, holds_left, holds_right, tested}
use Rattle.laws.proofs.EachLaws.{each_at, each_all}
use Rattle.words_rules.specs.declared.Bucket.{Bucket}
use Rattle.words_rules.specs.Words.{buckets, start, end}
use Rattle.words_rules.specs.Decoded.{bucket_at, bucketlet_start, width_at, number_at}
use Rattle.list_rules.specs.declared.Quality.{Quality}
use Rattle.fit.specs.Fit.{bucketlet_fits}
use Rattle.fit.specs.Accepted.{check_fault, quality_of, bucketlet_good, total_good, bucket_good, accepted}
use Rattle.check_rules.specs.declared.Sort.TheVariants.{Bucket as OfBucket}
use Rattle.check_rules.specs.declared.Verdict.{Verdict}
use Rattle.check_rules.specs.declared.Verdict.TheVariants.{Accepted}
use Rattle.check_rules.specs.Reply.{Answer, verdict_reply, refused_answer, accepted_answer}
use Rattle.check_rules.specs.Failing.{or_next, first_failing}
use Rattle.check_rules.specs.Checking.{bucketlet_answer, total_verdict, bucket_verdict, buckets_verdict, check_reply}
use Rattle.check_rules.specs.Claims.{Reached}
use Rattle.check_rules.proofs.FirstLaws.{accepted_reply, next_accepted, next_other, accepted_left, accepted_right, no_refusal, all_accepted, accepted_all, first_at}
use Rattle.check_rules.proofs.RangeLaws.{good_accepted, accepted_good, empty_verdict, verdict_fits, fits_verdict}

module _ (q : Quality) (fs : List ℕ) where
  bucketlet_good_lem : (r : Bucket) (k : ℕ) → bucketlet_answer q fs r k ≡ Accepted → bucketlet_good q fs r k ≡ true
  bucketlet_good_lem r k e =
      let w = width_at r k in
      ⊎_elim
      (λ (z : 0 ≡ w). holds_left (eqb w 0) _ (eq-eqb w 0 (sym z)))
      (λ (p : 0 < w). holds_right (eqb w 0) _ (verdict_fits q fs (bucketlet_start r k) w (number_at r k) p e))
      (eq-or-lt_of_le (omega arith))

  pub good_bucketlet : (r : Bucket) (k : ℕ) → bucketlet_good q fs r k ≡ true → bucketlet_answer q fs r k ≡ Accepted
  good_bucketlet r k t =
      let a = bucketlet_start r k in
      let w = width_at r k in
      let s = number_at r k in
      ⊎_elim
      (λ (z : eqb w 0 ≡ true). empty_verdict q fs a w s (eqb-true w 0 z))
      (λ (g : bucketlet_fits q fs a w s ≡ true). fits_verdict q fs a w s g)
      (either (eqb w 0) (bucketlet_fits q fs a w s) t)

  module _ (ws : List ℕ) (b : ℕ) where
    abbrev total : Verdict
    total = total_verdict q fs (start ws b) (end ws b) (bucket_at ws b).total

    bucket_good_lem : bucket_verdict q fs ws b ≡ Accepted → bucket_good q fs ws b ≡ true
    unfolding bucket_verdict total_verdict
    bucket_good_lem e =
        let r = bucket_at ws b in
        let first = first_failing (bucketlet_answer q fs r) 8 0 in
        let l = accepted_left first total e in
        both (each 8 (bucketlet_good q fs r)) _
        (each_all 8 _ (λ k h. bucketlet_good_lem r k (accepted_all (bucketlet_answer q fs r) 8 0 l k (omega arith) (omega arith))))
        (accepted_good _ _ (accepted_right first total e))

    -- where nothing fails in its bucketlets the total decides
    pub total_decides : ((m : ℕ) → m < 8 → bucketlet_answer q fs (bucket_at ws b) m ≡ Accepted) → bucket_verdict q fs ws b ≡ total
    unfolding bucket_verdict
    total_decides g = next_accepted _ total (all_accepted (bucketlet_answer q fs (bucket_at ws b)) 8 0 (λ k _ h. g k (omega arith)))

    -- else the first of them in which something does
    pub bucketlet_decides : (k : ℕ) → k < 8 → ((m : ℕ) → m < k → bucketlet_answer q fs (bucket_at ws b) m ≡ Accepted) → (bucketlet_answer q fs (bucket_at ws b) k ≡ Accepted → ⊥)
        → bucket_verdict q fs ws b ≡ bucketlet_answer q fs (bucket_at ws b) k
    unfolding bucket_verdict
    bucketlet_decides k h g n =
        let f = first_at (bucketlet_answer q fs (bucket_at ws b)) 8 0 k (omega arith) (omega arith) (λ m _ l. g m l) n in
        ap (λ (v : Verdict). or_next v total) f ∙ next_other (bucketlet_answer q fs (bucket_at ws b) k) _ n

    good_bucket : bucket_good q fs ws b ≡ true → bucket_verdict q fs ws b ≡ Accepted
    unfolding total_verdict
    good_bucket t =
        let r = bucket_at ws b in
        let g = both_left (each 8 (bucketlet_good q fs r)) _ t in
        total_decides (λ m h. good_bucketlet r m (each_at 8 (bucketlet_good q fs r) g m h)) ∙ good_accepted _ _ (both_right (each 8 (bucketlet_good q fs r)) _ t)

module _ (fs ws : List ℕ) where
  abbrev checked : Verdict
  checked = buckets_verdict (quality_of ws) fs ws

  pub refused_reply : (check_fault fs ws ≡ 0 → ⊥) → check_reply fs ws ≡ refused_answer (check_fault fs ws)
  refused_reply n = let f : eqb (check_fault fs ws) 0 ≡ false = ne_eqb (check_fault fs ws) 0 n in rw f

  pub checked_reply : check_fault fs ws ≡ 0 → check_reply fs ws ≡ verdict_reply checked
  checked_reply e = let t : eqb (check_fault fs ws) 0 ≡ true = eq-eqb (check_fault fs ws) 0 e in rw t

  pub accepted_answers : accepted fs ws ≡ true → check_reply fs ws ≡ accepted_answer
  unfolding accepted buckets_verdict
  accepted_answers t =
      let q = quality_of ws in
      let f = eqb-true (check_fault fs ws) 0 (both_left (eqb (check_fault fs ws) 0) _ t) in
      let g = both_right (eqb (check_fault fs ws) 0) (each (buckets ws) (bucket_good q fs ws)) t in
      checked_reply f
      ∙ ap verdict_reply
      (all_accepted (bucket_verdict q fs ws) (buckets ws) 0 (λ b _ h. good_bucket q fs ws b (each_at (buckets ws) (bucket_good q fs ws) g b (omega arith))))

  pub answers_accepted : (check_reply fs ws).accepted ≡ true → accepted fs ws ≡ true
  unfolding accepted buckets_verdict
  answers_accepted e = go (eqb (check_fault fs ws) 0) refl
    where
      go : (t : Bool) → eqb (check_fault fs ws) 0 ≡ t → (t && each (buckets ws) (bucket_good (quality_of ws) fs ws)) ≡ true
      go true z =
          let q = quality_of ws in
          let c = accepted_reply checked (sym (ap (λ (a : Answer). a.accepted) (checked_reply (eqb-true (check_fault fs ws) 0 z))) ∙ e) in
          each_all (buckets ws) _ (λ b h. bucket_good_lem q fs ws b (accepted_all (bucket_verdict q fs ws) (buckets ws) 0 c b (omega arith) (omega arith)))
      go false z = sym (ap (λ (a : Answer). a.accepted) (refused_reply (eqb-false (check_fault fs ws) 0 z))) ∙ e

  -- the first bucket in which something fails decides
  pub bucket_decides : (b k : ℕ) → Reached fs ws b k → (bucket_verdict (quality_of ws) fs ws b ≡ Accepted → ⊥)
      → check_reply fs ws ≡ verdict_reply (bucket_verdict (quality_of ws) fs ws b)
  unfolding buckets_verdict
  bucket_decides b k r n =
      let q = quality_of ws in
      checked_reply r.no_fault
      ∙ ap verdict_reply
      (first_at (bucket_verdict q fs ws) (buckets ws) 0 b (omega arith) (omega (arith, r.is_bucket)) (λ m _ l. good_bucket q fs ws m (r.buckets_before m l)) n)

  pub refusal : (check_reply fs ws).refusal ≡ check_fault fs ws
  refusal = ⊎_elim none some (tested (eqb (check_fault fs ws) 0))
    where
      none : eqb (check_fault fs ws) 0 ≡ true → (check_reply fs ws).refusal ≡ check_fault fs ws
      none t = let e = eqb-true (check_fault fs ws) 0 t in ap (λ (a : Answer). a.refusal) (checked_reply e) ∙ no_refusal checked ∙ sym e

      some : eqb (check_fault fs ws) 0 ≡ false → (check_reply fs ws).refusal ≡ check_fault fs ws
      some t = ap (λ (a : Answer). a.refusal) (refused_reply (eqb-false (check_fault fs ws) 0 t))
