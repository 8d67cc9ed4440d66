-- The claims of specs/Claims.antt, each from its law. Assumes nothing.
use mathlib.Core.Path.{◌≡◌, refl, sym, ap, ◌∙◌}
use mathlib.Core.Bool.{Bool, true, false, cond}
use mathlib.Core.List.{List}
use Prim.Native.Nat.{ℕ, ◌+◌, ◌-◌, ◌<◌}
use lib.Dec.{eqb}
use Rattle.laws.specs.Sums.{part_sum}
use Rattle.laws.proofs.Tests.{same_test}
use Rattle.words_rules.specs.Words.{start, end, span}
use Rattle.words_rules.specs.Decoded.{bucket_at, bucketlet_start, width_at, number_at}
use Rattle.fit.specs.Accepted.{quality_of, total_good, accepted}
use Rattle.check_rules.specs.declared.Sort.TheVariants.{Bucketlet, Part}
use Rattle.check_rules.specs.declared.Failing.{Failing}
use Rattle.check_rules.specs.declared.Verdict.TheVariants.{Fails}
use Rattle.check_rules.specs.Reply.{Answer, sort_number, verdict_reply, failed_answer}
use Rattle.check_rules.specs.Checking.{total_verdict, bucket_verdict, check_reply}
use Rattle.check_rules.specs.Claims.{FirstRange, Reached, Checker}
use Rattle.check_rules.proofs.FirstLaws.{same_answer}
use Rattle.check_rules.proofs.RangeLaws.{bad_fails, not_accepted, first_range}
use Rattle.check_rules.proofs.CheckLaws.{good_bucketlet, total_decides, bucketlet_decides, bucket_decides, refused_reply, accepted_answers, answers_accepted, refusal}

-- a failure in the first bucket that is not good
decided : (fs ws : List ℕ) (b k : ℕ) (f : Failing) → Reached fs ws b k → bucket_verdict (quality_of ws) fs ws b ≡ Fails f → check_reply fs ws ≡ verdict_reply (Fails f)
decided fs ws b k f r e = bucket_decides fs ws b k r (λ p. not_accepted (sym e ∙ p)) ∙ ap verdict_reply e

sort_number_lem : (t : Bool) → sort_number (cond t Bucketlet Part) ≡ cond t 1 2
sort_number_lem true = refl
sort_number_lem false = refl

range : (fs ws : List ℕ) (b k i j : ℕ) → let r = bucket_at ws b in
    let a = bucketlet_start r k in
    let w = width_at r k in
    Reached fs ws b k → k < 8 → FirstRange (quality_of ws) fs a w (number_at r k) i j
    → check_reply fs ws ≡ failed_answer (cond (eqb (j - i) w) 1 2) (a + i) (a + j)
range fs ws b k i j p h f =
    let q = quality_of ws in
    let r = bucket_at ws b in
    let a = bucketlet_start r k in
    let w = width_at r k in
    let v = first_range q fs a w (number_at r k) i j f in
    decided fs ws b k _ p (bucketlet_decides q fs ws b k h (λ m l. good_bucketlet q fs r m (p.bucketlets_before m l)) (λ e. not_accepted (sym v ∙ e)) ∙ v)
    ∙ ap (λ (n : ℕ). failed_answer n (a + i) (a + j)) (sort_number_lem (eqb (j - i) w))

total : (fs ws : List ℕ) (b : ℕ) → Reached fs ws b 8
    → total_good (quality_of ws) (part_sum (start ws b) (span ws b) fs) (bucket_at ws b).total ≡ false
    → check_reply fs ws ≡ failed_answer 3 (start ws b) (end ws b)
unfolding total_verdict
total fs ws b p f = decided fs ws b 8 _ p (total_decides (quality_of ws) fs ws b (λ m l. good_bucketlet (quality_of ws) fs (bucket_at ws b) m (p.bucketlets_before m l)) ∙ bad_fails _ _ f)

pub checker : Checker
checker =
    record {
      only_then = λ fs ws e. answers_accepted fs ws (ap (λ (a : Answer). a.accepted) e);
      always_then = accepted_answers;
      exactly_then = λ fs ws. same_test (check_reply fs ws).accepted (accepted fs ws) (answers_accepted fs ws) (λ t. ap (λ (a : Answer). a.accepted) (accepted_answers fs ws t));
      refusal = refusal;
      refused = refused_reply;
      range = range;
      total = total;
      same_answer = same_answer;
    }
