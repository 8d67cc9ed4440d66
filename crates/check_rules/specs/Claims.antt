-- What is claimed of the checker's answer (document 01, "What fits", "Asking" and "When a call is turned away"); proofs/Proved.antt proves it.
-- Assumes nothing.
use Rattle.std.specs.Prelude.{◌≡◌, true, false, cond, List, ℕ, ◌+◌, ◌-◌, ◌≤◌, ◌<◌, eqb, Result}
use Rattle.laws.specs.Sums.{part_sum}
use Rattle.words_rules.specs.Words.{buckets, start, end, span}
use Rattle.words_rules.specs.Decoded.{bucket_at, bucketlet_start, width_at, number_at}
use Rattle.list_rules.specs.declared.Quality.{Quality}
use Rattle.refusals.specs.declared.Refusal.{Refusal}
use Rattle.fit.specs.Accepted.{check_fault, quality_of, bucketlet_good, total_good, bucket_good, accepted}
use Rattle.check_rules.specs.declared.Verdict.{Verdict}
use Rattle.check_rules.specs.Reply.{refused_answer, accepted_answer, failed_answer, answer_of}
use Rattle.check_rules.specs.Failing.{range_good}
use Rattle.check_rules.specs.Checking.{check_reply}

-- the range from i to j is the first, by start and then by end, that fails inside a bucketlet
pub record FirstRange (q : Quality) (fs : List ℕ) (a w s i j : ℕ) : Type 0 where
  pub some : i < j
  pub inside : j ≤ w
  pub fails : range_good q fs a w s i j ≡ false
  pub earlier_start : (x y : ℕ) → x < i → x < y → y ≤ w → range_good q fs a w s x y ≡ true
  pub earlier_end : (y : ℕ) → i < y → y < j → range_good q fs a w s i y ≡ true

-- nothing is refused, and nothing fails before bucketlet k of bucket b, or before its total if k is 8
pub record Reached (fs ws : List ℕ) (b k : ℕ) : Type 0 where
  pub no_fault : check_fault fs ws ≡ 0
  pub is_bucket : b < buckets ws
  pub buckets_before : (m : ℕ) → m < b → bucket_good (quality_of ws) fs ws m ≡ true
  pub bucketlets_before : (m : ℕ) → m < k → bucketlet_good (quality_of ws) fs (bucket_at ws b) m ≡ true

pub record Checker : Type 0 where
  -- it answers accepted only if the histogram is accepted for the list, and always then
  pub only_then : (fs ws : List ℕ) → check_reply fs ws ≡ accepted_answer → accepted fs ws ≡ true
  pub always_then : (fs ws : List ℕ) → accepted fs ws ≡ true → check_reply fs ws ≡ accepted_answer
  pub exactly_then : (fs ws : List ℕ) → (check_reply fs ws).accepted ≡ accepted fs ws
  -- it refuses with the number of the first sentence that is true, and never else
  pub refusal : (fs ws : List ℕ) → (check_reply fs ws).refusal ≡ check_fault fs ws
  pub refused : (fs ws : List ℕ) → (check_fault fs ws ≡ 0 → ⊥) → check_reply fs ws ≡ refused_answer (check_fault fs ws)
  -- else it answers what fails first
  pub range : (fs ws : List ℕ) (b k i j : ℕ) → let r = bucket_at ws b in
      let a = bucketlet_start r k in
      let w = width_at r k in
      Reached fs ws b k → k < 8 → FirstRange (quality_of ws) fs a w (number_at r k) i j
      → check_reply fs ws ≡ failed_answer (cond (eqb (j - i) w) 1 2) (a + i) (a + j)
  pub total : (fs ws : List ℕ) (b : ℕ) → Reached fs ws b 8
      → total_good (quality_of ws) (part_sum (start ws b) (span ws b) fs) (bucket_at ws b).total ≡ false
      → check_reply fs ws ≡ failed_answer 3 (start ws b) (end ws b)
  -- no two answers have the same number and values
  pub same_answer : (r s : Result Verdict Refusal) → answer_of r ≡ answer_of s → r ≡ s
