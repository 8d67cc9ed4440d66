-- The words of the private contracts of the checker: what keeps its products within 64 bits, where the search of a bucketlet begins, and what a
-- histogram without a fault gives.
-- Assumes nothing.
use Rattle.std.specs.Prelude.{◌≡◌, Bool, true, false, not, List, ℕ, ◌+◌, ◌-◌, ◌*◌, ◌^◌, ◌≤◌, ◌<◌, length, Result, Ok, Err}
use Rattle.laws.specs.Sums.{part_sum}
use Rattle.counts_rules.specs.Limit.{limit}
use Rattle.counts_rules.specs.Form.{used_class}
use Rattle.counts_rules.specs.Total.{valid_code}
use Rattle.list_rules.specs.Limits.{max_theta, max_q_part}
use Rattle.words_rules.specs.Limits.{max_width}
use Rattle.list_rules.specs.declared.Quality.{Quality}
use Rattle.fit.specs.Fit.{fits}
use Rattle.fit.specs.Accepted.{check_fault}
use Rattle.check_rules.specs.declared.Failing.{Failing}
use Rattle.check_rules.specs.declared.Verdict.{Verdict}
use Rattle.check_rules.specs.declared.Verdict.TheVariants.{Accepted, Fails}
use Rattle.check_rules.specs.Failing.{range_good}
use Rattle.list_rules.specs.Private.Sound.{Sound}

-- a count and an estimate x / w whose products are small
pub record Comparable (q : Quality) (f x w : ℕ) : Type 0 where
  pub theta_small : q.theta ≤ max_theta
  pub qn_small : q.qn ≤ max_q_part
  pub qd_small : q.qd ≤ max_q_part
  pub count_small : f ≤ limit
  pub estimate_small : x ≤ max_width * 2 ^ 31
  pub narrow : w ≤ max_width

-- a bucketlet inside the list
pub record Searchable (fs : List ℕ) (q : Quality) (a w s : ℕ) : Type 0 where
  pub sound : Sound fs q
  pub inside : a + w ≤ length fs
  pub narrow : w ≤ max_width
  pub number_small : s < 2 ^ 31

-- a range of it from i to j that does not fit, or is not good
abbrev pub unfit : Quality → List ℕ → ℕ → ℕ → ℕ → ℕ → ℕ → Bool
unfit q fs a w s i j = not (fits q (part_sum (a + i) (j - i) fs) ((j - i) * s) w)

abbrev pub fails : Quality → List ℕ → ℕ → ℕ → ℕ → ℕ → ℕ → Bool
fails q fs a w s i j = not (range_good q fs a w s i j)

-- an end of a bad range from i
pub record BadEnd (w : ℕ) (bad : ℕ → ℕ → Bool) (i : ℕ) : Type 0 where
  pub end : ℕ
  pub after : i < end
  pub inside : end ≤ w
  pub is_bad : bad i end ≡ true

-- i is the first start of a bad range of those from `from` on, or w if there is none
pub record FirstStart (w : ℕ) (bad : ℕ → ℕ → Bool) (from i : ℕ) : Type 0 where
  pub within : i ≤ w
  pub earlier : (x y : ℕ) → from ≤ x → x < i → x < y → y ≤ w → bad x y ≡ false
  pub ended : i < w → BadEnd w bad i

-- a bucketlet inside the list, with its class in the number's place
pub record Classed (fs : List ℕ) (a w class : ℕ) : Type 0 where
  pub inside : a + w ≤ length fs
  pub narrow : w ≤ max_width
  pub used : used_class class ≡ true

-- a bucket's span inside the list, and its total
pub record Totalled (fs : List ℕ) (start end code : ℕ) : Type 0 where
  pub ordered : start ≤ end
  pub inside : end ≤ length fs
  pub valid : valid_code code ≡ true

-- a histogram that has no fault for the list
pub record Checkable (fs ws : List ℕ) (q : Quality) : Type 0 where
  pub no_fault : check_fault fs ws ≡ 0
  pub sound : Sound fs q

-- what the checks inside the checker answer
abbrev pub verdict_of : Result Unit Failing → Verdict
verdict_of (Ok _) = Accepted
verdict_of (Err f) = Fails f
