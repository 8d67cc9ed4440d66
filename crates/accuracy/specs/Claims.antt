-- How far the estimate of a range, or the sum of those of several, is from the true count, for every histogram that is accepted for its list
-- (demand 3, request ii and what follows from them); proofs/Proved.antt proves it.
--
-- Why it is true. The estimate is a sum of pieces, one for each bucket or bucketlet that the range meets. All but at most two are those of a
-- whole bucket or bucketlet, each of which is within the factor q of its own count, and such pieces together are again within q. The other
-- two are those of the bucketlets that an end of the range cuts, and a cut fits: it is within q too, or its count and its piece are both at
-- most theta. Rounding up adds less than one, and only where there is a cut. So a cut adds at most theta to what is within q, be it for its
-- own sake or for the rounding: the count is at most q times the answer and 2 theta, and the answer at most q times the count and 2 theta
-- (claim but_for_2_theta; an answer of 1 for a sum of 0 is below 2 theta). Of r ranges the sums are so with 2r theta. Where k theta is below
-- the count or the answer, 2r theta is below 2r/k of it: hence q times k/(k - 2r). Whether the ranges lie apart plays no part in it.
-- Assumes nothing.
use Rattle.std.specs.Prelude.{◌≡◌, true, List, ◌⊎◌, ℕ, ◌+◌, ◌-◌, ◌*◌, ◌≤◌, ◌<◌, length}
use Rattle.laws.specs.Refusal.{refusal}
use Rattle.laws.specs.Sums.{part_sum}
use Rattle.words_rules.specs.Words.{entries, theta, qn, qd, buckets}
use Rattle.words_rules.specs.Decoded.{bucket_at, bucketlet_start, bucketlet_end}
use Rattle.fit.specs.Accepted.{accepted}
use Rattle.build_rules.specs.Words.{words}
use Rattle.list_rules.specs.Quality.{quality, input_sentences}
use Rattle.estimate_rules.specs.Fraction.{numerator}
use Rattle.estimate_rules.specs.Exact.{exact}
use Rattle.estimate_rules.specs.Asking.{estimate_reply}
use Rattle.estimate_rules.specs.Ranges.{range_count, x_at, y_at, sum_over}
use Rattle.estimate_rules.specs.Search.{search_reply}

-- the true count of the range from x to y
abbrev pub count : List ℕ → ℕ → ℕ → ℕ
count fs x y = part_sum x (y - x) fs

-- what the estimator answers
abbrev pub answer : List ℕ → ℕ → ℕ → ℕ
answer ws x y = (estimate_reply ws x y).value

-- of ranges that are lent as a list, two words a range, both together; a search is answered so (`sum_of_singles` of estimate_rules)

abbrev pub count_of : List ℕ → List ℕ → ℕ
count_of fs ranges = sum_over ranges (count fs)

abbrev pub answer_of : List ℕ → List ℕ → ℕ
answer_of ws ranges = sum_over ranges (answer ws)

-- each of them lies within a list of d entries
abbrev pub InList : ℕ → List ℕ → Type 0
InList d ranges = (i : ℕ) → i < range_count ranges → (x_at ranges i ≤ y_at ranges i) × (y_at ranges i ≤ d)

-- the count is at most n/d times the answer, and the answer less a number is below n/d times the count
pub record Within (n d less count answer : ℕ) : Type 0 where
  pub count_within : d * count ≤ n * answer
  pub answer_within : d * (answer - less) < n * count

-- each is below n/d times the other
pub record Below (n d count answer : ℕ) : Type 0 where
  pub count_below : d * count < n * answer
  pub answer_below : d * answer < n * count

-- The rules of the last question, for a theta and a q
module _ (theta qn qd : ℕ) where
  -- of one range, whatever its size: each is at most q times the other and 2 theta
  abbrev pub Distance : ℕ → ℕ → Type 0
  Distance count answer = (qd * count ≤ qn * answer + qd * (2 * theta)) × (qd * answer ≤ qn * count + qd * (2 * theta))

  -- of r ranges (request ii): where their count is above k times theta, or their answer above that and r - 1, the factor is q times k/(k - 2r)
  abbrev pub Rule : ℕ → ℕ → ℕ → ℕ → Type 0
  Rule r k count answer =
      2 * r < k → (k * theta < count) ⊎ (k * theta + (r - 1) < answer) → Within (qn * k) (qd * (k - 2 * r)) r count answer

  -- and nothing need be taken off
  abbrev pub ShorterRule : ℕ → ℕ → ℕ → ℕ → Type 0
  ShorterRule r k count answer =
      2 * r < k → (k * theta < count) ⊎ (k * theta < answer) → Below (qn * k) (qd * (k - 2 * r)) count answer

-- of a list of d frequencies and a histogram
module _ (fs ws : List ℕ) (d theta qn qd : ℕ) where
  -- demand 3: where the count or the answer is above k times theta, the factor is q times k/(k - 2)
  abbrev pub OneRange : Type 0
  OneRange =
      (x y k : ℕ) → x ≤ y → y ≤ d → 3 ≤ k
      → (k * theta < count fs x y) ⊎ (k * theta < answer ws x y)
      → Within (qn * k) (qd * (k - 2)) 1 (count fs x y) (answer ws x y)

  abbrev pub OneRangeShorter : Type 0
  OneRangeShorter = (x y k : ℕ) → x ≤ y → y ≤ d → ShorterRule theta qn qd 1 k (count fs x y) (answer ws x y)

  -- of any list of ranges, in any order

  abbrev pub SeveralRanges : Type 0
  SeveralRanges = (ranges : List ℕ) (k : ℕ) → InList d ranges → Rule theta qn qd (range_count ranges) k (count_of fs ranges) (answer_of ws ranges)

  abbrev pub SeveralRangesShorter : Type 0
  SeveralRangesShorter = (ranges : List ℕ) (k : ℕ) → InList d ranges → ShorterRule theta qn qd (range_count ranges) k (count_of fs ranges) (answer_of ws ranges)

-- no bucketlet starts before the place and ends after it
abbrev pub CutsNone : List ℕ → ℕ → Type 0
CutsNone ws x = (b j : ℕ) → b < buckets ws → j < 8 → bucketlet_start (bucket_at ws b) j < x → bucketlet_end (bucket_at ws b) j ≤ x

-- where neither end of a range cuts a bucketlet, each is at most n/d times the other, whatever theta is, and nothing is rounded; but a count of 0 may
-- be answered with 1
abbrev pub WholeRanges : List ℕ → List ℕ → ℕ → ℕ → ℕ → Type 0
WholeRanges fs ws entries n d =
    (x y : ℕ) → x ≤ y → y ≤ entries → CutsNone ws x → CutsNone ws y
    → (d * count fs x y ≤ n * answer ws x y) × ((d * answer ws x y ≤ n * count fs x y) ⊎ ((count fs x y ≡ 0) × (answer ws x y ≡ 1)))

-- of a list of d frequencies and a histogram with this theta and q
pub record Accurate (fs ws : List ℕ) (d theta qn qd : ℕ) : Type 0 where
  -- a range within the list is answered
  pub answered : (x y : ℕ) → x ≤ y → y ≤ d → (estimate_reply ws x y).refusal ≡ 0
  -- where the sum is 0, so that the range is empty or answered with 1, the count is 0
  pub none_left : (x y : ℕ) → x ≤ y → y ≤ d → numerator (exact ws x y) ≡ 0 → count fs x y ≡ 0
  pub but_for_2_theta : (x y : ℕ) → x ≤ y → y ≤ d → Distance theta qn qd (count fs x y) (answer ws x y)
  -- the rules of the last question
  pub accurate : OneRange fs ws d theta qn qd
  pub shorter : OneRangeShorter fs ws d theta qn qd
  pub several : SeveralRanges fs ws d theta qn qd
  pub several_shorter : SeveralRangesShorter fs ws d theta qn qd
  -- and of what a search is answered with
  pub searched : (ranges : List ℕ) (k : ℕ) → (search_reply ws ranges).refusal ≡ 0
      → Rule theta qn qd (range_count ranges) k (count_of fs ranges) (search_reply ws ranges).value
  pub searched_shorter : (ranges : List ℕ) (k : ℕ) → (search_reply ws ranges).refusal ≡ 0
      → ShorterRule theta qn qd (range_count ranges) k (count_of fs ranges) (search_reply ws ranges).value
  -- inside one bucketlet, above theta, it is q itself
  pub one_bucketlet : (b j x y : ℕ) → b < buckets ws → j < 8 → bucketlet_start (bucket_at ws b) j ≤ x → x ≤ y → y ≤ bucketlet_end (bucket_at ws b) j
      → (theta < count fs x y) ⊎ (theta < answer ws x y)
      → Within qn qd 1 (count fs x y) (answer ws x y)
  -- and so it is where neither end cuts a bucketlet
  pub whole : WholeRanges fs ws d qn qd

-- what follows from what: request ii's form from the shorter one, and the rules of one range as the case of r = 1
pub record Follows (fs ws : List ℕ) (d theta qn qd : ℕ) : Type 0 where
  pub as_asked : SeveralRangesShorter fs ws d theta qn qd → SeveralRanges fs ws d theta qn qd
  pub one : SeveralRanges fs ws d theta qn qd → OneRange fs ws d theta qn qd
  pub one_shorter : SeveralRangesShorter fs ws d theta qn qd → OneRangeShorter fs ws d theta qn qd

pub record Accuracy : Type 0 where
  pub follows : (fs ws : List ℕ) (d theta qn qd : ℕ) → Follows fs ws d theta qn qd
  -- a histogram that is accepted for a list, with its own theta and q
  pub of_accepted : (fs ws : List ℕ) → accepted fs ws ≡ true → Accurate fs ws (entries ws) (theta ws) (qn ws) (qd ws)
  -- what the builder writes, with the theta and q that it is given: it is accepted for its list
  pub of_built : (fs : List ℕ) (theta qn qd : ℕ) → refusal (input_sentences fs theta qn qd) ≡ 0
      → Accurate fs (words (quality theta qn qd) fs) (length fs) theta qn qd
