-- The sharper last question (document 02, request vi): the factor that histograms of the builder keep on the lists that they came from;
-- proofs/Sharpness.antt proves it.
--
-- Why it is true. The class and the total code that the builder writes are those of the true counts, so a whole bucketlet and a whole bucket are
-- within 5/4 of theirs, and q is at least that. What else an estimate adds up are the pieces of the bucketlets that an end of the range cuts, at most
-- two, and each is within q of its count or excused by theta. If none is within q by itself, all but the excused pieces is whole: the count is at most
-- 5/4 times the sum and 2 theta. Otherwise at most one is excused: the count is at most q times the sum and one theta. The same holds of the sum and
-- the count exchanged. Above k theta the first makes 5/4 times k/(k - 2), the second q times k/(k - 1). Of 5/4 nothing is used but that the numbers
-- keep to it and that it is at most q, so it is claimed for any such factor p.
-- Assumes nothing.
use Rattle.std.specs.Prelude.{◌≡◌, true, cond, List, ◌⊎◌, ℕ, ◌-◌, ◌*◌, ◌≤◌, ◌<◌, leb, length}
use Rattle.laws.specs.Refusal.{refusal}
use Rattle.laws.specs.Sums.{part_sum}
use Rattle.counts_rules.specs.Limit.{limit}
use Rattle.counts_rules.specs.Form.{form}
use Rattle.counts_rules.specs.Class.{class_value}
use Rattle.counts_rules.specs.Total.{total_number}
use Rattle.counts_rules.specs.Claims.{total_value}
use Rattle.words_rules.specs.Words.{entries, theta, qn, qd, buckets, start, span}
use Rattle.words_rules.specs.Decoded.{bucket_at, bucketlet_start, width_at, number_at}
use Rattle.fit.specs.Accepted.{accepted}
use Rattle.build_rules.specs.Words.{words}
use Rattle.list_rules.specs.Quality.{quality, input_sentences}
use Rattle.accuracy.specs.Claims.{count, answer, Within, WholeRanges}

-- A factor is a fraction, a numerator and a denominator. Two are compared by cross products.

abbrev pub NoLarger : ℕ × ℕ → ℕ × ℕ → Type 0
NoLarger a b = a.0 * b.1 ≤ b.0 * a.1

abbrev pub Smaller : ℕ × ℕ → ℕ × ℕ → Type 0
Smaller a b = a.0 * b.1 < b.0 * a.1

abbrev pub larger : ℕ × ℕ → ℕ × ℕ → ℕ × ℕ
larger a b = cond (leb (b.0 * a.1) (a.0 * b.1)) a b

-- the factor of the general rule (Claims.antt)
abbrev pub general_factor : ℕ × ℕ → ℕ → ℕ × ℕ
general_factor q k = (q.0 * k, q.1 * (k - 2))

-- "the larger of 5k/(4(k - 2)) and qk/(k - 1)", with p for 5/4
abbrev pub sharp_factor : ℕ × ℕ → ℕ × ℕ → ℕ → ℕ × ℕ
sharp_factor p q k = larger (p.0 * k, p.1 * (k - 2)) (q.0 * k, q.1 * (k - 1))

-- what the numbers of classes and of totals both keep to: 5/4, the least q
abbrev pub numbers_factor : ℕ × ℕ
numbers_factor = (form.least_qn, form.least_qd)

-- each is at most p times the other
pub record WithinFactor (p : ℕ × ℕ) (count number : ℕ) : Type 0 where
  pub count_at_most : p.1 * count ≤ p.0 * number
  pub number_at_most : p.1 * number ≤ p.0 * count

-- numbers that stand for counts keep to p
abbrev pub Keep : ℕ × ℕ → (ℕ → ℕ) → Type 0
Keep p number = (v : ℕ) → v ≤ limit → WithinFactor p v (number v)

-- each whole bucketlet that is not empty, and each whole bucket, is within p of its count
pub record WholeWithin (p : ℕ × ℕ) (fs ws : List ℕ) : Type 0 where
  pub bucketlets : (b j : ℕ) → b < buckets ws → j < 8 → 0 < width_at (bucket_at ws b) j
      → WithinFactor p (part_sum (bucketlet_start (bucket_at ws b) j) (width_at (bucket_at ws b) j) fs) (number_at (bucket_at ws b) j)
  pub totals : (b : ℕ) → b < buckets ws → WithinFactor p (part_sum (start ws b) (span ws b) fs) (total_number (bucket_at ws b).total)

-- p is a factor from 1 to q
pub record UpTo (q p : ℕ × ℕ) : Type 0 where
  pub positive : 1 ≤ p.1
  pub least : p.1 ≤ p.0
  pub most : NoLarger p q

-- where the count or the answer is above k times theta, the sharper factor holds
abbrev pub SharperRule : ℕ × ℕ → ℕ → ℕ × ℕ → ℕ → ℕ → ℕ → Type 0
SharperRule p theta q k count answer =
    3 ≤ k → (k * theta < count) ⊎ (k * theta < answer) → Within (sharp_factor p q k).0 (sharp_factor p q k).1 1 count answer

-- of a list of d frequencies and a histogram with this theta and q
pub record Sharp (p : ℕ × ℕ) (fs ws : List ℕ) (d theta : ℕ) (q : ℕ × ℕ) : Type 0 where
  pub sharper : (x y k : ℕ) → x ≤ y → y ≤ d → SharperRule p theta q k (count fs x y) (answer ws x y)
  -- and where neither end cuts a bucketlet it is p
  pub whole : WholeRanges fs ws d p.0 p.1

pub record Sharpness : Type 0 where
  -- it is not smaller than either
  pub larger_of_two : (a b : ℕ × ℕ) → NoLarger a (larger a b) × NoLarger b (larger a b)
  -- the factor is no larger than that of the general rule, and smaller where p is smaller than q
  pub no_larger : (p q : ℕ × ℕ) (k : ℕ) → UpTo q p → 3 ≤ k → NoLarger (sharp_factor p q k) (general_factor q k)
  pub smaller : (p q : ℕ × ℕ) (k : ℕ) → UpTo q p → 1 ≤ q.1 → Smaller p q → 3 ≤ k → Smaller (sharp_factor p q k) (general_factor q k)
  -- a histogram that is accepted for a list, and whose whole bucketlets and buckets keep to a p up to q
  pub of_accepted : (p : ℕ × ℕ) (fs ws : List ℕ) → accepted fs ws ≡ true → UpTo (qn ws, qd ws) p → WholeWithin p fs ws
      → Sharp p fs ws (entries ws) (theta ws) (qn ws, qd ws)
  -- what the builder writes keeps to any p that the numbers of classes and of totals both keep to
  pub keep_whole : (p : ℕ × ℕ) → Keep p class_value → Keep p total_value
      → (fs : List ℕ) (theta qn qd : ℕ) → refusal (input_sentences fs theta qn qd) ≡ 0 → WholeWithin p fs (words (quality theta qn qd) fs)
  -- so the rule holds of it for any such p up to q
  pub of_numbers : (p : ℕ × ℕ) → Keep p class_value → Keep p total_value
      → (fs : List ℕ) (theta qn qd : ℕ) → refusal (input_sentences fs theta qn qd) ≡ 0 → UpTo (qn, qd) p
      → Sharp p fs (words (quality theta qn qd) fs) (length fs) theta (qn, qd)
  -- that is 5/4: "a whole bucketlet and a whole bucket are within 5/4"
  pub classes_keep : Keep numbers_factor class_value
  pub totals_keep : Keep numbers_factor total_value
  pub whole_within : (fs : List ℕ) (theta qn qd : ℕ) → refusal (input_sentences fs theta qn qd) ≡ 0 → WholeWithin numbers_factor fs (words (quality theta qn qd) fs)
  -- and "the factor they deserve"
  pub of_built : (fs : List ℕ) (theta qn qd : ℕ) → refusal (input_sentences fs theta qn qd) ≡ 0
      → Sharp numbers_factor fs (words (quality theta qn qd) fs) (length fs) theta (qn, qd)
