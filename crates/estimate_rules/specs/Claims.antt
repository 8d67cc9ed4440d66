-- What is claimed of estimates, of running totals, of worksheets and of searches; proofs/Proved.antt proves it.
-- Assumes nothing.
use Rattle.std.specs.Prelude.{◌≡◌, false, List, [], ◌∷◌, ℕ, ◌+◌, ◌-◌, ◌*◌, ◌^◌, ◌≤◌, ◌<◌, length, take}
use Rattle.laws.specs.Reply.{answered}
use Rattle.words_rules.specs.Limits.{max_width}
use Rattle.words_rules.specs.Words.{word, entries, buckets}
use Rattle.words_rules.specs.Reading.{Readable}
use Rattle.words_rules.specs.Finding.{bucket_of}
use Rattle.estimate_rules.specs.declared.Fraction.{Fraction}
use Rattle.estimate_rules.specs.Fraction.{number, plus, numerator, rounded}
use Rattle.estimate_rules.specs.Exact.{bucket_piece, exact}
use Rattle.estimate_rules.specs.Asking.{estimate, estimate_reply}
use Rattle.estimate_rules.specs.Ranges.{range_count, x_at, y_at, sum_over}
use Rattle.estimate_rules.specs.Running.{totals_from, running_total, total_places, totals_filled}
use Rattle.estimate_rules.specs.Worksheet.{totals_fault, worksheet_fault, worksheet_reply, worksheet_answered}
use Rattle.estimate_rules.specs.Search.{max_ranges, search_fault, search_reply}

-- the numbers of the sum, and so the answer, are far below 2^64, as the whole parts stay outside the common denominator
pub record Sizes (ws : List ℕ) (x y : ℕ) : Type 0 where
  pub whole_small : (exact ws x y).whole ≤ entries ws * 2 ^ 31
  -- at most two cuts
  pub bottom_some : 0 < (exact ws x y).bottom
  pub bottom_small : (exact ws x y).bottom ≤ max_width ^ 2
  pub top_small : (exact ws x y).top ≤ 2 * 2 ^ 31 * (exact ws x y).bottom
  pub answer_small : estimate ws x y < 2 ^ 48

-- n is the least whole number that is not below e
pub record RoundedUp (e : Fraction) (n : ℕ) : Type 0 where
  pub not_below : numerator e ≤ n * e.bottom
  pub least : (m : ℕ) → numerator e ≤ m * e.bottom → n ≤ m

pub record Estimates : Type 0 where
  -- rounding a fraction up
  pub rounded_up : (e : Fraction) → 0 < e.bottom → RoundedUp e (rounded e)
  -- the estimate is the one sum, "rounded up once", where that is above 0
  pub sum_rounded_up : (ws : List ℕ) → Readable ws → (x y : ℕ) → 0 < numerator (exact ws x y) → RoundedUp (exact ws x y) (estimate ws x y)
  -- "the answer for a range that isn't empty is never 0: where its sum is 0 the estimate is 1"
  pub never_0 : (ws : List ℕ) (x y : ℕ) → x < y → 1 ≤ estimate ws x y
  pub sum_of_0 : (ws : List ℕ) → Readable ws → (x y : ℕ) → x < y → numerator (exact ws x y) ≡ 0 → estimate ws x y ≡ 1
  pub sizes : (ws : List ℕ) → Readable ws → (x y : ℕ) → Sizes ws x y
  -- the empty range gives 0, wherever it lies
  pub empty : (ws : List ℕ) → Readable ws → (x : ℕ) → x ≤ entries ws → estimate_reply ws x x ≡ answered 0

pub record RunningTotals : Type 0 where
  -- the sum of the totals of buckets a to b, without b, is what the running total at b is above that at a
  pub joined : (ws : List ℕ) (a n : ℕ) → running_total ws (a + n) ≡ running_total ws a + totals_from ws a n
  pub difference : (ws : List ℕ) (a b : ℕ) → a ≤ b → totals_from ws a (b - a) ≡ running_total ws b - running_total ws a
  -- far below 2^64
  pub small : (ws : List ℕ) → Readable ws → (i : ℕ) → i ≤ buckets ws → running_total ws i < 2 ^ 48
  -- what is filled in is not refused with 20
  pub filled_fits : (ws : List ℕ) → Readable ws → (old : List ℕ) → total_places ws ≤ length old → totals_fault ws (totals_filled ws old) ≡ false
  -- places past those needed are as they were, and there are as many
  pub filled_past : (ws old : List ℕ) (i : ℕ) → total_places ws ≤ i → word (totals_filled ws old) i ≡ word old i
  pub filled_length : (ws old : List ℕ) → length (totals_filled ws old) ≡ length old

-- the sum of a range from x to y, by the buckets of its first and its last entry
pub record ByTotals (ws : List ℕ) (x y : ℕ) : Type 0 where
  pub in_order : bucket_of ws x ≤ bucket_of ws (y - 1)
  pub within_one : bucket_of ws x ≡ bucket_of ws (y - 1) → exact ws x y ≡ bucket_piece ws x y (bucket_of ws x)
  pub over_several : bucket_of ws x < bucket_of ws (y - 1)
      → exact ws x y ≡ plus (plus (bucket_piece ws x y (bucket_of ws x)) (number (running_total ws (bucket_of ws (y - 1)) - running_total ws (bucket_of ws x + 1)))) (bucket_piece ws x y (bucket_of ws (y - 1)))

pub record Worksheets : Type 0 where
  pub by_totals : (ws : List ℕ) → Readable ws → (x y : ℕ) → x < y → y ≤ entries ws → ByTotals ws x y
  -- each answer is that of the single call
  pub each_single : (ws totals sheet old : List ℕ) → worksheet_fault ws totals sheet (length old) ≡ 0 → (i : ℕ) → i < range_count sheet
      → estimate_reply ws (x_at sheet i) (y_at sheet i) ≡ answered (word (worksheet_answered ws totals sheet old) i)
  -- places past those needed: of the running totals none is read, of the answers none is written, and there are as many
  pub totals_past : (ws totals sheet : List ℕ) (lent : ℕ) → worksheet_reply ws (take (total_places ws) totals) sheet lent ≡ worksheet_reply ws totals sheet lent
  pub totals_past_answers : (ws totals sheet old : List ℕ) → worksheet_answered ws (take (total_places ws) totals) sheet old ≡ worksheet_answered ws totals sheet old
  pub answers_past : (ws totals sheet old : List ℕ) (i : ℕ) → range_count sheet ≤ i → word (worksheet_answered ws totals sheet old) i ≡ word old i
  pub answers_length : (ws totals sheet old : List ℕ) → length (worksheet_answered ws totals sheet old) ≡ length old
  -- the empty sheet
  pub empty : (ws totals : List ℕ) → Readable ws → total_places ws ≤ length totals → totals_fault ws totals ≡ false → (lent : ℕ) → worksheet_reply ws totals [] lent ≡ answered 0

-- of a search that is answered
pub record Searched (ws ranges : List ℕ) : Type 0 where
  pub some_ranges : 1 ≤ range_count ranges
  pub most_ranges : range_count ranges ≤ max_ranges
  -- each range is one that the single call answers, and the sum is that of its answers
  pub each_answered : (i : ℕ) → i < range_count ranges → (estimate_reply ws (x_at ranges i) (y_at ranges i)).refusal ≡ 0
  pub sum_of_singles : search_reply ws ranges ≡ answered (sum_over ranges (λ x y. (estimate_reply ws x y).value))
  -- no entry is in two ranges: none starts before one ahead of it ends
  pub apart : (i j : ℕ) → i < j → j < range_count ranges → y_at ranges i ≤ x_at ranges j

pub record Searches : Type 0 where
  pub searched : (ws ranges : List ℕ) → search_fault ws ranges ≡ 0 → Searched ws ranges
  -- of one range it is the single call
  pub single : (ws : List ℕ) (x y : ℕ) → search_reply ws (x ∷ y ∷ []) ≡ estimate_reply ws x y
  -- far below 2^64
  pub small : (ws ranges : List ℕ) → (search_reply ws ranges).value ≤ 2 ^ 52
