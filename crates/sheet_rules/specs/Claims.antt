-- What is claimed of the exam sheet; proofs/Proved.antt proves it.
-- Assumes nothing.
use Rattle.std.specs.Prelude.{◌≡◌, true, List, [], ◌∷◌, ◌++◌, ℕ, ◌+◌, ◌-◌, ◌^◌, ◌≤◌, ◌<◌, ltb, length, get_or, take, drop}
use Rattle.list_rules.specs.Quality.{quality}
use Rattle.build_rules.specs.Words.{words}
use Rattle.sheet_rules.specs.Limits.{least_numbers, most_numbers, max_input, max_sheet}
use Rattle.sheet_rules.specs.Text.{places, decimal}
use Rattle.sheet_rules.specs.Input.{line_feed, every, as_described, numbers, fault_line}
use Rattle.sheet_rules.specs.Lines.{refused_line}
use Rattle.sheet_rules.specs.Sheet.{histogram_sheet, sheet_fault, sheet, filled}

-- numbers, one a line
unfoldable pub as_lines : List ℕ → List ℕ
as_lines [] = []
as_lines (n ∷ ns) = decimal n ++ (line_feed ∷ []) ++ as_lines ns

-- n has k digits: at least one, and as few as hold it
pub record DigitCount (n k : ℕ) : Type 0 where
  pub some : 1 ≤ k
  pub holds : n < 10 ^ k
  pub fewest : 1 < k → 10 ^ (k - 1) ≤ n

pub record Exam : Type 0 where
  -- a number is written with as many digits as it needs
  pub digit_count : (n : ℕ) → DigitCount n (places n)
  -- an input is as described exactly if it is that many numbers, below 2^32, one a line; these are its numbers
  pub read : (ns : List ℕ) → every (λ n. ltb n (2 ^ 32)) ns ≡ true → least_numbers ≤ length ns → length ns ≤ most_numbers
      → (as_described (as_lines ns) ≡ true) × (numbers (as_lines ns) ≡ ns)
  pub written : (input : List ℕ) → as_described input ≡ true → as_lines (numbers input) ≡ input
  -- a refused input has the line of its number alone, and any other the sheet of its histogram
  pub refused : (input : List ℕ) → (sheet_fault input ≡ 0 → ⊥) → sheet input ≡ refused_line (sheet_fault input)
  pub printed : (input : List ℕ) → sheet_fault input ≡ 0 → let ns = numbers input in
      sheet input ≡ histogram_sheet (words (quality (get_or ns 0 0) (get_or ns 1 0) (get_or ns 2 0)) (drop 3 ns))
  -- a longer input is refused with 18 whatever follows, so that reading may stop after one byte more
  pub long : (input : List ℕ) → max_input < length input → sheet input ≡ refused_line 18
  pub cut : (input : List ℕ) → sheet (take (max_input + 1) input) ≡ sheet input
  pub cut_fault : (input : List ℕ) → sheet_fault (take (max_input + 1) input) ≡ sheet_fault input
  pub cut_line : (input : List ℕ) → fault_line (take (max_input + 1) input) ≡ fault_line input
  -- what is printed has an end
  pub short : (input : List ℕ) → length (sheet input) ≤ max_sheet
  -- so where that many bytes are lent, they begin with all of it
  pub whole : (input old : List ℕ) → max_sheet ≤ length old → filled old (sheet input) ≡ sheet input ++ drop (length (sheet input)) old
