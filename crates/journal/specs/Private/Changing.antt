-- What the steps of a replay come to: one count changed, one line, all lines, and the list changed afterwards.
-- Assumes nothing.
use Rattle.std.specs.Prelude.{◌≡◌, false, cond, List, ℕ, ◌≤◌, ◌<◌, leb, ℤ, pos, negsuc, ◌+ℤ◌, length, get_or, Option, None, Some}
use Rattle.laws.specs.Sums.{sum}
use Rattle.counts_rules.specs.Limit.{limit}
use Rattle.journal_rules.specs.Lines.{signed, unsigned, entry_at, after_line}
use Rattle.journal_rules.specs.Replaying.{outside_fault, breaks, bound_fault, after_all}

-- a whole number as a count, if it is one from 0 up to the limit
abbrev pub count_of : ℤ → Option ℕ
count_of (pos n) = cond (leb n limit) (Some n) None
count_of (negsuc n) = None

abbrev pub changed_by : ℕ → ℤ → Option ℕ
changed_by count change = count_of (pos count +ℤ change)

-- the list after one line
abbrev pub line_of : List ℕ → ℕ → ℤ → List ℕ
line_of fs e c = unsigned (after_line (signed fs) e c)

unfoldable pub line_changed : List ℕ → ℕ → ℤ → Option ℕ
line_changed fs e c = cond (breaks (after_line (signed fs) e c)) None (Some (sum (line_of fs e c)))

-- a line that breaks a bound leaves the list as it was
unfoldable pub line_left : List ℕ → ℕ → ℤ → List ℕ
line_left fs e c = cond (breaks (after_line (signed fs) e c)) fs (line_of fs e c)

-- what may be replayed
pub record Replayable (fs es : List ℕ) (cs : List ℤ) : Type 0 where
  pub paired : length es ≡ length cs
  pub inside : outside_fault fs es ≡ false

unfoldable pub lines_changed : List ℕ → List ℕ → List ℤ → Option ℕ
lines_changed fs es cs = cond (bound_fault fs es cs) None (Some (sum (after_all fs es cs)))

-- the list afterwards, unless a line broke a bound
pub record LinesLeft (fs es : List ℕ) (cs : List ℤ) (left : List ℕ) : Type 0 where
  pub unbroken : bound_fault fs es cs ≡ false → left ≡ after_all fs es cs

-- two lists of one length that hold the same but for the entries of the lines from i on
pub record ElseSame (copy es fs : List ℕ) (i : ℕ) : Type 0 where
  pub within : i ≤ length es
  pub same_length : length fs ≡ length copy
  pub inside : outside_fault copy es ≡ false
  pub same : (e : ℕ) → ((j : ℕ) → i ≤ j → j < length es → entry_at es j ≡ e → ⊥) → get_or fs e 0 ≡ get_or copy e 0
