-- What is claimed of replaying a journal; proofs/Proved.antt proves it.
-- Assumes nothing.
use Rattle.std.specs.Prelude.{◌≡◌, true, false, List, [], ℕ, ◌≤◌, ◌<◌, ℤ, pos, nat_abs, ◌+ℤ◌, length, get_or, take, ◌≤ℤ◌}
use Rattle.laws.specs.Reply.{answered, refused}
use Rattle.laws.specs.Sums.{sum}
use Rattle.counts_rules.specs.Limit.{limit}
use Rattle.list_rules.specs.Frequencies.{list_fault}
use Rattle.journal_rules.specs.Lines.{sumℤ, entry_at, change_at, changes_of}
use Rattle.journal_rules.specs.Replaying.{max_lines, lines_fault, outside_fault, replay_fault, replayed, replay_reply}

-- of a journal that is not refused
pub record Afterwards (fs es : List ℕ) (cs : List ℤ) : Type 0 where
  -- "each frequency is its old one plus the sum of its entry's changes"
  pub each_moved : (e : ℕ) → e < length fs → pos (get_or (replayed fs es cs) e 0) ≡ pos (get_or fs e 0) +ℤ changes_of es cs e (length cs)
  -- "the list's sum has moved by the sum of all"
  pub sum_moved : pos (sum (replayed fs es cs)) ≡ pos (sum fs) +ℤ sumℤ cs
  pub same_length : length (replayed fs es cs) ≡ length fs
  -- it is a list that 1 and 3 do not refuse
  pub sound : list_fault (replayed fs es cs) ≡ 0
  pub sum_answered : replay_reply fs es cs ≡ answered (sum (replayed fs es cs))
  -- no change is larger than the limit, up or down
  pub small_changes : (i : ℕ) → i < length cs → nat_abs (change_at cs i) ≤ limit

-- both bounds after each number of lines, by sums of the changes so far
pub record WithinBounds (fs es : List ℕ) (cs : List ℤ) : Type 0 where
  pub frequencies : (n : ℕ) → n ≤ length cs → (e : ℕ) → e < length fs → pos 0 ≤ℤ (pos (get_or fs e 0) +ℤ changes_of es cs e n)
  pub sums : (n : ℕ) → n ≤ length cs → (pos (sum fs) +ℤ sumℤ (take n cs)) ≤ℤ pos limit

pub record Journals : Type 0 where
  pub replays : (fs es : List ℕ) (cs : List ℤ) → replay_fault fs es cs ≡ 0 → Afterwards fs es cs
  -- refused, the list is as it was; and an entry of no line keeps its frequency in any case
  pub unchanged : (fs es : List ℕ) (cs : List ℤ) → (replay_fault fs es cs ≡ 0 → ⊥) → replayed fs es cs ≡ fs
  pub others_kept : (fs es : List ℕ) (cs : List ℤ) (e : ℕ) → ((i : ℕ) → i < length cs → entry_at es i ≡ e → ⊥) → get_or (replayed fs es cs) e 0 ≡ get_or fs e 0
  -- no lines are a journal, and change nothing
  pub no_lines : (fs : List ℕ) → list_fault fs ≡ 0 → replay_reply fs [] [] ≡ answered (sum fs)
  pub no_lines_list : (fs : List ℕ) → replayed fs [] [] ≡ fs
  -- 1 and 3 come first, whatever the lines are
  pub list_first : (fs es : List ℕ) (cs : List ℤ) → (list_fault fs ≡ 0 → ⊥) → replay_reply fs es cs ≡ refused (list_fault fs)
  -- 25 goes by the lengths, whatever the lines are
  pub many_lines : (fs es : List ℕ) (cs : List ℤ) → list_fault fs ≡ 0 → max_lines < length es → replay_reply fs es cs ≡ refused 25
  pub unequal_lists : (fs es : List ℕ) (cs : List ℤ) → list_fault fs ≡ 0 → (length es ≡ length cs → ⊥) → replay_reply fs es cs ≡ refused 25
  -- 26 comes before 27, whatever the changes are
  pub entry_first : (fs es : List ℕ) (cs : List ℤ) → list_fault fs ≡ 0 → lines_fault es cs ≡ false → outside_fault fs es ≡ true → replay_reply fs es cs ≡ refused 26
  -- after them a journal is accepted exactly if both bounds hold after each line
  pub accepted_within : (fs es : List ℕ) (cs : List ℤ) → replay_fault fs es cs ≡ 0 → WithinBounds fs es cs
  pub within_accepted : (fs es : List ℕ) (cs : List ℤ) → list_fault fs ≡ 0 → lines_fault es cs ≡ false → outside_fault fs es ≡ false → WithinBounds fs es cs → replay_fault fs es cs ≡ 0
  -- a change that is larger than the limit breaks a bound of every list
  pub large_change : (fs es : List ℕ) (cs : List ℤ) → list_fault fs ≡ 0 → lines_fault es cs ≡ false → outside_fault fs es ≡ false
      → (i : ℕ) → i < length cs → limit < nat_abs (change_at cs i) → replay_reply fs es cs ≡ refused 27
