-- A worksheet of ranges, two words a range, answered at once (document 02, request i; its refusals are 7, 24, 8 to 12, 19, 20 and 21).
-- Assumes nothing.
use Rattle.std.specs.Prelude.{Bool, cond, not, ◌||◌, List, [], ◌∷◌, ◌++◌, ℕ, ltb, eqb, length, drop}
use Rattle.laws.specs.Each.{some}
use Rattle.laws.specs.Refusal.{Sentence, refusal}
use Rattle.laws.specs.Reply.{Reply, answered, refused}
use Rattle.laws.specs.Tabulate.{tabulate}
use Rattle.words_rules.specs.Words.{word}
use Rattle.words_rules.specs.Reading.{read_sentences}
use Rattle.estimate_rules.specs.Asking.{estimate}
use Rattle.estimate_rules.specs.Ranges.{range_count, left_over, x_at, y_at, some_refused}
use Rattle.estimate_rules.specs.Running.{running_total, total_places, totals_short}

-- 19: the list of running totals or that of answers is too short
unfoldable pub short_fault : List ℕ → List ℕ → List ℕ → ℕ → Bool
short_fault ws totals sheet lent = totals_short ws (length totals) || ltb lent (range_count sheet)

-- 20: one of the places needed does not hold its running total; those past them are not looked at

abbrev pub wrong_at : List ℕ → List ℕ → ℕ → Bool
wrong_at ws totals i = not (eqb (word totals i) (running_total ws i))

unfoldable pub totals_fault : List ℕ → List ℕ → Bool
totals_fault ws totals = some (total_places ws) (wrong_at ws totals)

-- 21: the sheet's length is odd, or 14 would refuse one of its ranges
unfoldable pub ranges_fault : List ℕ → List ℕ → Bool
ranges_fault ws sheet = left_over sheet || some_refused ws sheet

-- what is tested of a readable list
abbrev pub worksheet_sentences : List ℕ → List ℕ → List ℕ → ℕ → List Sentence
worksheet_sentences ws totals sheet lent =
    record { number = 19; holds = short_fault ws totals sheet lent }
    ∷ record { number = 20; holds = totals_fault ws totals }
    ∷ record { number = 21; holds = ranges_fault ws sheet }
    ∷ []

abbrev pub worksheet_fault : List ℕ → List ℕ → List ℕ → ℕ → ℕ
worksheet_fault ws totals sheet lent = refusal (read_sentences ws ++ worksheet_sentences ws totals sheet lent)

-- the answers: of each range, in order, "the one the single call gives"

abbrev pub answer_at : List ℕ → List ℕ → ℕ → ℕ
answer_at ws sheet i = estimate ws (x_at sheet i) (y_at sheet i)

abbrev pub worksheet_answers : List ℕ → List ℕ → List ℕ
worksheet_answers ws sheet = tabulate (range_count sheet) (answer_at ws sheet)

-- the number of answers written
unfoldable pub worksheet_reply : List ℕ → List ℕ → List ℕ → ℕ → Reply
worksheet_reply ws totals sheet lent =
    let fault = worksheet_fault ws totals sheet lent in
    cond (eqb fault 0) (answered (range_count sheet)) (refused fault)

-- the lent places afterwards: the answers and then what stood there, or all as it was
unfoldable pub worksheet_answered : List ℕ → List ℕ → List ℕ → List ℕ → List ℕ
worksheet_answered ws totals sheet old =
    cond (eqb (worksheet_fault ws totals sheet (length old)) 0) (worksheet_answers ws sheet ++ drop (range_count sheet) old) old
