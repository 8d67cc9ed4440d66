-- What makes a list no list of frequencies: sentences 1 and 3 (document 01, "When a call is turned away"). A frequency may be 0, so that
-- sentence 2 is no longer there (document 02, request iv).
-- Assumes nothing.
use Rattle.std.specs.Prelude.{Bool, not, List, [], ◌∷◌, ℕ, ltb, length}
use Rattle.laws.specs.Refusal.{Sentence, refusal}
use Rattle.laws.specs.Sums.{sum}
use Rattle.counts_rules.specs.Limit.{limit}
use Rattle.list_rules.specs.Limits.{entries_good}

-- 1: the frequency list has no entry or more than 65,536
unfoldable pub entries_fault : List ℕ → Bool
entries_fault fs = not (entries_good (length fs))

-- 3: the frequencies sum to more than 1,073,741,823
unfoldable pub sum_fault : List ℕ → Bool
sum_fault fs = ltb limit (sum fs)

abbrev pub list_sentences : List ℕ → List Sentence
list_sentences fs =
    record { number = 1; holds = entries_fault fs }
    ∷ record { number = 3; holds = sum_fault fs }
    ∷ []

abbrev pub list_fault : List ℕ → ℕ
list_fault fs = refusal (list_sentences fs)
