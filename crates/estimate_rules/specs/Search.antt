-- A search of several ranges (document 02, request ii; its refusals are 7, 24, 8 to 12, 14, 22 and 23).
-- Assumes nothing.
use Rattle.std.specs.Prelude.{Bool, cond, ◌||◌, List, [], ◌∷◌, ◌++◌, ℕ, suc, ◌-◌, ltb, eqb}
use Rattle.laws.specs.Each.{some}
use Rattle.laws.specs.Refusal.{Sentence, refusal}
use Rattle.laws.specs.Reply.{Reply, answered, refused}
use Rattle.words_rules.specs.Reading.{read_sentences}
use Rattle.estimate_rules.specs.Asking.{estimate}
use Rattle.estimate_rules.specs.Ranges.{range_count, left_over, x_at, y_at, some_refused, sum_over}

-- "a search is one to sixteen ranges"
abbrev pub max_ranges : ℕ
max_ranges = 16

-- 22: "no range, more than sixteen or a word left over"
unfoldable pub count_fault : List ℕ → Bool
count_fault ranges = eqb (range_count ranges) 0 || (ltb max_ranges (range_count ranges) || left_over ranges)

-- 23: "a range that starts before the one ahead of it ends", be one of them empty or not

abbrev pub starts_early : List ℕ → ℕ → Bool
starts_early ranges i = ltb (x_at ranges (suc i)) (y_at ranges i)

unfoldable pub order_fault : List ℕ → Bool
order_fault ranges = some (range_count ranges - 1) (starts_early ranges)

-- what is tested of a readable list; 14 is said of every range, also past the sixteenth
abbrev pub search_sentences : List ℕ → List ℕ → List Sentence
search_sentences ws ranges =
    record { number = 14; holds = some_refused ws ranges }
    ∷ record { number = 22; holds = count_fault ranges }
    ∷ record { number = 23; holds = order_fault ranges }
    ∷ []

abbrev pub search_fault : List ℕ → List ℕ → ℕ
search_fault ws ranges = refusal (read_sentences ws ++ search_sentences ws ranges)

-- "the sum of their estimates", each rounded by itself
abbrev pub search_estimate : List ℕ → List ℕ → ℕ
search_estimate ws ranges = sum_over ranges (estimate ws)

unfoldable pub search_reply : List ℕ → List ℕ → Reply
search_reply ws ranges =
    let fault = search_fault ws ranges in
    cond (eqb fault 0) (answered (search_estimate ws ranges)) (refused fault)
