-- Lists, theta and q on both sides of each limit (document 01, "Examples" and "When a call is turned away").
-- Assumes nothing.
use Rattle.std.specs.Prelude.{◌≡◌, true, false, [], ◌∷◌, map, ℕ}
use Rattle.laws.specs.Refusal.{refusal}
use Rattle.list_rules.specs.Limits.{entries_good, theta_good, q_good, q_large}
use Rattle.list_rules.specs.Frequencies.{list_fault}
use Rattle.list_rules.specs.Quality.{input_sentences}

-- the refusal of a q beside a list and a theta that are good
abbrev pub refusal_of_q : ℕ → ℕ → ℕ
refusal_of_q qn qd = refusal (input_sentences (1 ∷ []) 1 qn qd)

pub record Worked : Type 0 where
  pub entries : map entries_good (0 ∷ 1 ∷ 65536 ∷ 65537 ∷ []) ≡ false ∷ true ∷ true ∷ false ∷ []
  pub theta : map theta_good (0 ∷ 1 ∷ 1048575 ∷ 1048576 ∷ []) ≡ false ∷ true ∷ true ∷ false ∷ []
  pub least_q : q_good 5 4 ∷ q_good 1000 800 ∷ q_good 124 100 ∷ q_good 1000 801 ∷ [] ≡ true ∷ true ∷ false ∷ false ∷ []
  pub q_parts : q_good 3 0 ∷ q_good 0 1 ∷ q_good 1000 1 ∷ q_good 1001 1 ∷ [] ≡ false ∷ false ∷ true ∷ false ∷ []
  -- 8 itself is not above 8, whatever its parts are
  pub most_q :
      q_large 8 1 ∷ q_large 80 10 ∷ q_large 1000 125 ∷ q_large 9 1 ∷ q_large 81 10 ∷ q_large 1000 124 ∷ []
      ≡ false ∷ false ∷ false ∷ true ∷ true ∷ true ∷ []
  -- a list may hold zeros, even only zeros
  pub zeros : list_fault (0 ∷ 0 ∷ 0 ∷ []) ∷ list_fault (0 ∷ 1073741823 ∷ 0 ∷ []) ∷ [] ≡ 0 ∷ 0 ∷ []
  pub sums : list_fault (1073741823 ∷ []) ∷ list_fault (1073741823 ∷ 1 ∷ []) ∷ [] ≡ 0 ∷ 3 ∷ []
  -- each sentence before the next: an empty list, a large sum, theta 0, q 1001/1, q 15/1; and q 124/100, which is not above 8
  pub order :
      refusal (input_sentences [] 0 1001 1)
      ∷ refusal (input_sentences (1073741824 ∷ []) 0 1001 1)
      ∷ refusal (input_sentences (1 ∷ []) 0 1001 1)
      ∷ refusal_of_q 1001 1
      ∷ refusal_of_q 15 1
      ∷ refusal_of_q 124 100
      ∷ []
      ≡ 1 ∷ 3 ∷ 4 ∷ 5 ∷ 24 ∷ 5 ∷ []
  -- 15/10, and q about 8
  pub slips :
      refusal_of_q 15 10 ∷ refusal_of_q 8 1 ∷ refusal_of_q 80 10 ∷ refusal_of_q 1000 125 ∷ refusal_of_q 9 1 ∷ refusal_of_q 1000 124 ∷ []
      ≡ 0 ∷ 0 ∷ 0 ∷ 0 ∷ 24 ∷ 24 ∷ []
