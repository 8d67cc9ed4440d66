-- What makes theta and q no quality of a histogram, and what the builder is given beside what it is lent: sentences 4, 5 and 24, and 1 and 3 before
-- them (document 01, "When a call is turned away"; 24: document 02, request v).
-- Assumes nothing.
use Rattle.std.specs.Prelude.{not, List, [], ◌∷◌, ◌++◌, ℕ}
use Rattle.laws.specs.Refusal.{Sentence}
use Rattle.list_rules.specs.declared.Quality.{Quality}
use Rattle.list_rules.specs.Limits.{theta_good, q_good, q_large}
use Rattle.list_rules.specs.Frequencies.{list_sentences}

abbrev pub quality : ℕ → ℕ → ℕ → Quality
quality theta qn qd = record { theta = theta; qn = qn; qd = qd }

-- 4: theta is outside its limits; 5: q is outside its limits; 24: q is above 8
abbrev pub quality_sentences : ℕ → ℕ → ℕ → List Sentence
quality_sentences theta qn qd =
    record { number = 4; holds = not (theta_good theta) }
    ∷ record { number = 5; holds = not (q_good qn qd) }
    ∷ record { number = 24; holds = q_large qn qd }
    ∷ []

-- 1, 3, 4, 5 and 24, which do not depend on what is lent
abbrev pub input_sentences : List ℕ → ℕ → ℕ → ℕ → List Sentence
input_sentences fs theta qn qd = list_sentences fs ++ quality_sentences theta qn qd
