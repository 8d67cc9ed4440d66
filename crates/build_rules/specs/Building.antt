-- What the builder answers and what the lent words are afterwards (document 01, "Building" and "When a call is turned away", 1, 3, 4, 5, 24 and 6).
-- Assumes nothing.
use Rattle.std.specs.Prelude.{cond, List, [], ◌∷◌, ◌++◌, ℕ, ltb, eqb, length, drop}
use Rattle.laws.specs.Refusal.{Sentence, refusal}
use Rattle.laws.specs.Reply.{Reply, answered, refused}
use Rattle.list_rules.specs.Quality.{quality, input_sentences}
use Rattle.build_rules.specs.Words.{words}

-- 6: the lent word list is shorter than the histogram
abbrev pub build_sentences : List ℕ → ℕ → ℕ → ℕ → ℕ → List Sentence
build_sentences fs theta qn qd lent =
    input_sentences fs theta qn qd ++ (record { number = 6; holds = ltb lent (length (words (quality theta qn qd) fs)) } ∷ [])

unfoldable pub build_fault : List ℕ → ℕ → ℕ → ℕ → ℕ → ℕ
build_fault fs theta qn qd lent = refusal (build_sentences fs theta qn qd lent)

-- the number of words written
unfoldable pub build_reply : List ℕ → ℕ → ℕ → ℕ → ℕ → Reply
build_reply fs theta qn qd lent =
    let fault = build_fault fs theta qn qd lent in
    cond (eqb fault 0) (answered (length (words (quality theta qn qd) fs))) (refused fault)

-- the lent words afterwards: the histogram and then what stood there, or all as it was
unfoldable pub written : List ℕ → ℕ → ℕ → ℕ → List ℕ → List ℕ
written fs theta qn qd old =
    let new = words (quality theta qn qd) fs in
    cond (eqb (build_fault fs theta qn qd (length old)) 0) (new ++ drop (length new) old) old
