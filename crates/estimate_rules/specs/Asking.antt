-- What the estimator answers (document 01, "Asking" and "When a call is turned away", 7, 24, 8 to 12 and 14).
-- Assumes nothing.
use Rattle.std.specs.Prelude.{Bool, cond, not, ◌&&◌, ◌||◌, List, [], ◌∷◌, ◌++◌, ℕ, ltb, eqb}
use Rattle.laws.specs.Refusal.{Sentence, refusal}
use Rattle.laws.specs.Reply.{Reply, answered, refused}
use Rattle.words_rules.specs.Words.{entries}
use Rattle.words_rules.specs.Reading.{read_sentences}
use Rattle.estimate_rules.specs.Fraction.{rounded}
use Rattle.estimate_rules.specs.Exact.{exact}

-- 14: x is above y, or y is above d
unfoldable pub range_fault : List ℕ → ℕ → ℕ → Bool
range_fault ws x y = ltb y x || ltb (entries ws) y

abbrev pub ask_sentences : List ℕ → ℕ → ℕ → List Sentence
ask_sentences ws x y = read_sentences ws ++ (record { number = 14; holds = range_fault ws x y } ∷ [])

abbrev pub ask_fault : List ℕ → ℕ → ℕ → ℕ
ask_fault ws x y = refusal (ask_sentences ws x y)

-- what is answered where the sum is rounded to n: for a range that isn't empty never 0, but 1 (document 02, request iv)
unfoldable pub raised : ℕ → ℕ → ℕ → ℕ
raised x y n = cond (not (eqb x y) && eqb n 0) 1 n

-- the one sum, rounded up once
unfoldable pub estimate : List ℕ → ℕ → ℕ → ℕ
estimate ws x y = raised x y (rounded (exact ws x y))

unfoldable pub estimate_reply : List ℕ → ℕ → ℕ → Reply
estimate_reply ws x y =
    let fault = ask_fault ws x y in
    cond (eqb fault 0) (answered (estimate ws x y)) (refused fault)
