-- Numbered sentences, and the number that a call answers: that of the first sentence that is true (document 01, "When a call is turned
-- away").
-- Assumes nothing.
use Rattle.std.specs.Prelude.{Bool, cond, List, [], ◌∷◌, ℕ}

pub record Sentence : Type 0 where
  pub number : ℕ
  pub holds : Bool

-- 0 if none is true
unfoldable pub refusal : List Sentence → ℕ
refusal [] = 0
refusal (s ∷ ss) = cond s.holds s.number (refusal ss)
