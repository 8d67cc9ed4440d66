-- The sentences that are tested before a line is replayed.
-- Assumes nothing.
use Rattle.std.specs.Prelude.{◌≡◌, List, ◌++◌, ℕ, ℤ}
use Rattle.laws.specs.Refusal.{Sentence, refusal}
use Rattle.list_rules.specs.Frequencies.{list_sentences}
use Rattle.journal_rules.specs.Replaying.{line_sentences}

abbrev pub earlier_sentences : List ℕ → List ℕ → List ℤ → List Sentence
earlier_sentences fs es cs = list_sentences fs ++ line_sentences fs es cs

-- none of them is true
abbrev pub Tested : List ℕ → List ℕ → List ℤ → Type 0
Tested fs es cs = refusal (earlier_sentences fs es cs) ≡ 0
