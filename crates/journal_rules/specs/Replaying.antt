-- The call that replays a journal over a frequency list (document 02, request vii; its refusals are 1, 3, 25, 26 and 27).
-- Assumes nothing.
use Rattle.std.specs.Prelude.{Bool, cond, not, ◌||◌, List, [], ◌∷◌, ◌++◌, ℕ, suc, ltb, eqb, ℤ, pos, length}
use Rattle.std.specs.Int.Signed.{lt_z}
use Rattle.laws.specs.Each.{some}
use Rattle.laws.specs.Refusal.{Sentence, refusal}
use Rattle.laws.specs.Reply.{Reply, answered, refused}
use Rattle.laws.specs.Sums.{sum}
use Rattle.counts_rules.specs.Limit.{limit}
use Rattle.list_rules.specs.Frequencies.{list_sentences}
use Rattle.journal_rules.specs.Lines.{signed, unsigned, sumℤ, frequency_at, entry_at, after_lines}

-- "up to 65,536 lines"
abbrev pub max_lines : ℕ
max_lines = 65536

-- 25: "more than 65,536 lines or two lists of unequal length", by the two lengths

abbrev pub lengths_fault : ℕ → ℕ → Bool
lengths_fault m n = ltb max_lines m || not (eqb m n)

unfoldable pub lines_fault : List ℕ → List ℤ → Bool
lines_fault es cs = lengths_fault (length es) (length cs)

-- 26: "a line whose entry is outside the list"

abbrev pub outside_at : List ℕ → List ℕ → ℕ → Bool
outside_at fs es i = not (ltb (entry_at es i) (length fs))

unfoldable pub outside_fault : List ℕ → List ℕ → Bool
outside_fault fs es = some (length es) (outside_at fs es)

-- 27: "no frequency may fall below 0 and the sum may not pass its limit after any line"

abbrev pub below_zero : List ℤ → ℕ → Bool
below_zero zs e = lt_z (frequency_at zs e) (pos 0)

unfoldable pub breaks : List ℤ → Bool
breaks zs = some (length zs) (below_zero zs) || lt_z (pos limit) (sumℤ zs)

abbrev pub breaks_after : List ℕ → List ℕ → List ℤ → ℕ → Bool
breaks_after fs es cs i = breaks (after_lines (signed fs) es cs (suc i))

unfoldable pub bound_fault : List ℕ → List ℕ → List ℤ → Bool
bound_fault fs es cs = some (length cs) (breaks_after fs es cs)

-- what is tested of the lines before one of them is replayed
abbrev pub line_sentences : List ℕ → List ℕ → List ℤ → List Sentence
line_sentences fs es cs =
    record { number = 25; holds = lines_fault es cs }
    ∷ record { number = 26; holds = outside_fault fs es }
    ∷ []

-- and all that is tested after the list's own sentences
abbrev pub journal_sentences : List ℕ → List ℕ → List ℤ → List Sentence
journal_sentences fs es cs = line_sentences fs es cs ++ record { number = 27; holds = bound_fault fs es cs } ∷ []

abbrev pub replay_fault : List ℕ → List ℕ → List ℤ → ℕ
replay_fault fs es cs = refusal (list_sentences fs ++ journal_sentences fs es cs)

-- the frequencies after all lines
abbrev pub after_all : List ℕ → List ℕ → List ℤ → List ℕ
after_all fs es cs = unsigned (after_lines (signed fs) es cs (length cs))

-- the lent list afterwards: what the lines made of it, or all as it was
unfoldable pub replayed : List ℕ → List ℕ → List ℤ → List ℕ
replayed fs es cs = cond (eqb (replay_fault fs es cs) 0) (after_all fs es cs) fs

-- the sum of the list afterwards
unfoldable pub replay_reply : List ℕ → List ℕ → List ℤ → Reply
replay_reply fs es cs =
    let fault = replay_fault fs es cs in
    cond (eqb fault 0) (answered (sum (after_all fs es cs))) (refused fault)
