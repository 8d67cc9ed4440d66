-- Running totals and the call that fills them in (document 02, request i; its refusals are 7, 24, 8 to 12 and 19).
-- Assumes nothing.
use Rattle.std.specs.Prelude.{Bool, cond, List, [], ◌∷◌, ◌++◌, ℕ, zero, suc, ◌+◌, ltb, eqb, length, drop}
use Rattle.laws.specs.Refusal.{Sentence, refusal}
use Rattle.laws.specs.Reply.{Reply, answered, refused}
use Rattle.laws.specs.Tabulate.{tabulate}
use Rattle.words_rules.specs.Words.{buckets}
use Rattle.words_rules.specs.Reading.{read_sentences}
use Rattle.estimate_rules.specs.Exact.{total_at}

-- the sum of what the totals of the n buckets from bucket a on stand for
unfoldable pub totals_from : List ℕ → ℕ → ℕ → ℕ
totals_from ws a zero = 0
totals_from ws a (suc n) = totals_from ws a n + total_at ws (a + n)

-- place i: "the sum of the numbers the bucket totals stand for in the buckets before i"
unfoldable pub running_total : List ℕ → ℕ → ℕ
running_total ws i = totals_from ws 0 i

-- a place for each bucket, "with one last place for all"
abbrev pub total_places : List ℕ → ℕ
total_places ws = buckets ws + 1

abbrev pub running_totals : List ℕ → List ℕ
running_totals ws = tabulate (total_places ws) (running_total ws)

-- 19: the lent list is too short for them
abbrev pub totals_short : List ℕ → ℕ → Bool
totals_short ws lent = ltb lent (total_places ws)

-- what is tested of a readable list
abbrev pub fill_sentences : List ℕ → ℕ → List Sentence
fill_sentences ws lent = record { number = 19; holds = totals_short ws lent } ∷ []

abbrev pub fill_fault : List ℕ → ℕ → ℕ
fill_fault ws lent = refusal (read_sentences ws ++ fill_sentences ws lent)

-- the number of places written
unfoldable pub fill_reply : List ℕ → ℕ → Reply
fill_reply ws lent =
    let fault = fill_fault ws lent in
    cond (eqb fault 0) (answered (total_places ws)) (refused fault)

-- the lent places afterwards: the running totals and then what stood there, or all as it was
unfoldable pub totals_filled : List ℕ → List ℕ → List ℕ
totals_filled ws old = cond (eqb (fill_fault ws (length old)) 0) (running_totals ws ++ drop (total_places ws) old) old
