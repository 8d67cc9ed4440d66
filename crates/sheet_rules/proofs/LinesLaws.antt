-- Laws of whole inputs: lines and numbers give each other back, and how long an input is.
-- Assumes nothing.
use mathlib.Core.Path.{◌≡◌, refl, sym, ap, ◌∙◌}
use mathlib.Core.Bool.{Bool, true, false, not, cond}
use mathlib.Core.List.{List, [], ◌∷◌, ◌++◌, map}
use mathlib.Core.Logic.{⊎_elim}
use Prim.Native.Nat.{ℕ, ◌+◌, ◌*◌, ◌^◌, ◌≤◌}
use native.Mathlib.Omega.{arith}
use lib.Dec.{ltb, eqb}
use lib.ListN.{length, length-append, length-map}
use lib.Seq.{append_snoc}
use borrow.Author.Tests.{ltb-true, eqb-true, ne_eqb}
use Rattle.laws.proofs.Tests.{both, both_left, both_right, tested, not_holds}
use Rattle.laws.proofs.BetweenLaws.{Within, within, is_within}
use Rattle.laws.specs.Between.{between}
use Rattle.sheet_rules.specs.Limits.{least_numbers, most_numbers, max_digits, max_input}
use Rattle.sheet_rules.specs.Text.{decimal}
use Rattle.sheet_rules.specs.Input.{line_feed, Lines, in_front, line_in_front, lines, every, digit, value, numeral, all_numerals, numbers, as_described}
use Rattle.sheet_rules.specs.Claims.{as_lines}
use Rattle.sheet_rules.proofs.InputLaws.{no_feed, ended_line, numeral_is, numeral_short}
use Rattle.sheet_rules.proofs.TextLaws.{decimal_value, decimal_numeral, value_decimal}

-- lines as bytes
abbrev unlines : List (List ℕ) → List ℕ → List ℕ
unlines [] rest = rest
unlines (l ∷ ls) rest = l ++ (line_feed ∷ []) ++ unlines ls rest

front_unlines : (c : ℕ) (ls : List (List ℕ)) (rest : List ℕ) → unlines (in_front c ls rest).ended (in_front c ls rest).rest ≡ c ∷ unlines ls rest
front_unlines c [] rest = refl
front_unlines c (l ∷ ls) rest = refl

-- nothing is lost
lines_back : (cs : List ℕ) → unlines (lines cs).ended (lines cs).rest ≡ cs
unfolding lines
lines_back [] = refl
lines_back (c ∷ cs) = ⊎_elim (feed (lines_back cs)) (other (lines_back cs)) (tested (eqb c line_feed))
  where
    whole : Bool → List ℕ
    whole t =
        let ls = cond t (line_in_front (lines cs)) (in_front c (lines cs).ended (lines cs).rest) in
        unlines ls.ended ls.rest

    feed : unlines (lines cs).ended (lines cs).rest ≡ cs → eqb c line_feed ≡ true → whole (eqb c line_feed) ≡ c ∷ cs
    feed back e = ap whole e ∙ ap (λ (l : List ℕ). line_feed ∷ l) back ∙ ap (λ (x : ℕ). x ∷ cs) (sym (eqb-true c line_feed e))

    other : unlines (lines cs).ended (lines cs).rest ≡ cs → eqb c line_feed ≡ false → whole (eqb c line_feed) ≡ c ∷ cs
    other back e = ap whole e ∙ front_unlines c (lines cs).ended (lines cs).rest ∙ ap (λ (l : List ℕ). c ∷ l) back

-- lines of numbers are at most so long each
unlines_short : (ls : List (List ℕ)) → every numeral ls ≡ true → length (unlines ls []) ≤ (max_digits + 1) * length ls
unfolding every
unlines_short [] h = omega arith
unlines_short (l ∷ ls) h =
    omega (
      arith,
      numeral_short l (both_left (numeral l) (every numeral ls) h),
      unlines_short ls (both_right (numeral l) (every numeral ls) h),
      length-append (l ++ (line_feed ∷ [])) (unlines ls []),
      length-append l (line_feed ∷ []),
    )

-- and are the numbers' own text
unlines_values : (ls : List (List ℕ)) → every numeral ls ≡ true → as_lines (map value ls) ≡ unlines ls []
unfolding every as_lines
unlines_values [] h = refl
unlines_values (l ∷ ls) h =
    ap (λ (x : List ℕ). x ++ (line_feed ∷ []) ++ as_lines (map value ls)) (value_decimal l (both_left (numeral l) (every numeral ls) h))
    ∙ ap (λ (x : List ℕ). l ++ (line_feed ∷ []) ++ x) (unlines_values ls (both_right (numeral l) (every numeral ls) h))

-- what an input that is as described holds
pub record Described (input : List ℕ) : Type 0 where
  pub numerals : every numeral (lines input).ended ≡ true
  pub all : unlines (lines input).ended [] ≡ input
  pub many : Within least_numbers most_numbers (length (lines input).ended)

pub described : (input : List ℕ) → as_described input ≡ true → Described input
unfolding as_described numbers
described input h =
    let good = both_left (all_numerals (lines input)) (between least_numbers most_numbers (length (map value (lines input).ended))) h in
    let numerals = both_left (every numeral (lines input).ended) (eqb (length (lines input).rest) 0) good in
    let ended = eqb-true (length (lines input).rest) 0 (both_right (every numeral (lines input).ended) (eqb (length (lines input).rest) 0) good) in
    let many = within least_numbers most_numbers (length (map value (lines input).ended))
    (both_right (all_numerals (lines input)) (between least_numbers most_numbers (length (map value (lines input).ended))) h) in
    record {
      numerals = numerals;
      all = ap (unlines (lines input).ended) (sym (no_rest (lines input).rest ended)) ∙ lines_back input;
      many = record { least = omega (arith, many.least, length-map (lines input).ended value); most = omega (arith, many.most, length-map (lines input).ended value) };
    }
  where
    no_rest : (l : List ℕ) → length l ≡ 0 → l ≡ []
    no_rest [] e = refl
    no_rest (x ∷ l) e = absurd (omega arith)

pub input_short : (input : List ℕ) → as_described input ≡ true → length input ≤ max_input
input_short input h =
    let d = described input h in
    omega (arith, unlines_short (lines input).ended d.numerals, ap length d.all, d.many.most)

pub written : (input : List ℕ) → as_described input ≡ true → as_lines (numbers input) ≡ input
unfolding numbers
written input h = let d = described input h in unlines_values (lines input).ended d.numerals ∙ d.all

-- ---- the other way

pub digits_no_feed : (l : List ℕ) → every digit l ≡ true → no_feed l ≡ true
unfolding every
digits_no_feed [] h = refl
digits_no_feed (c ∷ l) h =
    let d = within 48 57 c (both_left (digit c) (every digit l) h) in
    both (not (eqb c line_feed)) (no_feed l) (not_holds (eqb c line_feed) (ne_eqb c line_feed (λ e. omega (arith, d.least, e))))
    (digits_no_feed l (both_right (digit c) (every digit l) h))

abbrev below : ℕ → Bool
below n = ltb n (2 ^ 32)

lines_of : (ns : List ℕ) → every below ns ≡ true → lines (as_lines ns) ≡ record { ended = map decimal ns; rest = [] }
unfolding every as_lines lines
lines_of [] h = refl
lines_of (n ∷ ns) h =
    let num = decimal_numeral n (ltb-true n (2 ^ 32) (both_left (below n) (every below ns) h)) in
    ap lines (append_snoc (decimal n) line_feed (as_lines ns))
    ∙ ended_line (decimal n) line_feed (as_lines ns) (digits_no_feed (decimal n) (numeral_is (decimal n) num).digits) refl
    ∙ ap (λ (ls : Lines). record { ended = decimal n ∷ ls.ended; rest = ls.rest }) (lines_of ns (both_right (below n) (every below ns) h))

all_numerals_lem : (ns : List ℕ) → every below ns ≡ true → every numeral (map decimal ns) ≡ true
unfolding every
all_numerals_lem [] h = refl
all_numerals_lem (n ∷ ns) h =
    both (numeral (decimal n)) _ (decimal_numeral n (ltb-true n (2 ^ 32) (both_left (below n) (every below ns) h)))
    (all_numerals_lem ns (both_right (below n) (every below ns) h))

all_values : (ns : List ℕ) → map value (map decimal ns) ≡ ns
all_values [] = refl
all_values (n ∷ ns) = ap (λ (x : ℕ). x ∷ map value (map decimal ns)) (decimal_value n) ∙ ap (λ (l : List ℕ). n ∷ l) (all_values ns)

pub read : (ns : List ℕ) → every below ns ≡ true → least_numbers ≤ length ns → length ns ≤ most_numbers
    → (as_described (as_lines ns) ≡ true) × (numbers (as_lines ns) ≡ ns)
unfolding as_described numbers
read ns h least most =
    let split = lines_of ns h in
    let same : map value (lines (as_lines ns)).ended ≡ ns = ap (λ (ls : Lines). map value ls.ended) split ∙ all_values ns in (
      both (all_numerals (lines (as_lines ns))) (between least_numbers most_numbers (length (map value (lines (as_lines ns)).ended)))
          (ap all_numerals split ∙ both (every numeral (map decimal ns)) true (all_numerals_lem ns h) refl)
          (ap (λ (l : List ℕ). between least_numbers most_numbers (length l)) same ∙ is_within least_numbers most_numbers (length ns) (record { least = least; most = most })),
      same,
    )
