-- Laws of an input that is read line by line: the numbers in hand and those of the bytes that are left are the numbers of all.
-- Assumes nothing.
use mathlib.Core.Path.{◌≡◌, refl, sym, ap, ◌∙◌, subst⁻¹}
use mathlib.Core.Bool.{Bool, true, false, cond}
use mathlib.Core.List.{List, [], ◌∷◌, ◌++◌, append-nil}
use Prim.Native.Nat.{ℕ, suc, ◌+◌, ◌-◌, ◌≤◌, ◌<◌}
use native.Mathlib.Omega.{arith}
use lib.ListN.{length, take, drop, set, length-set, length-append, length-replicate}
use lib.Seq.{take-suc-set, append_snoc, length-take-le}
use Rattle.std.specs.Prelude.{Result, Ok, Err}
use Rattle.laws.specs.Padded.{zeros}
use Rattle.laws.proofs.PaddedLaws.{zeros_after, is_padded}
use Rattle.laws.proofs.Tests.{both, fails_left, fails_right, is_false}
use Rattle.laws.specs.Between.{between}
use Rattle.laws.proofs.BetweenLaws.{within, is_within}
use Rattle.sheet_rules.specs.Limits.{least_numbers, most_numbers}
use Rattle.std.proofs.lemmas.List.{length-map}
use Rattle.sheet_rules.specs.Input.{lines, every, value, numeral, all_numerals, numbers, passing, numeral_lines, fault_line, as_described}
use Rattle.sheet_rules.proofs.InputLaws.{no_numerals}
use Rattle.sheet_input.specs.declared.InputFault.{InputFault}
use Rattle.sheet_input.specs.Private.Held.{Held}
use Rattle.sheet_input.specs.Private.Lines.{Stepped}
use Rattle.sheet_input.specs.Numbers.{input_numbers}

-- n numbers are read, and these bytes are left
pub record Begun (input values : List ℕ) (n : ℕ) (rest : List ℕ) : Type 0 where
  pub many : n ≤ most_numbers
  pub room : length values ≡ most_numbers
  pub past : drop n values ≡ zeros (most_numbers - n)
  pub numerals : all_numerals (lines input) ≡ all_numerals (lines rest)
  pub read : numbers input ≡ take n values ++ numbers rest
  pub passed : numeral_lines input ≡ n + numeral_lines rest

begun_none : (input : List ℕ) → Begun input (zeros most_numbers) 0 input
begun_none input =
    record { many = omega arith; room = length-replicate {A = ℕ} most_numbers 0; past = refl; numerals = refl; read = refl; passed = omega arith }

-- it is not as described, from a line on
record Fault (input : List ℕ) (line : ℕ) : Type 0 where
  not_described : as_described input ≡ false
  from : line ≡ fault_line input

many_fault : (input : List ℕ) → between least_numbers most_numbers (length (numbers input)) ≡ false → as_described input ≡ false
unfolding as_described
many_fault input h = fails_right (all_numerals (lines input)) (between least_numbers most_numbers (length (numbers input))) h

passing_few : {A : Type 0} (p : A → Bool) (l : List A) → passing p l ≤ length l
unfolding passing
passing_few p [] = omega arith
passing_few {A} p (x ∷ xs) = go (p x) (passing_few p xs)
  where
    go : (t : Bool) → passing p xs ≤ length xs → cond t (suc (passing p xs)) 0 ≤ suc (length xs)
    go true h = omega arith
    go false h = omega arith

-- each line at the start that is a number is one of the numbers
lines_numbers : (input : List ℕ) → numeral_lines input ≤ length (numbers input)
unfolding numbers
lines_numbers input = omega (arith, passing_few numeral (lines input).ended, length-map (lines input).ended value)

-- what is answered

abbrev read_as : List ℕ → Result (List ℕ) InputFault
read_as ns = Ok ns

abbrev fault_at : ℕ → Result (List ℕ) InputFault
fault_at line = Err (record { line = line })

faulty : (input : List ℕ) (line : ℕ) → Fault input line → Err (record { line = line }) ≡ input_numbers input
unfolding input_numbers
faulty input line f =
    ap fault_at f.from
    ∙ ap (λ (t : Bool). cond t (Ok (numbers input)) (Err (record { line = fault_line input }))) (sym f.not_described)

module _ (input values : List ℕ) (n : ℕ) (rest : List ℕ) (b : Begun input values n rest) where
  taken : length (take n values) ≡ n
  taken = length-take-le n values (omega (arith, b.many, b.room))

  begun_more : (v : ℕ) (next : List ℕ) → n < most_numbers → Stepped rest v next → Begun input (set values n v) (suc n) next
  begun_more v next h s =
      record {
        many = h;
        room = length-set values n v ∙ b.room;
        past = zeros_after most_numbers n v values b.past;
        numerals = b.numerals ∙ s.numerals;
        read =
            b.read
            ∙ ap (λ (l : List ℕ). take n values ++ l) s.values
            ∙ sym (append_snoc (take n values) v (numbers next))
            ∙ ap (λ (l : List ℕ). l ++ numbers next) (sym (take-suc-set values n v (omega (arith, b.room))));
        passed = omega (arith, b.passed, s.passed);
      }

  broken_line : 0 < length rest → numeral_lines rest ≡ 0 → Fault input (n + 1)
  unfolding as_described
  broken_line h z =
      record {
        not_described =
            fails_left (all_numerals (lines input)) (between least_numbers most_numbers (length (numbers input))) (b.numerals ∙ no_numerals rest h z);
        from = omega (arith, b.passed, b.many, z);
      }

  too_many : n ≡ most_numbers → 0 < numeral_lines rest → Fault input (n + 1)
  too_many h m =
      let all : length (numbers input) ≡ n + length (numbers rest) =
      ap length b.read ∙ length-append (take n values) (numbers rest) ∙ ap (λ (k : ℕ). k + length (numbers rest)) taken in
      let more : most_numbers < length (numbers input) = omega (arith, all, h, lines_numbers rest, m) in
      record {
        not_described =
            many_fault input
            (is_false (between least_numbers most_numbers (length (numbers input))) (λ t. omega (arith, (within least_numbers most_numbers (length (numbers input)) t).most, more)));
        from = omega (arith, b.passed, h);
      }

  module _ (end : length rest ≡ 0) where
    nothing : rest ≡ []
    nothing = is_nil rest end
      where
        is_nil : (l : List ℕ) → length l ≡ 0 → l ≡ []
        is_nil [] e = refl
        is_nil (x ∷ xs) e = absurd (omega (arith, e))

    numbers_are : numbers input ≡ take n values
    unfolding numbers lines
    numbers_are = b.read ∙ ap (λ (l : List ℕ). take n values ++ numbers l) nothing ∙ append-nil (take n values)

    how_many : length (numbers input) ≡ n
    how_many = ap length numbers_are ∙ taken

    too_few : n < least_numbers → Fault input (n + 1)
    unfolding lines passing
    too_few h =
        record {
          not_described =
              many_fault input
              (is_false (between least_numbers most_numbers (length (numbers input))) (λ t. omega (arith, (within least_numbers most_numbers (length (numbers input)) t).least, how_many)));
          from = let none : numeral_lines rest ≡ 0 = ap numeral_lines nothing in omega (arith, b.passed, b.many, none);
        }

    described : least_numbers ≤ n → as_described input ≡ true
    unfolding as_described lines every
    described h =
        both (all_numerals (lines input)) (between least_numbers most_numbers (length (numbers input)))
        (b.numerals ∙ ap (λ (l : List ℕ). all_numerals (lines l)) nothing)
        (is_within least_numbers most_numbers (length (numbers input)) (record { least = omega (arith, how_many); most = omega (arith, how_many, b.many) }))

    all_read : least_numbers ≤ n → Ok (take n values) ≡ input_numbers input
    unfolding input_numbers
    all_read h =
        ap read_as (sym numbers_are)
        ∙ ap (λ (t : Bool). cond t (Ok (numbers input)) (Err (record { line = fault_line input }))) (sym (described h))

    all_held : least_numbers ≤ n → Held values n
    all_held h = record { least = h; most = b.many; front = taken; all = sym (is_padded most_numbers n values (take n values) refl taken b.past) }

-- ---- what the reading comes to, as a reader of the lines asks

-- the numbers in hand, and for each case of what follows what is answered
pub record Reading (input values : List ℕ) (n : ℕ) (rest : List ℕ) : Type 0 where
  pub begun : Begun input values n rest
  pub if_broken : 0 < length rest → numeral_lines rest ≡ 0 → Err (record { line = n + 1 }) ≡ input_numbers input
  pub if_too_many : n ≡ most_numbers → 0 < numeral_lines rest → Err (record { line = n + 1 }) ≡ input_numbers input
  pub if_too_few : length rest ≡ 0 → n < least_numbers → Err (record { line = n + 1 }) ≡ input_numbers input
  pub if_all : length rest ≡ 0 → least_numbers ≤ n → Ok (take n values) ≡ input_numbers input
  pub if_held : length rest ≡ 0 → least_numbers ≤ n → Held values n

reading : (input values : List ℕ) (n : ℕ) (rest : List ℕ) → Begun input values n rest → Reading input values n rest
reading input values n rest b =
    record {
      begun = b;
      if_broken = λ h z. faulty input (n + 1) (broken_line input values n rest b h z);
      if_too_many = λ h m. faulty input (n + 1) (too_many input values n rest b h m);
      if_too_few = λ h f. faulty input (n + 1) (too_few input values n rest b h f);
      if_all = λ h l. all_read input values n rest b h l;
      if_held = λ h l. all_held input values n rest b h l;
    }

pub reading_none : (input : List ℕ) → Reading input (zeros most_numbers) 0 input
reading_none input = reading input (zeros most_numbers) 0 input (begun_none input)

-- a line more
pub reading_more : (input values : List ℕ) (n : ℕ) (rest : List ℕ) (v : ℕ) (next : List ℕ) → Reading input values n rest → n < most_numbers → Stepped rest v next
    → Reading input (set values n v) (n + 1) next
reading_more input values n rest v next r h s =
    let more : n + 1 ≡ suc n = omega arith in
    reading input (set values n v) (n + 1) next (subst⁻¹ (λ (k : ℕ). Begun input (set values n v) k next) more (begun_more input values n rest r.begun v next h s))
