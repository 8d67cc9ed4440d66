-- Laws of the first line: what stands before the first line feed, and what follows it.
-- Assumes nothing.
use mathlib.Core.Path.{◌≡◌, refl, sym, ap, subst, ◌∙◌}
use mathlib.Core.Bool.{Bool, true, false, not, cond, ◌&&◌}
use mathlib.Core.List.{List, [], ◌∷◌, ◌++◌, map}
use mathlib.Core.Logic.{⊎_elim}
use Prim.Native.Nat.{ℕ, zero, suc, ◌+◌, ◌-◌, ◌≤◌, ◌<◌}
use native.Mathlib.Omega.{arith}
use borrow.Author.Tests.{not-false, ltb-true, ltb-false, lt-ltb}
use lib.Dec.{eqb, ltb}
use lib.ListN.{length, get_or, take, drop, length-take, length-drop}
use lib.Seq.{take_all}
use Rattle.std.specs.Prelude.{None, Some, min}
use Rattle.std.specs.List.{prefix_len, position, position_or_len}
use Rattle.std.proofs.lemmas.List.Sums.{split_at_first, prefix_len_stops}
use Rattle.laws.proofs.Tests.{both, is_false, tested}
use Rattle.sheet_rules.specs.Limits.{max_digits}
use Rattle.sheet_rules.specs.Input.{line_feed, Lines, lines, every, value, numeral, all_numerals, numbers, passing, numeral_lines}
use Rattle.sheet_rules.proofs.InputLaws.{no_feed, ended_line, lines_after, no_lines, numeral_short}
use Rattle.sheet_input.specs.Private.Lines.{number_of, Stepped}

abbrev is_feed : ℕ → Bool
is_feed c = eqb c line_feed

prefix_passes : (p : ℕ → Bool) (l : List ℕ) → every p (take (prefix_len p l) l) ≡ true
unfolding every
prefix_passes p [] = refl
prefix_passes p (x ∷ xs) = by (p x) refl (prefix_passes p xs)
  where
    by : (t : Bool) → p x ≡ t → every p (take (prefix_len p xs) xs) ≡ true → every p (take (cond t (1 + prefix_len p xs) 0) (x ∷ xs)) ≡ true
    by true e h =
        let one : suc (prefix_len p xs) ≡ 1 + prefix_len p xs = omega arith in
        subst (λ (k : ℕ). every p (take k (x ∷ xs)) ≡ true) one (both (p x) (every p (take (prefix_len p xs) xs)) e h)
    by false e h = refl

prefix_taken : (p : ℕ → Bool) (k : ℕ) (l : List ℕ) → prefix_len p (take k l) ≡ min k (prefix_len p l)
prefix_taken p zero l = omega arith
prefix_taken p (suc k) [] = omega arith
prefix_taken p (suc k) (x ∷ xs) = by (p x) (prefix_taken p k xs)
  where
    by : (t : Bool) → prefix_len p (take k xs) ≡ min k (prefix_len p xs) → cond t (1 + prefix_len p (take k xs)) 0 ≡ min (suc k) (cond t (1 + prefix_len p xs) 0)
    by true e = omega (arith, e)
    by false e = omega arith

-- a line with more digits than a number has is none
long_number : (l : List ℕ) → max_digits < length l → None ≡ number_of l
unfolding number_of
long_number l h = sym (ap (λ (t : Bool). cond t (Some (value l)) None) (is_false (numeral l) (λ t. omega (arith, h, numeral_short l t))))

number_is : (t : Bool) (n v : ℕ) → Some n ≡ cond t (Some v) None → (t ≡ true) × (v ≡ n)
number_is true n v e = let k : v ≡ n = cc in (refl, k)
number_is false n v e = let z : ◌≡◌ {A = ℕ} 0 1 = cc in absurd (omega arith)

none_is : (t : Bool) (v : ℕ) → None ≡ cond t (Some v) None → t ≡ false
none_is false v e = refl
none_is true v e = let z : ◌≡◌ {A = ℕ} 0 1 = cc in absurd (omega arith)

module _ (input : List ℕ) where
  abbrev end : ℕ
  end = position_or_len is_feed input

  front_plain : no_feed (take end input) ≡ true
  front_plain = prefix_passes (λ c. not (is_feed c)) input

  no_line : length input ≤ end → numeral_lines input ≡ 0
  no_line h = ap numeral_lines (sym (take_all end input h)) ∙ no_lines (take end input) front_plain

  module _ (h : end < length input) where
    feed_there : is_feed (get_or input end 0) ≡ true
    feed_there = not-false (is_feed (get_or input end 0)) (prefix_len_stops (λ c. not (is_feed c)) input 0 h)

    split : input ≡ take end input ++ (get_or input end 0 ∷ drop (end + 1) input)
    split = split_at_first is_feed input 0 h

    fed : lines input ≡ record { ended = take end input ∷ (lines (drop (end + 1) input)).ended; rest = (lines (drop (end + 1) input)).rest }
    fed = ap lines split ∙ ended_line (take end input) (get_or input end 0) (drop (end + 1) input) front_plain feed_there

    no_number : None ≡ number_of (take end input) → numeral_lines input ≡ 0
    unfolding number_of
    no_number e =
        ap numeral_lines split
        ∙ lines_after (take end input) (get_or input end 0) (drop (end + 1) input) front_plain feed_there
        ∙ ap (λ (t : Bool). cond t (suc (numeral_lines (drop (end + 1) input))) 0) (none_is (numeral (take end input)) (value (take end input)) e)

    stepped : (n : ℕ) → Some n ≡ number_of (take end input) → Stepped input n (drop (end + 1) input)
    unfolding number_of numbers every passing
    stepped n e =
        let is = number_is (numeral (take end input)) n (value (take end input)) e in
        record {
          shorter = omega (arith, length-drop (end + 1) input);
          numerals =
              ap all_numerals fed
              ∙ ap (λ (t : Bool). (t && every numeral (lines (drop (end + 1) input)).ended) && eqb (length (lines (drop (end + 1) input)).rest) 0) is.0;
          values = ap (λ (ls : Lines). map value ls.ended) fed ∙ ap (λ (v : ℕ). v ∷ numbers (drop (end + 1) input)) is.1;
          passed =
              ap (λ (ls : Lines). passing numeral ls.ended) fed
              ∙ ap (λ (t : Bool). cond t (suc (numeral_lines (drop (end + 1) input))) 0) is.0;
        }

  -- by the end in all bytes

  pub no_end : None ≡ position is_feed input → numeral_lines input ≡ 0
  no_end e = no_line (ltb-false end (length input) (none_is (ltb end (length input)) end e))

  module _ (k : ℕ) (e : Some k ≡ position is_feed input) where
    found : (ltb end (length input) ≡ true) × (end ≡ k)
    found = number_is (ltb end (length input)) k end e

    pub broken_line : None ≡ number_of (take k input) → numeral_lines input ≡ 0
    broken_line b = no_number (ltb-true end (length input) found.0) (b ∙ ap (λ (j : ℕ). number_of (take j input)) (sym found.1))

    pub number_line : (n : ℕ) → Some n ≡ number_of (take k input) → Stepped input n (take (length input - (k + 1)) (drop (k + 1) input))
    number_line n b =
        let rest : drop (end + 1) input ≡ take (length input - (k + 1)) (drop (k + 1) input) =
        ap (λ (j : ℕ). drop (j + 1) input) found.1 ∙ sym (take_all (length input - (k + 1)) (drop (k + 1) input) (omega (arith, length-drop (k + 1) input))) in
        subst (Stepped input n) rest (stepped (ltb-true end (length input) found.0) n (b ∙ ap (λ (j : ℕ). number_of (take j input)) (sym found.1)))

  -- as the code finds it, in as many bytes as a number and its line feed may have

  abbrev start : List ℕ
  start = take (max_digits + 1) input

  abbrev near : ℕ
  near = position_or_len is_feed start

  near_is : near ≡ min (max_digits + 1) end
  near_is = prefix_taken (λ c. not (is_feed c)) (max_digits + 1) input

  -- a line of more bytes is no number
  long_line : max_digits < end → numeral_lines input ≡ 0
  long_line l = ⊎_elim some (λ h. no_line (ltb-false end (length input) h)) (tested (ltb end (length input)))
    where
      some : ltb end (length input) ≡ true → numeral_lines input ≡ 0
      some h =
          let there = ltb-true end (length input) h in
          no_number there (long_number (take end input) (omega (arith, l, there, length-take end input)))

  pub no_near_end : None ≡ position is_feed start → numeral_lines input ≡ 0
  no_near_end e = ⊎_elim (λ h. long_line (ltb-true max_digits end h)) short (tested (ltb max_digits end))
    where
      short : ltb max_digits end ≡ false → numeral_lines input ≡ 0
      short h =
          let beyond = ltb-false near (length start) (none_is (ltb near (length start)) near e) in
          no_line (omega (arith, beyond, near_is, ltb-false max_digits end h, length-take (max_digits + 1) input))

  module _ (k : ℕ) (e : Some k ≡ position is_feed start) where
    near_end : Some k ≡ position is_feed input
    near_end =
        let f = number_is (ltb near (length start)) k near e in
        let there = ltb-true near (length start) f.0 in
        let same : k ≡ end = omega (arith, there, near_is, f.1, length-take (max_digits + 1) input) in
        let inside : end < length input = omega (arith, there, near_is, length-take (max_digits + 1) input) in
        ap Some same ∙ sym (ap (λ (t : Bool). cond t (Some end) None) (lt-ltb end (length input) inside))

    pub near_broken : None ≡ number_of (take k input) → numeral_lines input ≡ 0
    near_broken = broken_line k near_end

    pub near_number : (n : ℕ) → Some n ≡ number_of (take k input) → Stepped input n (take (length input - (k + 1)) (drop (k + 1) input))
    near_number = number_line k near_end
