-- Laws of a pattern that is filled in byte by byte: what is put so far and what is left to put make the whole.
-- Assumes nothing.
use mathlib.Core.Path.{◌≡◌, refl, sym, ap, ◌∙◌}
use mathlib.Core.Bool.{Bool, cond}
use mathlib.Core.List.{List, [], ◌∷◌, ◌++◌, append_assoc, append-nil}
use Prim.Native.Nat.{ℕ, ◌+◌, ◌-◌, ◌*◌, ◌≤◌, ◌<◌}
use native.Mathlib.Numerals.{add-one}
use native.Mathlib.Omega.{arith}
use borrow.Author.Tests.{eq-eqb, ne_eqb}
use lib.ListN.{length, get_or, drop, length-append, drop_of_length-le}
use lib.Seq.{drop-cons}
use Rattle.sheet_rules.specs.Limits.{max_digits, line_bytes}
use Rattle.sheet_rules.specs.Text.{ascii, decimal}
use Rattle.sheet_rules.specs.Lines.{labelled, head_line, bucket_line, bucketlet_line, refused_line}
use Rattle.sheet_lines.specs.Private.Pattern.{mark, filled_in}

-- ---- one byte of a pattern

mark_first : (c : ℕ) (cs : List ℕ) (n : ℕ) (ns : List ℕ) → c ≡ mark → filled_in (c ∷ cs) (n ∷ ns) ≡ decimal n ++ filled_in cs ns
unfolding filled_in
mark_first c cs n ns e = ap (λ (t : Bool). cond t (decimal n ++ filled_in cs ns) (c ∷ filled_in cs (n ∷ ns))) (eq-eqb c mark e)

byte_first : (c : ℕ) (cs ns : List ℕ) → (c ≡ mark → length ns ≡ 0) → filled_in (c ∷ cs) ns ≡ c ∷ filled_in cs ns
unfolding filled_in
byte_first c cs [] h = refl
byte_first c cs (n ∷ ns) h =
    ap (λ (t : Bool). cond t (decimal n ++ filled_in cs ns) (c ∷ filled_in cs (n ∷ ns))) (ne_eqb c mark (λ e. omega (arith, h e)))

drop_next : (l : List ℕ) (i : ℕ) → i < length l → drop i l ≡ get_or l i 0 ∷ drop (i + 1) l
drop_next l i h = rw (add-one, drop-cons l i 0)

-- ---- parts that follow one another, taken from the left as the definitions do, or from the right as a pattern is read

abbrev from_left : List ℕ → List (List ℕ) → List ℕ
from_left a [] = a
from_left a (b ∷ bs) = from_left (a ++ b) bs

abbrev from_right : List ℕ → List (List ℕ) → List ℕ
from_right a [] = a
from_right a (b ∷ bs) = a ++ from_right b bs

right_is_left : (a : List ℕ) (bs : List (List ℕ)) → from_right a bs ≡ from_left a bs
right_is_left a [] = refl
right_is_left a (b ∷ []) = refl
right_is_left a (b ∷ d ∷ bs) = sym (append_assoc a b (from_right d bs)) ∙ right_is_left (a ++ b) (d ∷ bs)

-- ---- the patterns of the lines

pub head_pattern : (d theta qn qd buckets : ℕ)
    → filled_in (ascii "codes # theta # q #/# buckets #\n") (d ∷ theta ∷ qn ∷ qd ∷ buckets ∷ []) ≡ head_line d theta qn qd buckets
unfolding filled_in
head_pattern d theta qn qd buckets =
    right_is_left (labelled "codes " d)
    (labelled " theta " theta ∷ labelled " q " qn ∷ labelled "/" qd ∷ labelled " buckets " buckets ∷ ascii "\n" ∷ [])

pub bucket_pattern : (start end code number : ℕ)
    → filled_in (ascii "bucket # # total # #\n") (start ∷ end ∷ code ∷ number ∷ []) ≡ bucket_line start end code number
unfolding filled_in
bucket_pattern start end code number =
    right_is_left (labelled "bucket " start) (labelled " " end ∷ labelled " total " code ∷ labelled " " number ∷ ascii "\n" ∷ [])

pub bucketlet_pattern : (start end class number : ℕ)
    → filled_in (ascii "# # code # count #\n") (start ∷ end ∷ class ∷ number ∷ []) ≡ bucketlet_line start end class number
unfolding filled_in
bucketlet_pattern start end class number =
    right_is_left (labelled "" start) (labelled " " end ∷ labelled " code " class ∷ labelled " count " number ∷ ascii "\n" ∷ [])

pub refused_pattern : (number : ℕ) → filled_in (ascii "refused #\n") (number ∷ []) ≡ refused_line number
unfolding filled_in
refused_pattern number = refl

-- ---- a whole pattern

module _ (pattern numbers : List ℕ) where
  -- i bytes of the pattern are put, and the numbers that are left have no mark yet
  pub record Begun (line left : List ℕ) (i : ℕ) : Type 0 where
    pub up_to : i ≤ length pattern
    pub room : length line + (length pattern - i) + (max_digits - 1) * length left ≤ line_bytes
    pub put : line ++ filled_in (drop i pattern) left ≡ filled_in pattern numbers

  pub begun_none : length pattern + (max_digits - 1) * length numbers ≤ line_bytes → (line : List ℕ) → line ≡ [] → Begun line numbers 0
  begun_none h line e = record { up_to = omega arith; room = omega (arith, h, ap length e); put = ap (λ (l : List ℕ). l ++ filled_in pattern numbers) e }

  module _ (line left : List ℕ) (i : ℕ) (b : Begun line left i) (h : i < length pattern) (next rest : List ℕ) where
    -- a number more
    pub begun_number : get_or pattern i 0 ≡ mark → (n : ℕ) → left ≡ n ∷ rest → next ≡ line ++ decimal n → length next ≤ length line + max_digits → Begun next rest (i + 1)
    begun_number e n l t m =
        record {
          up_to = omega arith;
          room = omega (arith, b.room, m, ap length l);
          put =
              ap (λ (k : List ℕ). k ++ filled_in (drop (i + 1) pattern) rest) t
              ∙ append_assoc line (decimal n) (filled_in (drop (i + 1) pattern) rest)
              ∙ ap (λ (r : List ℕ). line ++ r)
              (sym ((λ j. filled_in (drop_next pattern i h j) (l j)) ∙ mark_first (get_or pattern i 0) (drop (i + 1) pattern) n rest e))
              ∙ b.put;
        }

    -- a byte more
    pub begun_byte : (get_or pattern i 0 ≡ mark → length left ≡ 0) → next ≡ line ++ get_or pattern i 0 ∷ [] → rest ≡ left → Begun next rest (i + 1)
    begun_byte o t l =
        record {
          up_to = omega arith;
          room = omega (arith, b.room, ap length t, length-append line (get_or pattern i 0 ∷ []), ap length l);
          put =
              (λ j. t j ++ filled_in (drop (i + 1) pattern) (l j))
              ∙ append_assoc line (get_or pattern i 0 ∷ []) (filled_in (drop (i + 1) pattern) left)
              ∙ ap (λ (r : List ℕ). line ++ r)
              (sym (ap (λ (p : List ℕ). filled_in p left) (drop_next pattern i h) ∙ byte_first (get_or pattern i 0) (drop (i + 1) pattern) left o))
              ∙ b.put;
        }

  pub begun_all : (line left : List ℕ) (i : ℕ) → Begun line left i → length pattern ≤ i → line ≡ filled_in pattern numbers
  unfolding filled_in
  begun_all line left i b h =
      sym (append-nil line) ∙ ap (λ (p : List ℕ). line ++ filled_in p left) (sym (drop_of_length-le pattern {i = i} h)) ∙ b.put
