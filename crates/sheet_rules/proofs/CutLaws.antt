-- Laws of an input that is cut: the first lines that are numbers stay, since they are short, so that where an input stops being as described shows in as many
-- bytes as the longest has and one more.
-- Assumes nothing.
use mathlib.Core.Path.{◌≡◌, refl, sym, ap, ◌∙◌}
use mathlib.Core.Bool.{Bool, true, false, not, cond}
use mathlib.Core.List.{List, [], ◌∷◌, ◌++◌}
use mathlib.Core.Logic.{◌⊎◌, inl, inr, ⊎_elim}
use Prim.Native.Nat.{ℕ, zero, suc, ◌+◌, ◌-◌, ◌*◌, ◌<◌, min}
use native.Mathlib.Omega.{arith}
use lib.Dec.{leb, eqb}
use lib.ListN.{length, take, drop, take-append-drop}
use lib.Seq.{take-append-le, take-append-add}
use borrow.Author.Tests.{leb-true, leb-false}
use Rattle.laws.proofs.Tests.{both, tested, not_holds}
use Rattle.sheet_rules.specs.Limits.{most_numbers, max_digits, max_input}
use Rattle.sheet_rules.specs.Input.{line_feed, every, numeral, numeral_lines, fault_line}
use Rattle.sheet_rules.proofs.InputLaws.{no_feed, every_front, lines_after, no_lines, numeral_short}

-- the first line of bytes that have a line feed
record FirstLine (input : List ℕ) : Type 0 where
  line : List ℕ
  feed : ℕ
  after : List ℕ
  parts : input ≡ line ++ feed ∷ after
  ends : eqb feed line_feed ≡ true
  plain : no_feed line ≡ true

first_line : (input : List ℕ) → (no_feed input ≡ true) ⊎ FirstLine input
unfolding every
first_line [] = inl refl
first_line (c ∷ cs) = ⊎_elim here (later (first_line cs)) (tested (eqb c line_feed))
  where
    here : eqb c line_feed ≡ true → (no_feed (c ∷ cs) ≡ true) ⊎ FirstLine (c ∷ cs)
    here e = inr (record { line = []; feed = c; after = cs; parts = refl; ends = e; plain = refl })

    later : (no_feed cs ≡ true) ⊎ FirstLine cs → eqb c line_feed ≡ false → (no_feed (c ∷ cs) ≡ true) ⊎ FirstLine (c ∷ cs)
    later s e =
        ⊎_elim (λ (h : no_feed cs ≡ true). inl (both (not (eqb c line_feed)) (no_feed cs) (not_holds _ e) h))
        (λ (f : FirstLine cs). inr (record {
          line = c ∷ f.line;
          feed = f.feed;
          after = f.after;
          parts = ap (λ (l : List ℕ). c ∷ l) f.parts;
          ends = f.ends;
          plain = both (not (eqb c line_feed)) (no_feed f.line) (not_holds _ e) f.plain;
        }))
        s

plain_front : (m : ℕ) (p : List ℕ) → no_feed p ≡ true → no_feed (take m p) ≡ true
plain_front m p n = every_front (λ x. not (eqb x line_feed)) (take m p) (drop m p) (ap no_feed (take-append-drop m p) ∙ n)

-- of the first k lines as many are numbers where m bytes are kept, if k numbers fit in
abbrev SameLines : ℕ → ℕ → List ℕ → Type 0
SameLines k m input = min (numeral_lines (take m input)) k ≡ min (numeral_lines input) k

module _ (k m : ℕ) (input : List ℕ) (room : (max_digits + 1) * suc k < m) (f : FirstLine input) where
  -- where the first line is kept
  kept : (r : ℕ) → m ≡ length f.line + suc r → numeral_lines (take m input) ≡ cond (numeral f.line) (suc (numeral_lines (take r f.after))) 0
  kept r e =
      ap numeral_lines
      (ap (take m) f.parts ∙ ap (λ (n : ℕ). take n (f.line ++ f.feed ∷ f.after)) e ∙ take-append-add f.line (f.feed ∷ f.after) (suc r))
      ∙ lines_after f.line f.feed (take r f.after) f.plain f.ends

  all : numeral_lines input ≡ cond (numeral f.line) (suc (numeral_lines f.after)) 0
  all = ap numeral_lines f.parts ∙ lines_after f.line f.feed f.after f.plain f.ends

  number : ((n : ℕ) → (max_digits + 1) * k < n → SameLines k n f.after) → numeral f.line ≡ true → SameLines (suc k) m input
  number rest t =
      let short = numeral_short f.line t in
      let r : ℕ = m - length f.line - 1 in
      let front = kept r (omega (arith, room, short)) ∙ ap (λ (b : Bool). cond b (suc (numeral_lines (take r f.after))) 0) t in
      let whole = all ∙ ap (λ (b : Bool). cond b (suc (numeral_lines f.after)) 0) t in
      let later = rest r (omega (arith, room, short)) in
      omega (arith, front, whole, later)

  none : numeral f.line ≡ false → SameLines (suc k) m input
  none t = ap (λ (n : ℕ). min n (suc k)) (⊎_elim cut_off whole (tested (leb m (length f.line))) ∙ sym (all ∙ ap (λ (b : Bool). cond b (suc (numeral_lines f.after)) 0) t))
    where
      cut_off : leb m (length f.line) ≡ true → numeral_lines (take m input) ≡ 0
      cut_off l =
          ap numeral_lines (ap (take m) f.parts ∙ take-append-le m f.line (f.feed ∷ f.after) (leb-true m (length f.line) l))
          ∙ no_lines (take m f.line) (plain_front m f.line f.plain)

      whole : leb m (length f.line) ≡ false → numeral_lines (take m input) ≡ 0
      whole l =
          let r : ℕ = m - length f.line - 1 in
          kept r (omega (arith, leb-false m (length f.line) l)) ∙ ap (λ (b : Bool). cond b (suc (numeral_lines (take r f.after))) 0) t

same_lines : (k m : ℕ) (input : List ℕ) → (max_digits + 1) * k < m → SameLines k m input
same_lines zero m input h = omega arith
same_lines (suc k) m input h = ⊎_elim no_feed_lem (some (same_lines k)) (first_line input)
  where
    no_feed_lem : no_feed input ≡ true → SameLines (suc k) m input
    no_feed_lem n = ap (λ (l : ℕ). min l (suc k)) (no_lines (take m input) (plain_front m input n) ∙ sym (no_lines input n))

    some : ((n : ℕ) (l : List ℕ) → (max_digits + 1) * k < n → SameLines k n l) → FirstLine input → SameLines (suc k) m input
    some rest f = ⊎_elim (number k m input h f (λ n. rest n f.after)) (none k m input h f) (tested (numeral f.line))

pub cut_line : (input : List ℕ) → fault_line (take (max_input + 1) input) ≡ fault_line input
cut_line input = ap suc (same_lines most_numbers (max_input + 1) input (omega arith))
