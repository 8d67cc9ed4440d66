-- Laws of a line that is read byte by byte: it is a number exactly if each byte is a digit of one below 2^32.
-- Assumes nothing.
use mathlib.Core.Path.{◌≡◌, refl, sym, ap, ◌∙◌}
use mathlib.Core.Bool.{Bool, true, false, not, cond, ◌&&◌}
use mathlib.Core.List.{List, [], ◌∷◌}
use Prim.Native.Nat.{ℕ, suc, ◌+◌, ◌-◌, ◌*◌, ◌^◌, ◌≤◌, ◌<◌}
use native.Mathlib.Numerals.{add-one}
use native.Mathlib.Omega.{arith}
use borrow.Author.Tests.{lt-ltb, ltb-true, ltb-false}
use lib.Dec.{ltb}
use lib.ListN.{length, get_or, drop, drop_of_length-le}
use lib.Seq.{drop-cons}
use Rattle.std.specs.Prelude.{Option, None, Some}
use Rattle.laws.proofs.Tests.{true_not_false, is_false, not_holds}
use Rattle.sheet_rules.specs.Input.{every, digit, leading_zero, value_after, value, numeral}
use Rattle.sheet_rules.proofs.InputLaws.{numeral_is}
use Rattle.sheet_input.specs.Private.Lines.{small_number, number_of}

-- the number that bytes make after the digits of n
unfoldable pub read_after : ℕ → List ℕ → Option ℕ
read_after n [] = Some n
read_after n (c ∷ cs) = cond (digit c && ltb (10 * n + (c - 48)) (2 ^ 32)) (read_after (10 * n + (c - 48)) cs) None

value_more : (n : ℕ) (l : List ℕ) → n ≤ value_after n l
unfolding value_after
value_more n [] = omega arith
value_more n (c ∷ l) = omega (arith, value_more (10 * n + (c - 48)) l)

-- all digits are read, unless they come to too large a number
too_large : (m : ℕ) (cs : List ℕ) (t : Bool) → ltb m (2 ^ 32) ≡ false → None ≡ cond (t && ltb (value_after m cs) (2 ^ 32)) (Some (value_after m cs)) None
too_large m cs false e = refl
too_large m cs true e =
    ap (λ (t : Bool). cond t (Some (value_after m cs)) None) {x = false} {y = ltb (value_after m cs) (2 ^ 32)}
    (sym (is_false (ltb (value_after m cs) (2 ^ 32)) (λ t. omega (arith, ltb-true (value_after m cs) (2 ^ 32) t, value_more m cs, ltb-false m (2 ^ 32) e))))

one_read : (m : ℕ) (cs : List ℕ) (d t : Bool) → ltb m (2 ^ 32) ≡ t
    → (m < 2 ^ 32 → read_after m cs ≡ cond (every digit cs && ltb (value_after m cs) (2 ^ 32)) (Some (value_after m cs)) None)
    → cond (d && t) (read_after m cs) None ≡ cond ((d && every digit cs) && ltb (value_after m cs) (2 ^ 32)) (Some (value_after m cs)) None
one_read m cs false t e r = refl
one_read m cs true false e r = too_large m cs (every digit cs) e
one_read m cs true true e r = r (ltb-true m (2 ^ 32) e)

read_all : (n : ℕ) (l : List ℕ) → n < 2 ^ 32 → read_after n l ≡ cond (every digit l && ltb (value_after n l) (2 ^ 32)) (Some (value_after n l)) None
unfolding read_after every value_after
read_all n [] h = sym (ap (λ (t : Bool). cond t (Some n) None) (lt-ltb n (2 ^ 32) h))
read_all n (c ∷ cs) h = one_read (10 * n + (c - 48)) cs (digit c) (ltb (10 * n + (c - 48)) (2 ^ 32)) refl (read_all (10 * n + (c - 48)) cs)

pub no_bytes : (l : List ℕ) → length l ≡ 0 → None ≡ number_of l
unfolding number_of
no_bytes l h = sym (ap (λ (t : Bool). cond t (Some (value l)) None) (is_false (numeral l) (λ t. omega (arith, h, (numeral_is l t).some))))

pub zero_led : (l : List ℕ) → leading_zero l ≡ true → None ≡ number_of l
unfolding number_of
zero_led l h = sym (ap (λ (t : Bool). cond t (Some (value l)) None) (is_false (numeral l) (λ t. true_not_false h (numeral_is l t).plain)))

two_of_four : (a b c d : Bool) → a ≡ true → c ≡ true → (b && d) ≡ (a && b && c && d)
two_of_four a false c d p q = ap (λ (t : Bool). t && false && c && d) (sym p)
two_of_four a true c d p q = (λ i. sym p i && true && sym q i && d)

pub read_is : (l : List ℕ) → (length l ≡ 0 → ⊥) → leading_zero l ≡ false → read_after 0 l ≡ number_of l
unfolding number_of numeral
read_is l h z =
    read_all 0 l (omega arith)
    ∙ ap (λ (t : Bool). cond t (Some (value l)) None)
    (two_of_four (ltb 0 (length l)) (every digit l) (not (leading_zero l)) (ltb (value l) (2 ^ 32)) (lt-ltb 0 (length l) (omega (arith, h))) (not_holds (leading_zero l) z))

-- one byte more is read

read_one : (n : ℕ) (l : List ℕ) (i : ℕ) → i < length l
    → read_after n (drop i l) ≡ cond (digit (get_or l i 0) && ltb (10 * n + (get_or l i 0 - 48)) (2 ^ 32)) (read_after (10 * n + (get_or l i 0 - 48)) (drop (suc i) l)) None
unfolding read_after
read_one n l i h = ap (read_after n) (drop-cons l i 0 h)

small_is : (t : Bool) (x m : ℕ) → Some m ≡ cond t (Some x) None → (t ≡ true) × (x ≡ m)
small_is true x m e = let k : x ≡ m = cc in (refl, k)
small_is false x m e = let z : ◌≡◌ {A = ℕ} 0 1 = cc in absurd (omega arith)

none_is : (t : Bool) (x : ℕ) → None ≡ cond t (Some x) None → t ≡ false
none_is false x e = refl
none_is true x e = let z : ◌≡◌ {A = ℕ} 0 1 = cc in absurd (omega arith)

pub read_next : (n : ℕ) (l : List ℕ) (i m : ℕ) → i < length l → Some m ≡ small_number (get_or l i 0) (10 * n + (get_or l i 0 - 48))
    → read_after m (drop (i + 1) l) ≡ read_after n (drop i l)
read_next n l i m h e =
    let s = small_is (digit (get_or l i 0) && ltb (10 * n + (get_or l i 0 - 48)) (2 ^ 32)) (10 * n + (get_or l i 0 - 48)) m e in
    sym (read_one n l i h
    ∙ ap (λ (t : Bool). cond t (read_after (10 * n + (get_or l i 0 - 48)) (drop (suc i) l)) None) s.0
    ∙ (λ j. read_after (s.1 j) (drop (sym (add-one i) j) l)))

pub read_broken : (n : ℕ) (l : List ℕ) (i : ℕ) → i < length l → None ≡ small_number (get_or l i 0) (10 * n + (get_or l i 0 - 48)) → None ≡ read_after n (drop i l)
read_broken n l i h e =
    sym (read_one n l i h
    ∙ ap (λ (t : Bool). cond t (read_after (10 * n + (get_or l i 0 - 48)) (drop (suc i) l)) None)
    (none_is (digit (get_or l i 0) && ltb (10 * n + (get_or l i 0 - 48)) (2 ^ 32)) (10 * n + (get_or l i 0 - 48)) e))

pub read_done : (n : ℕ) (l : List ℕ) (i : ℕ) → length l ≤ i → Some n ≡ read_after n (drop i l)
unfolding read_after
read_done n l i h = sym (ap (read_after n) (drop_of_length-le l {i = i} h))
