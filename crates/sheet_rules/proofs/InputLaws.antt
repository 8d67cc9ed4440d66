-- Laws of the input: bytes fall into lines at the line feeds, a line that is no number stays none whatever follows it before the next line
-- feed, and the digits of a number give it back.
-- Assumes nothing.
use mathlib.Core.Path.{◌≡◌, refl, sym, ap, ◌∙◌}
use mathlib.Core.Bool.{Bool, true, false, not, cond, ◌&&◌}
use mathlib.Core.List.{List, [], ◌∷◌, ◌++◌, append-nil}
use mathlib.Core.Logic.{⊎_elim}
use Prim.Native.Nat.{ℕ, suc, ◌+◌, ◌-◌, ◌*◌, ◌^◌, ◌≤◌, ◌<◌}
use native.Mathlib.Omega.{arith}
use lib.Dec.{ltb, eqb}
use lib.ListN.{length, get_or, length-append, get_or-append}
use lib.Seq.{append_snoc}
use borrow.Author.Tests.{ltb-true, not-true, eqb-false, lt-ltb, ne_eqb}
use native.Mathlib.Nat.{le_trans, not-le_of_lt, mul-le-mul_right, pow-succ', pow-le-pow_right}
use Rattle.laws.proofs.Tests.{both, both_left, both_right, fails_left, tested, true_not_false, is_false, not_holds}
use Rattle.laws.proofs.BetweenLaws.{within}
use Rattle.sheet_rules.specs.Limits.{max_digits}
use Rattle.sheet_rules.specs.Input.{line_feed, Lines, in_front, line_in_front, lines, every, digit, leading_zero, value_after, value, numeral, passing, numeral_lines, all_numerals}

-- ---- every

pub every_front : {A : Type 0} (p : A → Bool) (xs ys : List A) → every p (xs ++ ys) ≡ true → every p xs ≡ true
unfolding every
every_front p [] ys h = refl
every_front p (x ∷ xs) ys h = both _ _ (both_left (p x) _ h) (every_front p xs ys (both_right (p x) _ h))

pub every_back : {A : Type 0} (p : A → Bool) (xs ys : List A) → every p (xs ++ ys) ≡ true → every p ys ≡ true
unfolding every
every_back p [] ys h = h
every_back p (x ∷ xs) ys h = every_back p xs ys (both_right (p x) _ h)

pub every_both : {A : Type 0} (p : A → Bool) (xs ys : List A) → every p xs ≡ true → every p ys ≡ true → every p (xs ++ ys) ≡ true
unfolding every
every_both p [] ys h k = k
every_both p (x ∷ xs) ys h k = both _ _ (both_left (p x) _ h) (every_both p xs ys (both_right (p x) _ h) k)

pub every_one : {A : Type 0} (p : A → Bool) (x : A) → p x ≡ true → every p (x ∷ []) ≡ true
unfolding every
every_one p x h = both _ _ h refl

-- ---- lines

-- no byte is a line feed
abbrev pub no_feed : List ℕ → Bool
no_feed l = every (λ c. not (eqb c line_feed)) l

pub ended_line : (p : List ℕ) (c : ℕ) (cs : List ℕ) → no_feed p ≡ true → eqb c line_feed ≡ true
    → lines (p ++ c ∷ cs) ≡ record { ended = p ∷ (lines cs).ended; rest = (lines cs).rest }
unfolding lines every
ended_line [] c cs n e = ap (λ (t : Bool). cond t (line_in_front (lines cs)) (in_front c (lines cs).ended (lines cs).rest)) e
ended_line (x ∷ p) c cs n e =
    ap (λ (t : Bool). cond t (line_in_front (lines (p ++ c ∷ cs))) (in_front x (lines (p ++ c ∷ cs)).ended (lines (p ++ c ∷ cs)).rest))
    (not-true (eqb x line_feed) (both_left (not (eqb x line_feed)) _ n))
    ∙ ap (λ (ls : Lines). in_front x ls.ended ls.rest) (ended_line p c cs (both_right (not (eqb x line_feed)) _ n) e)

pub open_line : (p : List ℕ) → no_feed p ≡ true → lines p ≡ record { ended = []; rest = p }
unfolding lines every
open_line [] n = refl
open_line (x ∷ p) n =
    ap (λ (t : Bool). cond t (line_in_front (lines p)) (in_front x (lines p).ended (lines p).rest)) (not-true (eqb x line_feed) (both_left (not (eqb x line_feed)) _ n))
    ∙ ap (λ (ls : Lines). in_front x ls.ended ls.rest) (open_line p (both_right (not (eqb x line_feed)) _ n))

-- how many lines are numbers, where the first line ends and where there is none
pub lines_after : (p : List ℕ) (c : ℕ) (cs : List ℕ) → no_feed p ≡ true → eqb c line_feed ≡ true → numeral_lines (p ++ c ∷ cs) ≡ cond (numeral p) (suc (numeral_lines cs)) 0
unfolding passing
lines_after p c cs n e = ap (λ (ls : Lines). passing numeral ls.ended) (ended_line p c cs n e)

pub no_lines : (p : List ℕ) → no_feed p ≡ true → numeral_lines p ≡ 0
unfolding passing
no_lines p n = ap (λ (ls : Lines). passing numeral ls.ended) (open_line p n)

-- ---- values

pub value_append : (n : ℕ) (xs ys : List ℕ) → value_after n (xs ++ ys) ≡ value_after (value_after n xs) ys
unfolding value_after
value_append n [] ys = refl
value_append n (c ∷ xs) ys = value_append (10 * n + (c - 48)) xs ys

pub value_snoc : (l : List ℕ) (c : ℕ) → value (l ++ (c ∷ [])) ≡ 10 * value l + (c - 48)
unfolding value_after
value_snoc l c = value_append 0 l (c ∷ [])

pub value_least : (n : ℕ) (l : List ℕ) → n * 10 ^ length l ≤ value_after n l
unfolding value_after
value_least n [] = omega arith
value_least n (c ∷ l) =
    omega (arith, value_least (10 * n + (c - 48)) l, ap (λ (x : ℕ). n * x) (pow-succ' 10 (length l)))

pub value_most : (n : ℕ) (l : List ℕ) → every digit l ≡ true → value_after n l < (n + 1) * 10 ^ length l
unfolding value_after every
value_most n [] h = omega arith
value_most n (c ∷ l) h =
    let d = within 48 57 c (both_left (digit c) (every digit l) h) in
    let grown : (10 * n + (c - 48) + 1) * 10 ^ length l ≤ (10 * (n + 1)) * 10 ^ length l = mul-le-mul_right (10 ^ length l) (omega (arith, d.least, d.most)) in
    omega (arith, value_most (10 * n + (c - 48)) l (both_right (digit c) (every digit l) h), grown, ap (λ (x : ℕ). (n + 1) * x) (pow-succ' 10 (length l)))

-- ---- numerals

pub record Numeral (l : List ℕ) : Type 0 where
  pub some : 0 < length l
  pub digits : every digit l ≡ true
  pub plain : leading_zero l ≡ false
  pub small : value l < 2 ^ 32

pub is_numeral : (l : List ℕ) → Numeral l → numeral l ≡ true
unfolding numeral
is_numeral l n =
    both (ltb 0 (length l) && every digit l && not (leading_zero l)) (ltb (value l) (2 ^ 32))
    (both (ltb 0 (length l) && every digit l) (not (leading_zero l)) (both (ltb 0 (length l)) (every digit l) (lt-ltb _ _ n.some) n.digits) (not_holds _ n.plain))
    (lt-ltb _ _ n.small)

pub numeral_is : (l : List ℕ) → numeral l ≡ true → Numeral l
unfolding numeral
numeral_is l n =
    let front = both_left (ltb 0 (length l) && every digit l && not (leading_zero l)) (ltb (value l) (2 ^ 32)) n in
    let start = both_left (ltb 0 (length l) && every digit l) (not (leading_zero l)) front in
    record {
      some = ltb-true _ _ (both_left (ltb 0 (length l)) (every digit l) start);
      digits = both_right (ltb 0 (length l)) (every digit l) start;
      plain = not-true _ (both_right (ltb 0 (length l) && every digit l) (not (leading_zero l)) front);
      small = ltb-true _ _ (both_right (ltb 0 (length l) && every digit l && not (leading_zero l)) (ltb (value l) (2 ^ 32)) n);
    }

-- what begins a number is one
pub numeral_front : (p : List ℕ) (c : ℕ) → 0 < length p → numeral (p ++ (c ∷ [])) ≡ true → numeral p ≡ true
numeral_front p c h n =
    let m = numeral_is (p ++ (c ∷ [])) n in
    let zero_kept : leading_zero p ≡ true → ⊥ =
    λ z. true_not_false
    (both (eqb (get_or (p ++ (c ∷ [])) 0 0) 48) (ltb 1 (length (p ++ (c ∷ []))))
    (ap (λ (x : ℕ). eqb x 48) (get_or-append p (c ∷ []) 0 0 h) ∙ both_left (eqb (get_or p 0 0) 48) (ltb 1 (length p)) z)
    (lt-ltb 1 (length (p ++ (c ∷ [])))
    (omega (arith, ltb-true 1 (length p) (both_right (eqb (get_or p 0 0) 48) (ltb 1 (length p)) z), length-append p (c ∷ [])))))
    m.plain in
    is_numeral p
    (record {
      some = h;
      digits = every_front digit p (c ∷ []) m.digits;
      plain = is_false _ zero_kept;
      small = omega (arith, m.small, value_snoc p c);
    })

-- so bytes that are none, and hold no line feed, begin no line that is a number, whatever follows
pub broken : (cs p : List ℕ) → no_feed p ≡ true → 0 < length p → numeral p ≡ false → numeral_lines (p ++ cs) ≡ 0
broken [] p n h b = ap numeral_lines (append-nil p) ∙ no_lines p n
broken (c ∷ cs) p n h b = ⊎_elim feed (other (broken cs (p ++ (c ∷ [])))) (tested (eqb c line_feed))
  where
    feed : eqb c line_feed ≡ true → numeral_lines (p ++ c ∷ cs) ≡ 0
    feed e = lines_after p c cs n e ∙ ap (λ (t : Bool). cond t (suc (numeral_lines cs)) 0) b

    other : (no_feed (p ++ (c ∷ [])) ≡ true → 0 < length (p ++ (c ∷ [])) → numeral (p ++ (c ∷ [])) ≡ false → numeral_lines (p ++ (c ∷ []) ++ cs) ≡ 0)
        → eqb c line_feed ≡ false → numeral_lines (p ++ c ∷ cs) ≡ 0
    other later e =
        ap numeral_lines (sym (append_snoc p c cs))
        ∙ later
        (every_both (λ x. not (eqb x line_feed)) p (c ∷ []) n (every_one (λ x. not (eqb x line_feed)) c (not_holds _ e)))
        (omega (arith, h, length-append p (c ∷ [])))
        (is_false _ (λ t. true_not_false (numeral_front p c h t) b))

-- and bytes that begin no such line are not numbers, one a line
pub no_numerals : (l : List ℕ) → 0 < length l → numeral_lines l ≡ 0 → all_numerals (lines l) ≡ false
unfolding lines every passing numeral
no_numerals [] h z = absurd (omega arith)
no_numerals (c ∷ cs) h z = by (eqb c line_feed) (lines cs).ended (lines cs).rest z
  where
    none : (t : Bool) (k : ℕ) → cond t (suc k) 0 ≡ 0 → t ≡ false
    none true k e = absurd (omega (arith, e))
    none false k e = refl

    front : Bool → List (List ℕ) → List ℕ → Lines
    front t ended rest = cond t (line_in_front (record { ended = ended; rest = rest })) (in_front c ended rest)

    by : (t : Bool) (ended : List (List ℕ)) (rest : List ℕ) → passing numeral (front t ended rest).ended ≡ 0 → all_numerals (front t ended rest) ≡ false
    by true ended rest e = refl
    by false [] rest e = ne_eqb (suc (length rest)) 0 (λ n. omega (arith, n))
    by false (l ∷ ls) rest e = fails_left _ _ (fails_left (numeral (c ∷ l)) _ (none (numeral (c ∷ l)) (passing numeral ls) e))

-- a number of several digits reaches the power of its highest place
pub numeral_least : (l : List ℕ) → numeral l ≡ true → 1 < length l → 10 ^ (length l - 1) ≤ value l
unfolding every value_after
numeral_least [] n h = absurd (omega arith)
numeral_least (c ∷ cs) n h =
    let m = numeral_is (c ∷ cs) n in
    let d = within 48 57 c (both_left (digit c) (every digit cs) m.digits) in
    let zeroed : eqb c 48 ≡ true → ⊥ = λ e. true_not_false (both (eqb c 48) (ltb 1 (length (c ∷ cs))) e (lt-ltb 1 (length (c ∷ cs)) h)) m.plain in
    let above : 1 ≤ c - 48 = omega (arith, d.least, eqb-false c 48 (is_false (eqb c 48) zeroed)) in
    let least : 1 * 10 ^ length cs ≤ (10 * 0 + (c - 48)) * 10 ^ length cs = mul-le-mul_right (10 ^ length cs) (omega arith) in
    let power : 10 ^ (length (c ∷ cs) - 1) ≡ 10 ^ length cs = ap (λ (k : ℕ). 10 ^ k) (omega arith) in
    omega (arith, least, value_least (10 * 0 + (c - 48)) cs, power)

-- a number has at most so many digits
pub numeral_short : (l : List ℕ) → numeral l ≡ true → length l ≤ max_digits
numeral_short l n =
    le_unless (λ h. not-le_of_lt (numeral_is l n).small
    (le_trans (omega arith) (le_trans (pow-le-pow_right {n = 10} (omega arith) {i = max_digits} {j = length l - 1} (omega arith)) (numeral_least l n (omega arith)))))
  where
    le_unless : {a b : ℕ} → (b < a → ⊥) → a ≤ b
    le_unless {a} {b} h = omega (arith, h)
