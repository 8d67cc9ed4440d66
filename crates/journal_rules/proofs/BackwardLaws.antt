-- Laws of the backward journal (specs/AddingUp.antt): a line and its negation leave a list as it was, what holds of all changes holds of them in
-- reverse order, and a change of 32 bits has a negation of 32 bits unless it is the least.
-- Assumes nothing.
use mathlib.Core.Path.{◌≡◌, refl, sym, ap, ◌∙◌}
use mathlib.Core.Bool.{Bool, true, false, not, ◌&&◌, and-true, and_comm, and_assoc}
use mathlib.Core.List.{List, [], ◌∷◌, ◌++◌, map, map-append, reverse, reverse-cons, reverse-append, reverse-reverse}
use Prim.Native.Nat.{ℕ, zero, suc, ◌≤◌, ◌<◌}
use native.Mathlib.Omega.{arith}
use borrow.Author.Tests.{leb-true, le-leb, lt-leb, eqb-true, eqb-false, ne_eqb}
use lib.Dec.{leb, eqb}
use lib.IntN.{ℤ, pos, negsuc, neg_ℤ, nat_abs, ◌+ℤ◌, neg_ℤ-neg_ℤ, +ℤ-neg_ℤ_cancel}
use lib.ListN.{length, set}
use lib.Seq.{get_or-set_same, set-set, set-get_or}
use Rattle.laws.specs.Each.{each}
use Rattle.laws.proofs.EachLaws.{each_first}
use Rattle.laws.proofs.Tests.{both, both_left, both_right}
use Rattle.counts_rules.specs.Limit.{limit}
use Rattle.journal_rules.specs.Lines.{frequency_at, change_at, after_line}
use Rattle.journal_rules.specs.AddingUp.{Journal, joined, is_least, has_backward, backward, max_change, in32_bits, of32_bits}

-- a line, and the same with its change negated
pub line_undone : (zs : List ℤ) (e : ℕ) (c : ℤ) → e < length zs → after_line (after_line zs e c) e (neg_ℤ c) ≡ zs
line_undone zs e c h =
    let moved = frequency_at zs e +ℤ c in
    set-set zs e moved (frequency_at (set zs e moved) e +ℤ neg_ℤ c)
    ∙ ap (λ (z : ℤ). set zs e (z +ℤ neg_ℤ c)) (get_or-set_same zs e moved (pos 0) h)
    ∙ ap (λ (z : ℤ). set zs e z) (+ℤ-neg_ℤ_cancel (frequency_at zs e) c)
    ∙ set-get_or zs e (pos 0)

-- ---- what holds of all changes

-- a test of each change, by the list
abbrev all_of : (ℤ → Bool) → List ℤ → Bool
all_of p [] = true
all_of p (c ∷ cs) = p c && all_of p cs

each_change : (p : ℤ → Bool) (cs : List ℤ) → each (length cs) (λ i. p (change_at cs i)) ≡ all_of p cs
unfolding each
each_change p [] = refl
each_change p (c ∷ cs) = each_first (length cs) (λ i. p (change_at (c ∷ cs) i)) ∙ ap (λ (t : Bool). p c && t) (each_change p cs)

all_append : (p : ℤ → Bool) (xs ys : List ℤ) → all_of p (xs ++ ys) ≡ (all_of p xs && all_of p ys)
all_append p [] ys = refl
all_append p (x ∷ xs) ys = ap (λ (t : Bool). p x && t) (all_append p xs ys) ∙ sym (and_assoc (p x) (all_of p xs) (all_of p ys))

all_reverse : (p : ℤ → Bool) (cs : List ℤ) → all_of p (reverse cs) ≡ all_of p cs
all_reverse p [] = refl
all_reverse p (c ∷ cs) =
    ap (all_of p) (reverse-cons c cs)
    ∙ all_append p (reverse cs) (c ∷ [])
    ∙ and_comm (all_of p (reverse cs)) (p c && true)
    ∙ ap (λ (t : Bool). t && all_of p (reverse cs)) (and-true (p c))
    ∙ ap (λ (t : Bool). p c && t) (all_reverse p cs)

-- ---- negations of 32 bits

negation_in_32_bits : (c : ℤ) → in32_bits c ≡ true → in32_bits (neg_ℤ c) ≡ not (is_least c)
negation_in_32_bits (pos zero) h = refl
negation_in_32_bits (pos (suc n)) h = both (leb n max_change) true (le-leb n max_change (omega (arith, leb-true (suc n) max_change h))) refl
negation_in_32_bits (negsuc n) h = go (eqb n max_change) refl
  where
    go : (t : Bool) → eqb n max_change ≡ t → leb (suc n) max_change ≡ not t
    go true e = lt-leb (suc n) max_change (omega (arith, eqb-true n max_change e))
    go false e =
        let most = leb-true n max_change (both_left (leb n max_change) true h) in
        let other = eqb-false n max_change e in
        le-leb (suc n) max_change (omega arith)

all_negated : (cs : List ℤ) → all_of in32_bits cs ≡ true → all_of in32_bits (map neg_ℤ cs) ≡ all_of (λ c. not (is_least c)) cs
all_negated [] h = refl
all_negated (c ∷ cs) h =
    let first = negation_in_32_bits c (both_left (in32_bits c) (all_of in32_bits cs) h) in
    let rest = all_negated cs (both_right (in32_bits c) (all_of in32_bits cs) h) in
    λ i. first i && rest i

pub backward_in_32_bits : (j : Journal) → of32_bits j ≡ true → of32_bits (backward j) ≡ has_backward j
unfolding of32_bits has_backward
backward_in_32_bits j h =
    let cs = j.changes in
    each_change in32_bits (reverse (map neg_ℤ cs))
    ∙ all_reverse in32_bits (map neg_ℤ cs)
    ∙ all_negated cs (sym (each_change in32_bits cs) ∙ h)
    ∙ sym (each_change (λ c. not (is_least c)) cs)

-- ---- joined, and twice

pub backward_joined : (a b : Journal) → backward (joined a b) ≡ joined (backward b) (backward a)
backward_joined a b =
    let e = reverse-append a.entries b.entries in
    let c = ap reverse (map-append neg_ℤ a.changes b.changes) ∙ reverse-append (map neg_ℤ a.changes) (map neg_ℤ b.changes) in
    λ i. record { entries = e i; changes = c i }

negated_twice : (cs : List ℤ) → reverse (map neg_ℤ (reverse (map neg_ℤ cs))) ≡ cs
negated_twice [] = refl
negated_twice (c ∷ cs) =
    let back = reverse (map neg_ℤ cs) in
    let first = neg_ℤ-neg_ℤ c in
    let rest = negated_twice cs in
    ap (λ (l : List ℤ). reverse (map neg_ℤ l)) (reverse-cons (neg_ℤ c) (map neg_ℤ cs))
    ∙ ap reverse (map-append neg_ℤ back (neg_ℤ c ∷ []))
    ∙ reverse-append (map neg_ℤ back) (neg_ℤ (neg_ℤ c) ∷ [])
    ∙ λ i. first i ∷ rest i

pub backward_twice : (j : Journal) → backward (backward j) ≡ j
backward_twice j =
    let e = reverse-reverse j.entries in
    let c = negated_twice j.changes in
    λ i. record { entries = e i; changes = c i }

-- ---- a change within the limit

pub small_in_32_bits : (c : ℤ) → nat_abs c ≤ limit → in32_bits c ≡ true
small_in_32_bits (pos n) h = le-leb n max_change (omega arith)
small_in_32_bits (negsuc n) h = both (leb n max_change) true (le-leb n max_change (omega arith)) refl

pub small_not_least : (c : ℤ) → nat_abs c ≤ limit → is_least c ≡ false
small_not_least (pos n) h = refl
small_not_least (negsuc n) h = ne_eqb n max_change (λ e. omega arith)
