-- Each list reads as its definition at every number: inside by the rule of the table, outside as 0.
-- Assumes nothing.
use mathlib.Core.Path.{◌≡◌, refl, sym}
use mathlib.Core.Bool.{Bool, true, false, cond, ◌&&◌, ◌||◌}
use Prim.Native.Nat.{ℕ, zero, suc, ◌≤◌}
use native.Mathlib.Omega.{arith}
use borrow.Author.Tests.{leb-true, ltb-true, ltb-false, eqb-true, le-leb}
use lib.Dec.{leb, ltb, eqb}
use lib.ListN.{get_or, get_or-eq_default}
use Rattle.laws.proofs.Tests.{both, both_left, both_right, holds_other, true_not_false}
use Rattle.laws.proofs.Table.{at}
use Rattle.counts_rules.specs.Form.{base, used_class}
use Rattle.counts_rules.specs.Class.{class_start, class_number}
use Rattle.counts_rules.specs.Private.Tables.{class_starts, class_numbers}
use Rattle.counts_rules.proofs.BaseLaws.{starts_right, numbers_right}
use Rattle.counts_tables.specs.Entries.{start_of, number_of}

-- a list that has the value f c wherever the test of c passes, and 0 elsewhere, reads as the choice between the two
chosen : (t : Bool) (x y : ℕ) → (t ≡ true → x ≡ y) → (t ≡ false → x ≡ 0) → x ≡ cond t y 0
chosen true x y h g = h refl
chosen false x y h g = g refl

pub start_entry : (c : ℕ) → get_or class_starts c 0 ≡ start_of c
unfolding start_of class_starts
start_entry c = chosen (leb 1 c && leb c 63) (get_or class_starts c 0) (class_start base c) inside (outside c)
  where
    inside : (leb 1 c && leb c 63) ≡ true → get_or class_starts c 0 ≡ class_start base c
    inside t =
        let l = leb-true 1 c (both_left (leb 1 c) _ t) in
        let h = leb-true c 63 (both_right (leb 1 c) _ t) in
        sym (starts_right c l (omega arith))

    outside : (c : ℕ) → (leb 1 c && leb c 63) ≡ false → get_or class_starts c 0 ≡ 0
    outside zero t = refl
    outside (suc c) t =
        let a : suc c ≤ 63 → ⊥ = λ h. true_not_false (both (leb 1 (suc c)) _ (le-leb 1 (suc c) (omega arith)) (le-leb (suc c) 63 h)) t in
        get_or-eq_default class_starts 0 {n = suc c} (omega arith)

pub number_entry : (c : ℕ) → get_or class_numbers c 0 ≡ number_of c
unfolding number_of class_numbers
number_entry c = chosen (used_class c) (get_or class_numbers c 0) (class_number base c) (λ t. sym (numbers_right c t)) outside
  where
    outside : used_class c ≡ false → get_or class_numbers c 0 ≡ 0
    outside t = go (ltb c 63) refl
      where
        go : (b : Bool) → ltb c 63 ≡ b → get_or class_numbers c 0 ≡ 0
        go true e = eqb-true _ _ (holds_other (used_class c) _ (at (λ k x. used_class k || eqb x 0) class_numbers refl c (ltb-true c 63 e)) t)
        go false e = get_or-eq_default class_numbers 0 (ltb-false c 63 e)
