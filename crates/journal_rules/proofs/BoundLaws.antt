-- Laws of both bounds (specs/Claims.antt): after n lines a number of the list is its old one and the changes of its entry so far, and their sum the old
-- one and all changes so far, so that 27 can be said without replaying a line.
-- Assumes nothing.
use mathlib.Core.Path.{◌≡◌, sym, ap, subst, ◌∙◌}
use mathlib.Core.Bool.{Bool, false, not}
use mathlib.Core.List.{List}
use Prim.Native.Nat.{ℕ, suc, ◌≤◌, ◌<◌}
use native.Mathlib.Omega.{arith}
use lib.Dec.{T}
use lib.IntN.{ℤ, pos, nat_abs, ◌+ℤ◌}
use lib.ListN.{length, get_or}
use lib.Seq.{get_or-set_same}
use lib.Signed.{lt_z, ◌≤ℤ◌, lt_z_yes, lt_z_no, clash_ℤ}
use Rattle.laws.specs.Each.{some}
use Rattle.laws.specs.Sums.{sum}
use Rattle.laws.proofs.EachLaws.{some_none}
use Rattle.laws.proofs.SumsLaws.{get_d_le_sum}
use Rattle.laws.proofs.Tests.{is_false, neither, neither_right}
use Rattle.counts_rules.specs.Limit.{limit}
use Rattle.list_rules.specs.Frequencies.{list_fault}
use Rattle.journal_rules.specs.Lines.{signed, unsigned, sumℤ, frequency_at, entry_at, change_at, after_lines}
use Rattle.journal_rules.specs.Replaying.{lines_fault, outside_fault, below_zero, breaks, breaks_after, bound_fault}
use Rattle.journal_rules.specs.Claims.{WithinBounds}
use Rattle.journal_rules.proofs.SignedLaws.{change_within, signed_at}
use Rattle.journal_rules.proofs.LinesLaws.{after_next, inside_at, after_long, after_frequency, after_summed, none_below, kept_signed, kept_limit}
use Rattle.journal_rules.proofs.ReplayLaws.{kept_after, same_lines}

-- a test that fails, and the order
not_less : (a b : ℤ) → lt_z a b ≡ false → b ≤ℤ a
not_less a b f = lt_z_no (subst (λ (t : Bool). T (not t)) (sym f) tt)

is_not_less : (a b : ℤ) → b ≤ℤ a → lt_z a b ≡ false
is_not_less a b h = is_false (lt_z a b) (λ t. clash_ℤ (lt_z_yes {a = a} {b = b} (subst T (sym t) tt)) h)

module _ (fs es : List ℕ) (cs : List ℤ) (lines : lines_fault es cs ≡ false) (inside : outside_fault fs es ≡ false) where
  abbrev after : ℕ → List ℤ
  after n = after_lines (signed fs) es cs n

  paired : length es ≡ length cs
  paired = same_lines es cs lines

  pub kept_within : list_fault fs ≡ 0 → bound_fault fs es cs ≡ false → WithinBounds fs es cs
  unfolding breaks
  kept_within sound kept =
      record {
        frequencies = λ n h e l.
            subst (λ (z : ℤ). pos 0 ≤ℤ z) (after_frequency fs es cs n e l)
            (not_less (frequency_at (after n) e) (pos 0) (none_below (after n) (kept_after fs es cs sound kept n h) e (omega (arith, after_long fs es cs n))));
        sums = λ n h.
            subst (λ (z : ℤ). z ≤ℤ pos limit) (after_summed fs es cs paired inside n h)
            (not_less (pos limit) (sumℤ (after n)) (neither_right (some (length (after n)) (below_zero (after n))) (lt_z (pos limit) (sumℤ (after n))) (kept_after fs es cs sound kept n h)));
      }

  pub within_kept : WithinBounds fs es cs → bound_fault fs es cs ≡ false
  unfolding bound_fault breaks
  within_kept w =
      some_none (length cs) (breaks_after fs es cs)
      (λ i h.
      let n = suc i in
      neither (some (length (after n)) (below_zero (after n))) (lt_z (pos limit) (sumℤ (after n)))
      (some_none (length (after n)) (below_zero (after n))
      (λ e l. is_not_less (frequency_at (after n) e) (pos 0) (subst (λ (z : ℤ). pos 0 ≤ℤ z) (sym (after_frequency fs es cs n e (omega (arith, after_long fs es cs n)))) (w.frequencies n h e (omega (arith, after_long fs es cs n))))))
      (is_not_less (pos limit) (sumℤ (after n)) (subst (λ (z : ℤ). z ≤ℤ pos limit) (sym (after_summed fs es cs paired inside n h)) (w.sums n h))))

  -- ---- a change

  module _ (sound : list_fault fs ≡ 0) (kept : bound_fault fs es cs ≡ false) (i : ℕ) (h : i < length cs) where
    -- the frequency of line i's entry after n lines is one within the limit
    frequency : (n : ℕ) → n ≤ length cs → (f : ℕ) × (frequency_at (after n) (entry_at es i) ≡ pos f) × (f ≤ limit)
    frequency n l =
        let b = kept_after fs es cs sound kept n l in
        let f = get_or (unsigned (after n)) (entry_at es i) 0 in (
          f,
          ap (λ (l : List ℤ). frequency_at l (entry_at es i)) (sym (kept_signed (after n) b)) ∙ signed_at (unsigned (after n)) (entry_at es i),
          omega (arith, get_d_le_sum (unsigned (after n)) (entry_at es i), kept_limit (after n) b),
        )

    pub small_change : nat_abs (change_at cs i) ≤ limit
    small_change =
        let a = frequency i (omega arith) in
        let b = frequency (suc i) (omega arith) in
        let at : entry_at es i < length (after i) = omega (arith, after_long fs es cs i, inside_at fs es inside i (omega (arith, paired))) in
        let moved = get_or-set_same (after i) (entry_at es i) (frequency_at (after i) (entry_at es i) +ℤ change_at cs i) (pos 0) at in
        change_within a.0 b.0 limit (change_at cs i)
        (ap (λ (z : ℤ). z +ℤ change_at cs i) (sym a.1) ∙ sym moved ∙ ap (λ (l : List ℤ). frequency_at l (entry_at es i)) (sym (after_next (signed fs) es cs i)) ∙ b.1)
        a.2 b.2
