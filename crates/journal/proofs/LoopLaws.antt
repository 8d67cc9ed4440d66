-- Laws of the loop that replays all lines (specs/Private/Changing.antt): what is known at its head, kept by a line that keeps both bounds.
-- Assumes nothing.
use mathlib.Core.Path.{◌≡◌, sym, ap, ◌∙◌}
use mathlib.Core.Bool.{true}
use mathlib.Core.List.{List}
use Prim.Native.Nat.{ℕ, suc, ◌+◌, ◌≤◌, ◌<◌}
use native.Mathlib.Numerals.{add-one}
use native.Mathlib.Omega.{arith}
use lib.IntN.{ℤ}
use lib.ListN.{length}
use Rattle.laws.specs.Sums.{sum}
use Rattle.laws.proofs.EachLaws.{NoneBefore, none_yet, none_more, some_found, none_found}
use Rattle.laws.proofs.Tests.{true_not_false, chosen, not_chosen}
use Rattle.journal_rules.specs.Lines.{signed, unsigned, entry_at, change_at, after_line, after_lines}
use Rattle.journal_rules.specs.Replaying.{breaks, breaks_after, bound_fault, after_all}
use Rattle.journal_rules.proofs.SignedLaws.{signed_length, unsigned_signed}
use Rattle.journal_rules.proofs.LinesLaws.{after_none, after_next, after_long, kept_signed}
use Rattle.std.specs.Prelude.{None, Some}
use Rattle.journal.specs.Private.Changing.{line_of, line_changed, line_left, lines_changed, LinesLeft}
use Rattle.journal.proofs.LineLaws.{was_kept, was_broken}

-- i lines have been replayed, each of which kept both bounds, and s is the list's sum
pub record SoFar (fs es : List ℕ) (cs : List ℤ) (now : List ℕ) (s i : ℕ) : Type 0 where
  pub kept : NoneBefore (length cs) (breaks_after fs es cs) i
  pub so_far : signed now ≡ after_lines (signed fs) es cs i
  pub summed : s ≡ sum now

module _ (fs es : List ℕ) (cs : List ℤ) where
  pub none_replayed : (s : ℕ) → s ≡ sum fs → SoFar fs es cs fs s 0
  none_replayed s e = record { kept = none_yet (length cs) (breaks_after fs es cs); so_far = sym (after_none (signed fs) es cs); summed = e }

  pub still_long : (now : List ℕ) (s i : ℕ) → SoFar fs es cs now s i → length now ≡ length fs
  still_long now s i r = sym (signed_length now) ∙ ap length r.so_far ∙ after_long fs es cs i

  module _ (now : List ℕ) (s i : ℕ) (r : SoFar fs es cs now s i) (before : i < length cs) where
    -- the list after line i is that of one line more
    line_is : after_line (signed now) (entry_at es i) (change_at cs i) ≡ after_lines (signed fs) es cs (suc i)
    line_is = ap (λ (zs : List ℤ). after_line zs (entry_at es i) (change_at cs i)) r.so_far ∙ sym (after_next (signed fs) es cs i)

    pub one_replayed : (n : ℕ) (next : List ℕ) → Some n ≡ line_changed now (entry_at es i) (change_at cs i) → next ≡ line_left now (entry_at es i) (change_at cs i)
        → SoFar fs es cs next n (i + 1)
    one_replayed n next p q =
        let w = was_kept now (entry_at es i) (change_at cs i) n p in
        let is_next : next ≡ line_of now (entry_at es i) (change_at cs i) = q ∙ w.2 in
        record {
          kept = none_more (length cs) (breaks_after fs es cs) i before r.kept (ap breaks (sym line_is) ∙ w.0);
          so_far =
              ap signed is_next
              ∙ kept_signed (after_line (signed now) (entry_at es i) (change_at cs i)) w.0
              ∙ line_is
              ∙ ap (after_lines (signed fs) es cs) (sym (add-one i));
          summed = w.1 ∙ ap sum (sym is_next);
        }

    pub replaying_broken : None ≡ line_changed now (entry_at es i) (change_at cs i) → bound_fault fs es cs ≡ true
    unfolding bound_fault
    replaying_broken p = sym (some_found (length cs) (breaks_after fs es cs) i before (ap breaks (sym line_is) ∙ was_broken now (entry_at es i) (change_at cs i) p))

  pub lines_broken : (left : List ℕ) → bound_fault fs es cs ≡ true → (None ≡ lines_changed fs es cs) × LinesLeft fs es cs left
  unfolding lines_changed
  lines_broken left t = (chosen (bound_fault fs es cs) None (Some (sum (after_all fs es cs))) t, record { unbroken = λ f. absurd (true_not_false t f) })

  pub all_replayed : (now : List ℕ) (s i : ℕ) → SoFar fs es cs now s i → length cs ≤ i → (Some s ≡ lines_changed fs es cs) × LinesLeft fs es cs now
  unfolding bound_fault lines_changed
  all_replayed now s i r h =
      let done : i ≡ length cs = omega (arith, r.kept.within) in
      let now_is : now ≡ after_all fs es cs = sym (unsigned_signed now) ∙ ap unsigned (r.so_far ∙ ap (after_lines (signed fs) es cs) done) in
      let f = none_found (length cs) (breaks_after fs es cs) i h r.kept in
      (ap Some (r.summed ∙ ap sum now_is) ∙ not_chosen (bound_fault fs es cs) None (Some (sum (after_all fs es cs))) (sym f), record { unbroken = λ _. now_is })
