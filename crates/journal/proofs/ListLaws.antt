-- Laws of the list that is changed after the replay (`ElseSame` of specs/Private/Changing.antt): one place after the other becomes that of the copy.
-- Assumes nothing.
use mathlib.Core.Path.{◌≡◌, sym, ap, ◌∙◌}
use mathlib.Core.Bool.{false, not}
use mathlib.Core.List.{List}
use mathlib.Core.Logic.{⊎_elim}
use Prim.Native.Nat.{ℕ, ◌+◌, ◌≤◌, ◌<◌}
use native.Mathlib.Nat.{eq-or-lt_of_le}
use native.Mathlib.Omega.{arith}
use borrow.Author.Tests.{eqb-true, eqb-false}
use lib.Dec.{ltb, eqb}
use lib.IntN.{ℤ}
use lib.ListN.{length, get_or, set, length-set}
use lib.Seq.{get_or-set_same, get_or-set_other, ext_get_or}
use Rattle.laws.specs.Each.{some}
use Rattle.laws.proofs.Tests.{tested}
use Rattle.journal_rules.specs.Lines.{entry_at}
use Rattle.journal_rules.specs.Replaying.{outside_fault, after_all}
use Rattle.journal_rules.proofs.LinesLaws.{inside_at, all_long, all_other}
use Rattle.journal.specs.Private.Changing.{ElseSame}

module _ (copy es : List ℕ) where
  module _ (now : List ℕ) (i : ℕ) (r : ElseSame copy es now i) (h : i < length es) where
    abbrev next : List ℕ
    next = set now (entry_at es i) (get_or copy (entry_at es i) 0)

    at_line : (e : ℕ) → e ≡ entry_at es i → get_or next e 0 ≡ get_or copy e 0
    at_line e same =
        ap (λ (k : ℕ). get_or next k 0) same
        ∙ get_or-set_same now (entry_at es i) (get_or copy (entry_at es i) 0) 0 (omega (arith, r.same_length, inside_at copy es r.inside i h))
        ∙ ap (λ (k : ℕ). get_or copy k 0) (sym same)

    -- an entry of no line after i, nor of line i, is of none from i on
    elsewhere : (e : ℕ) → (e ≡ entry_at es i → ⊥) → ((j : ℕ) → i + 1 ≤ j → j < length es → entry_at es j ≡ e → ⊥) → get_or next e 0 ≡ get_or copy e 0
    elsewhere e other n =
        get_or-set_other now (entry_at es i) e (get_or copy (entry_at es i) 0) 0 other
        ∙ r.same e (λ j l k m. ⊎_elim (λ (s : i ≡ j). other (sym m ∙ ap (entry_at es) (sym s))) (λ (s : i < j). n j (omega arith) k m) (eq-or-lt_of_le l))

    pub one_put : ElseSame copy es (set now (entry_at es i) (get_or copy (entry_at es i) 0)) (i + 1)
    one_put =
        record {
          within = omega arith;
          same_length = length-set now (entry_at es i) (get_or copy (entry_at es i) 0) ∙ r.same_length;
          inside = r.inside;
          same = λ e n. ⊎_elim (λ t. at_line e (eqb-true e (entry_at es i) t)) (λ f. elsewhere e (eqb-false e (entry_at es i) f) n) (tested (eqb e (entry_at es i)));
        }

  pub all_put : (now : List ℕ) (i : ℕ) → ElseSame copy es now i → length es ≤ i → now ≡ copy
  all_put now i r h = ext_get_or 0 now copy r.same_length (λ e l. r.same e (λ j a b. absurd (omega arith)))

-- a list and what the lines make of it
pub but_for_lines : (fs es : List ℕ) (cs : List ℤ) → outside_fault fs es ≡ false → length es ≡ length cs → ElseSame (after_all fs es cs) es fs 0
unfolding outside_fault
but_for_lines fs es cs inside paired =
    record {
      within = omega arith;
      same_length = sym (all_long fs es cs);
      inside = ap (λ (n : ℕ). some (length es) (λ i. not (ltb (entry_at es i) n))) (all_long fs es cs) ∙ inside;
      same = λ e h. sym (all_other fs es cs e (λ j l. h j (omega arith) (omega arith)));
    }

-- the list while it is changed, and where the entry of line i stands
pub record Putting (copy es fs : List ℕ) (i : ℕ) : Type 0 where
  pub same : ElseSame copy es fs i
  pub inside : i < length es → entry_at es i < length copy
  pub placed : i < length es → entry_at es i < length fs
  pub if_all : length es ≤ i → fs ≡ copy

pub putting : (copy es fs : List ℕ) (i : ℕ) → ElseSame copy es fs i → Putting copy es fs i
putting copy es fs i s =
    record {
      same = s;
      inside = λ h. inside_at copy es s.inside i h;
      placed = λ h. omega (arith, s.same_length, inside_at copy es s.inside i h);
      if_all = λ h. all_put copy es fs i s h;
    }
