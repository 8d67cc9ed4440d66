-- Laws of the tests of 25 and 26 as the code makes them: each says what an answer needs, whatever the comparison looks like.
-- Assumes nothing.
use mathlib.Core.Path.{◌≡◌, refl, ◌∙◌}
use mathlib.Core.Bool.{not}
use mathlib.Core.List.{List}
use Prim.Native.Nat.{ℕ, ◌≤◌}
use borrow.Author.Tests.{leb-true, leb-false, lt-ltb, le-ltb, eqb-true, eqb-false, not-true, not-false}
use lib.Dec.{eqb, leb, ltb}
use lib.IntN.{ℤ}
use lib.ListN.{length, get_or}
use Rattle.std.specs.List.{list_any}
use Rattle.laws.proofs.EachLaws.{some_same}
use Rattle.laws.proofs.SomeLaws.{any_is_some}
use Rattle.laws.proofs.Tests.{agree, not_holds, not_fails}
use Rattle.journal_rules.specs.Lines.{entry_at}
use Rattle.journal_rules.specs.Replaying.{lines_fault, outside_at, outside_fault}
use Rattle.journal_rules.proofs.ReplayLaws.{unequal_lines, paired_lines}

-- few lines are at fault where they and the changes are not as many
pub few_lines : (es : List ℕ) (cs : List ℤ) → length es ≤ 65536 → not (eqb (length es) (length cs)) ≡ lines_fault es cs
few_lines es cs h =
    agree (not (eqb (length es) (length cs))) (lines_fault es cs)
    (λ t. unequal_lines es cs (eqb-false (length es) (length cs) (not-true (eqb (length es) (length cs)) t)))
    (λ f. paired_lines es cs h (eqb-true (length es) (length cs) (not-false (eqb (length es) (length cs)) f)))

leb_not : (m n : ℕ) → leb m n ≡ not (ltb n m)
leb_not m n = agree (leb m n) (not (ltb n m)) (λ t. not_holds (ltb n m) (le-ltb n m (leb-true m n t))) (λ f. not_fails (ltb n m) (lt-ltb n m (leb-false m n f)))

pub any_outside : (fs es : List ℕ) → list_any (λ e. leb (length fs) e) es ≡ outside_fault fs es
unfolding outside_fault
any_outside fs es =
    any_is_some (λ e. leb (length fs) e) (length es) es refl
    ∙ some_same (length es) (λ i. leb (length fs) (get_or es i 0)) (outside_at fs es) (λ i h. leb_not (length fs) (entry_at es i))
