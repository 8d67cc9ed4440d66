-- `journal::earlier_fault` meets its contract: the list's sentences come first, then 25 and 26.
-- Assumes nothing.
use Rattle.std.proofs.Common.{refl, sym, ◌≡◌, ◌∙◌, false, List, ℕ, ℤ, drop}
use Rattle.laws.proofs.RefusalLaws.{numbered, Past, refused, passed, none_left, append_passed}
use Rattle.list_rules.specs.Frequencies.{list_sentences, list_fault}
use Rattle.journal_rules.specs.Replaying.{lines_fault}
use Rattle.journal.specs.Private.Testing.{earlier_sentences}
use Rattle.journal.proofs.earlier_fault.Goals as goal

module _ (fs es : List ℕ) (cs : List ℤ) where
  past_list : list_fault fs ≡ 0 → Past 2 (earlier_sentences fs es cs)
  unfolding numbered
  past_list e = append_passed (list_sentences fs) (drop 2 (earlier_sentences fs es cs)) refl e

  past_25 : list_fault fs ≡ 0 → lines_fault es cs ≡ false → Past 3 (earlier_sentences fs es cs)
  past_25 e f = past_list e ∙ passed _ _ f

pub returns-then-lines_fault : goal.returns-then-lines_fault
returns-then-lines_fault c =
    sym (past_list c.args.freqs.now c.args.entries.now c.args.changes.now (sym c.in_ok-list_fault.ensures)
    ∙ refused _ _ (sym c.lines_fault.ensures ∙ c.if-lines_fault.true))

pub returns-then-outside_fault : goal.returns-then-outside_fault
returns-then-outside_fault c =
    sym (past_25 c.args.freqs.now c.args.entries.now c.args.changes.now (sym c.in_ok-list_fault.ensures)
    (sym c.lines_fault.ensures ∙ c.if-lines_fault.false)
    ∙ refused _ _ (sym c.outside_fault.ensures ∙ c.if-outside_fault.true))

pub returns : goal.returns
returns c =
    sym (past_25 c.args.freqs.now c.args.entries.now c.args.changes.now (sym c.in_ok-list_fault.ensures)
    (sym c.lines_fault.ensures ∙ c.if-lines_fault.false)
    ∙ passed _ _ (sym c.outside_fault.ensures ∙ c.if-outside_fault.false)
    ∙ none_left)
