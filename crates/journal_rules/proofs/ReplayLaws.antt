-- Laws of the call that replays a journal (specs/Replaying.antt): what its refusals are, and what it leaves.
-- Assumes nothing.
use mathlib.Core.Path.{◌≡◌, refl, sym, ap, ◌∙◌}
use mathlib.Core.Bool.{Bool, true, false, cond, not}
use mathlib.Core.List.{List}
use Prim.Native.Nat.{ℕ, zero, suc, ◌≤◌, ◌<◌}
use native.Mathlib.Nat.{le_refl}
use native.Mathlib.Omega.{arith}
use borrow.Author.Tests.{ltb-false, lt-ltb, le-ltb, eqb-true, eq-eqb, ne_eqb, not-false}
use lib.Dec.{ltb}
use lib.IntN.{ℤ}
use lib.ListN.{length}
use Rattle.laws.specs.Each.{some}
use Rattle.laws.specs.Refusal.{refusal}
use Rattle.laws.specs.Reply.{answered, refused}
use Rattle.laws.specs.Sums.{sum}
use Rattle.laws.proofs.BetweenLaws.{within}
use Rattle.laws.proofs.EachLaws.{none_at}
use Rattle.laws.proofs.RefusalLaws.{numbered, none_left, passed, refused as refused_at, none_true, append_passed, append_refused, append_first}
use Rattle.laws.proofs.ReplyLaws.{lent_refused, lent_answered}
use Rattle.laws.proofs.Tests.{neither, neither_left, neither_right, holds_left, holds_right, not_holds, not_fails}
use Rattle.counts_rules.specs.Limit.{limit}
use Rattle.list_rules.specs.Limits.{max_entries}
use Rattle.list_rules.specs.Frequencies.{list_sentences, list_fault, entries_fault, sum_fault}
use Rattle.journal_rules.specs.Lines.{signed, entry_at, after_lines}
use Rattle.journal_rules.specs.Replaying.{max_lines, lines_fault, outside_fault, breaks, breaks_after, bound_fault, journal_sentences, replay_fault, after_all, replayed, replay_reply}
use Rattle.journal_rules.proofs.LinesLaws.{after_none, kept_signed, signed_kept}

-- 3 is the largest number of a list
pub list_number : (fs : List ℕ) → list_fault fs ≤ 3
unfolding refusal
list_number fs = go (entries_fault fs) (sum_fault fs)
  where
    go : (s t : Bool) → cond s 1 (cond t 3 0) ≤ 3
    go true t = omega arith
    go false true = omega arith
    go false false = omega arith

-- 3 is false
pub sum_within : (fs : List ℕ) → list_fault fs ≡ 0 → sum fs ≤ limit
unfolding numbered sum_fault
sum_within fs e = ltb-false limit (sum fs) (none_true (list_sentences fs) refl e).1.0

-- and so is 1
pub some_entry : (fs : List ℕ) → list_fault fs ≡ 0 → 0 < length fs
unfolding numbered entries_fault
some_entry fs e = (within 1 max_entries (length fs) (not-false _ (none_true (list_sentences fs) refl e).0)).least

-- the refusal of lines that 25 does not name, by the tests of 26 and 27
abbrev pub line_number : Bool → Bool → ℕ
line_number outside bound = cond outside 26 (cond bound 27 0)

module _ (fs es : List ℕ) (cs : List ℤ) where
  pub list_refused : (list_fault fs ≡ 0 → ⊥) → replay_fault fs es cs ≡ list_fault fs
  unfolding numbered
  list_refused h = append_refused (list_sentences fs) (journal_sentences fs es cs) refl h

  module _ (sound : list_fault fs ≡ 0) where
    after_list : replay_fault fs es cs ≡ refusal (journal_sentences fs es cs)
    unfolding numbered
    after_list = append_passed (list_sentences fs) (journal_sentences fs es cs) refl sound

    pub lines_refused : lines_fault es cs ≡ true → replay_fault fs es cs ≡ 25
    lines_refused t = after_list ∙ refused_at _ _ t

    module _ (lines : lines_fault es cs ≡ false) where
      pub outside_refused : outside_fault fs es ≡ true → replay_fault fs es cs ≡ 26
      outside_refused t = after_list ∙ passed _ _ lines ∙ refused_at _ _ t

      module _ (inside : outside_fault fs es ≡ false) where
        pub bound_refused : bound_fault fs es cs ≡ true → replay_fault fs es cs ≡ 27
        bound_refused t = after_list ∙ passed _ _ lines ∙ passed _ _ inside ∙ refused_at _ _ t

        pub none_refused : bound_fault fs es cs ≡ false → replay_fault fs es cs ≡ 0
        none_refused f = after_list ∙ passed _ _ lines ∙ passed _ _ inside ∙ passed _ _ f ∙ none_left

      pub by_lines : replay_fault fs es cs ≡ line_number (outside_fault fs es) (bound_fault fs es cs)
      unfolding refusal
      by_lines = after_list ∙ ap (λ (t : Bool). cond t 25 (line_number (outside_fault fs es) (bound_fault fs es cs))) lines

  -- after each line both bounds are kept, and before the first
  pub kept_after : list_fault fs ≡ 0 → bound_fault fs es cs ≡ false → (n : ℕ) → n ≤ length cs → breaks (after_lines (signed fs) es cs n) ≡ false
  unfolding bound_fault
  kept_after s f zero h = ap breaks (after_none (signed fs) es cs) ∙ signed_kept fs (sum_within fs s)
  kept_after s f (suc n) h = none_at (length cs) (breaks_after fs es cs) f n (omega arith)

  module _ (none : replay_fault fs es cs ≡ 0) where
    pub replay_sound : list_fault fs ≡ 0
    unfolding numbered
    replay_sound = append_first (list_sentences fs) (journal_sentences fs es cs) refl none

    faultless : (lines_fault es cs ≡ false) × (outside_fault fs es ≡ false) × (bound_fault fs es cs ≡ false)
    unfolding numbered
    faultless =
        let n = none_true (journal_sentences fs es cs) refl (sym (after_list replay_sound) ∙ none) in
        (n.0, n.1.0, n.1.1.0)

    pub replay_lines : lines_fault es cs ≡ false
    replay_lines = faultless.0

    pub replay_inside : outside_fault fs es ≡ false
    replay_inside = faultless.1

    pub replay_kept : bound_fault fs es cs ≡ false
    replay_kept = faultless.2

  pub replay_refused : (n : ℕ) → n ≡ replay_fault fs es cs → (n ≡ 0 → ⊥) → (refused n ≡ replay_reply fs es cs) × (fs ≡ replayed fs es cs)
  unfolding replay_reply replayed
  replay_refused n e z = lent_refused (replay_fault fs es cs) (sum (after_all fs es cs)) (after_all fs es cs) fs n e z

  pub replay_answered : replay_fault fs es cs ≡ 0 → (answered (sum (after_all fs es cs)) ≡ replay_reply fs es cs) × (after_all fs es cs ≡ replayed fs es cs)
  unfolding replay_reply replayed
  replay_answered e = lent_answered (replay_fault fs es cs) (sum (after_all fs es cs)) (after_all fs es cs) fs e

  -- the list afterwards, with sign, is what the lines made of the list
  pub last_signed : replay_fault fs es cs ≡ 0 → signed (replayed fs es cs) ≡ after_lines (signed fs) es cs (length cs)
  last_signed none =
      ap signed (sym (replay_answered none).1)
      ∙ kept_signed (after_lines (signed fs) es cs (length cs)) (kept_after (replay_sound none) (replay_kept none) (length cs) (le_refl (length cs)))

-- ---- 25

pub many_lines : (es : List ℕ) (cs : List ℤ) → max_lines < length es → lines_fault es cs ≡ true
unfolding lines_fault
many_lines es cs h = holds_left (ltb max_lines (length es)) _ (lt-ltb max_lines (length es) h)

pub unequal_lines : (es : List ℕ) (cs : List ℤ) → (length es ≡ length cs → ⊥) → lines_fault es cs ≡ true
unfolding lines_fault
unequal_lines es cs h = holds_right (ltb max_lines (length es)) _ (not_holds _ (ne_eqb (length es) (length cs) h))

pub paired_lines : (es : List ℕ) (cs : List ℤ) → length es ≤ max_lines → length es ≡ length cs → lines_fault es cs ≡ false
unfolding lines_fault
paired_lines es cs h e = neither (ltb max_lines (length es)) _ (le-ltb max_lines (length es) h) (not_fails _ (eq-eqb (length es) (length cs) e))

pub same_lines : (es : List ℕ) (cs : List ℤ) → lines_fault es cs ≡ false → length es ≡ length cs
unfolding lines_fault
same_lines es cs f = eqb-true (length es) (length cs) (not-false _ (neither_right (ltb max_lines (length es)) _ f))

pub few_lines : (es : List ℕ) (cs : List ℤ) → lines_fault es cs ≡ false → length es ≤ max_lines
unfolding lines_fault
few_lines es cs f = ltb-false max_lines (length es) (neither_left (ltb max_lines (length es)) _ f)

-- ---- 26

-- it goes by the length of the list alone
pub outside_same : (fs gs es : List ℕ) → length gs ≡ length fs → outside_fault gs es ≡ outside_fault fs es
unfolding outside_fault
outside_same fs gs es e = ap (λ (n : ℕ). some (length es) (λ i. not (ltb (entry_at es i) n))) e
