-- Laws of the call as it is made: 1, 3, 25 and 26 are tested first (specs/Private/Testing.antt), and what the replay over the copy says decides 27.
-- Assumes nothing.
use mathlib.Core.Path.{◌≡◌, refl, sym, ap, ◌∙◌}
use mathlib.Core.Bool.{false}
use mathlib.Core.List.{List}
use Prim.Native.Nat.{ℕ, ◌≤◌}
use native.Mathlib.Omega.{arith}
use borrow.Author.Tests.{not-false}
use lib.IntN.{ℤ}
use lib.ListN.{length, drop}
use Rattle.laws.specs.Refusal.{refusal}
use Rattle.laws.specs.Reply.{answered, refused}
use Rattle.laws.specs.Sums.{sum}
use Rattle.laws.proofs.BetweenLaws.{within}
use Rattle.laws.proofs.RefusalLaws.{numbered, none_true, append_first, append_refused}
use Rattle.counts_rules.specs.Limit.{limit}
use Rattle.list_rules.specs.Limits.{max_entries}
use Rattle.list_rules.specs.Frequencies.{entries_fault, list_sentences, list_fault}
use Rattle.journal_rules.specs.Replaying.{lines_fault, outside_fault, bound_fault, journal_sentences, replay_fault, after_all, replayed, replay_reply}
use Rattle.journal_rules.proofs.ReplayLaws.{sum_within, bound_refused, none_refused, replay_refused, replay_answered, same_lines}
use Rattle.refusals.specs.declared.Refusal.{Refusal}
use Rattle.refusals.specs.Numbers.{number_of}
use Rattle.refusals.proofs.NumberLaws as numbers
use Rattle.std.specs.Prelude.{None, Some}
use Rattle.journal.specs.Private.Testing.{earlier_sentences, Tested}
use Rattle.journal.specs.Private.Changing.{lines_changed}
use Rattle.journal.proofs.CountLaws.{count_answered, broken_answered}

module _ (fs es : List ℕ) (cs : List ℤ) where
  -- 27 is not looked at
  pub earlier_refused : (refusal (earlier_sentences fs es cs) ≡ 0 → ⊥) → replay_fault fs es cs ≡ refusal (earlier_sentences fs es cs)
  unfolding numbered
  earlier_refused h = append_refused (earlier_sentences fs es cs) (drop 2 (journal_sentences fs es cs)) refl h

  -- the list's own sentences come first
  pub list_refused : (e : Refusal) → number_of e ≡ list_fault fs → number_of e ≡ refusal (earlier_sentences fs es cs)
  unfolding numbered
  list_refused e p =
      p ∙ sym (append_refused (list_sentences fs) (drop 2 (earlier_sentences fs es cs)) refl (λ z. omega (arith, numbers.numbered e, p, z)))

  -- where one of those before 27 is true, that is the refusal, and the list stays
  module _ (e : Refusal) (p : number_of e ≡ refusal (earlier_sentences fs es cs)) where
    earlier : (refused (number_of e) ≡ replay_reply fs es cs) × (fs ≡ replayed fs es cs)
    earlier =
        let z : number_of e ≡ 0 → ⊥ = λ q. omega (arith, numbers.numbered e, q) in
        replay_refused fs es cs (number_of e) (p ∙ sym (earlier_refused (λ q. z (p ∙ q)))) z

    pub refused_reply : refused (number_of e) ≡ replay_reply fs es cs
    refused_reply = earlier.0

    pub refused_list : fs ≡ replayed fs es cs
    refused_list = earlier.1

  module _ (tested : Tested fs es cs) where
    pub tested_list : list_fault fs ≡ 0
    unfolding numbered
    tested_list = append_first (list_sentences fs) (drop 2 (earlier_sentences fs es cs)) refl tested

    lines_and_entries : (lines_fault es cs ≡ false) × (outside_fault fs es ≡ false)
    unfolding numbered
    lines_and_entries = let n = none_true (earlier_sentences fs es cs) refl tested in (n.1.1.0, n.1.1.1.0)

    pub tested_inside : outside_fault fs es ≡ false
    tested_inside = lines_and_entries.1

    pub tested_paired : length es ≡ length cs
    tested_paired = same_lines es cs lines_and_entries.0

    pub tested_sum : sum fs ≤ limit
    tested_sum = sum_within fs tested_list

    pub tested_room : length fs ≤ max_entries
    unfolding numbered entries_fault
    tested_room = (within 1 max_entries (length fs) (not-false _ (none_true (earlier_sentences fs es cs) refl tested).0)).most

    pub replay_broken : None ≡ lines_changed fs es cs → (refused 27 ≡ replay_reply fs es cs) × (fs ≡ replayed fs es cs)
    unfolding lines_changed
    replay_broken p =
        let t = broken_answered (bound_fault fs es cs) (sum (after_all fs es cs)) p in
        replay_refused fs es cs 27 (sym (bound_refused fs es cs tested_list lines_and_entries.0 tested_inside t)) (λ z. omega arith)

    module _ (n : ℕ) (p : Some n ≡ lines_changed fs es cs) where
      kept_and_sum : (bound_fault fs es cs ≡ false) × (n ≡ sum (after_all fs es cs))
      unfolding lines_changed
      kept_and_sum = count_answered (bound_fault fs es cs) (sum (after_all fs es cs)) n p

      pub replay_bound : bound_fault fs es cs ≡ false
      replay_bound = kept_and_sum.0

      pub replay_done : (answered n ≡ replay_reply fs es cs) × (after_all fs es cs ≡ replayed fs es cs)
      replay_done =
          let r = replay_answered fs es cs (none_refused fs es cs tested_list lines_and_entries.0 tested_inside replay_bound) in
          (ap answered kept_and_sum.1 ∙ r.0, r.1)
