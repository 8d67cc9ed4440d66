-- `journal::replay_over` meets its contract: the copy holds what the list does, so that what its replay says is said of the list, and the list is
-- changed only where no line broke a bound.
-- Assumes nothing.
use Rattle.std.proofs.Common.{arith, rules, sym, ap, ◌≡◌, ◌∙◌, List, ℕ, ℤ}
use mathlib.Core.Path.{subst}
use Rattle.laws.specs.Sums.{sum}
use Rattle.journal_rules.specs.Replaying.{outside_fault, after_all}
use Rattle.std.specs.Prelude.{None, Some}
use Rattle.journal.specs.Private.Testing.{Tested}
use Rattle.journal.specs.Private.Changing.{lines_changed, LinesLeft, ElseSame}
use Rattle.journal.proofs.ListLaws.{but_for_lines}
use Rattle.journal.proofs.TestedLaws.{tested_inside, tested_paired, tested_sum, replay_broken, replay_bound, replay_done}
use Rattle.journal.proofs.replay_over.Goals as goal

-- what the replay over the copy says is said of the list: where it answers a sum, no line broke a bound
module _ (fs es copy left : List ℕ) (cs : List ℤ) (n : ℕ) (same : copy ≡ fs) (t : Tested fs es cs) (p : Some n ≡ lines_changed copy es cs)
    (l : LinesLeft copy es cs left) where
  to_all : Some n ≡ lines_changed fs es cs
  to_all = p ∙ ap (λ (c : List ℕ). lines_changed c es cs) same

  changed : left ≡ after_all fs es cs
  changed =
      let of_list = subst (λ (c : List ℕ). LinesLeft c es cs left) same l in
      of_list.unbroken (replay_bound fs es cs t n to_all)

pub sum_of-sum-requires : goal.sum_of-sum-requires
sum_of-sum-requires c = tested_sum c.args.freqs.now c.args.entries.now c.args.changes.now c.requires.0

pub replay_lines-requires : goal.replay_lines-requires
replay_lines-requires c =
    let fs = c.args.freqs.now in
    let es = c.args.entries.now in
    let cs = c.args.changes.now in
    let same = c.copy_from_slice.ensures.after in (
      record {
        paired = tested_paired fs es cs c.requires.0;
        inside = ap (λ (l : List ℕ). outside_fault l es) same ∙ tested_inside fs es cs c.requires.0;
      },
      c.sum_of-sum.ensures ∙ ap sum (sym same),
    )

pub returns-in_err-moved : goal.returns-in_err-moved
returns-in_err-moved c =
    let es = c.args.entries.now in
    let cs = c.args.changes.now in
    let none : c.replay_lines.result ≡ None = grind arith in
    let b = replay_broken c.args.freqs.now es cs c.requires.0
    (sym none ∙ c.replay_lines.ensures.value ∙ ap (λ (l : List ℕ). lines_changed l es cs) c.copy_from_slice.ensures.after) in
    record { reply = search (rules, b.0); freqs_after = b.1 }

pub put_changed-requires : goal.put_changed-requires
put_changed-requires c =
    let fs = c.args.freqs.now in
    let es = c.args.entries.now in
    let cs = c.args.changes.now in
    let some : c.replay_lines.result ≡ Some c.in_ok-moved.moved = grind arith in
    subst (λ (l : List ℕ). ElseSame l es fs 0)
    (sym (changed fs es _ _ cs c.in_ok-moved.moved c.copy_from_slice.ensures.after c.requires.0 (sym some ∙ c.replay_lines.ensures.value) c.replay_lines.ensures.lines_left))
    (but_for_lines fs es cs (tested_inside fs es cs c.requires.0) (tested_paired fs es cs c.requires.0))

pub returns : goal.returns
returns c =
    let fs = c.args.freqs.now in
    let es = c.args.entries.now in
    let cs = c.args.changes.now in
    let some : c.replay_lines.result ≡ Some c.in_ok-moved.moved = grind arith in
    let same = c.copy_from_slice.ensures.after in
    let d = replay_done fs es cs c.requires.0 c.in_ok-moved.moved
    (to_all fs es _ _ cs c.in_ok-moved.moved same c.requires.0 (sym some ∙ c.replay_lines.ensures.value) c.replay_lines.ensures.lines_left) in
    record {
      reply = d.0;
      freqs_after =
          c.put_changed.ensures
          ∙ changed fs es _ _ cs c.in_ok-moved.moved same c.requires.0 (sym some ∙ c.replay_lines.ensures.value) c.replay_lines.ensures.lines_left
          ∙ d.1;
    }
