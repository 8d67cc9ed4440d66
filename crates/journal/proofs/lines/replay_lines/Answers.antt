-- `journal::lines::replay_lines` meets its contract. At the loop the lines before i have been replayed, and each kept both bounds.
-- Assumes nothing.
use Rattle.std.proofs.Common.{arith, ◌∙◌, ap, ℤ}
use Rattle.journal_rules.proofs.LinesLaws.{inside_at}
use Rattle.journal.proofs.LoopLaws.{none_replayed, still_long, one_replayed, replaying_broken, lines_broken, all_replayed}
use mir.Val.{SFits}
use mir.Syntax.{w32}
use Rattle.journal_rules.specs.Lines.{entry_at, change_at}
use Rattle.journal.specs.Private.Changing.{line_changed, line_left}
use mir.Facts.{to_z-of_z}
use Rattle.journal.proofs.lines.replay_lines.Goals as goal

pub loop-i-init : goal.loop-i-init
loop-i-init c = none_replayed c.args.freqs.now c.args.entries.now c.args.changes.now c.args.old c.requires.1

pub replay_line-requires : goal.replay_line-requires
replay_line-requires c =
    let l = c.loop-i in
    let fs = c.args.freqs.now in
    let es = c.args.entries.now in (
      omega (arith, inside_at fs es c.requires.0.inside l.i (omega arith), still_long fs es c.args.changes.now l.freqs l.sum l.i l.invariant),
      l.invariant.summed,
    )

pub returns-in_err-sum : goal.returns-in_err-sum
returns-in_err-sum c =
    let h : SFits w32 (change_at c.args.changes.now c.loop-i.i) = assumption in
    let l = c.loop-i in
    let b = lines_broken c.args.freqs.now c.args.entries.now c.args.changes.now c.replay_line.new.freqs
    (replaying_broken c.args.freqs.now c.args.entries.now c.args.changes.now l.freqs l.sum l.i l.invariant (omega (arith, c.requires.0.paired))
    (c.in_err-sum.ensures.value ∙ ap (λ (z : ℤ). line_changed l.freqs (entry_at c.args.entries.now l.i) z) (to_z-of_z h))) in
    record { value = c.from_residual.ensures ∙ b.0; lines_left = b.1 }

pub loop-i-preserved : goal.loop-i-preserved
loop-i-preserved c =
    let l = c.loop-i in
    let h : SFits w32 (change_at c.args.changes.now c.loop-i.i) = assumption in
    one_replayed c.args.freqs.now c.args.entries.now c.args.changes.now l.freqs l.sum l.i l.invariant (omega (arith, c.requires.0.paired)) _ _
    (c.in_ok-sum.ensures.value ∙ ap (λ (z : ℤ). line_changed l.freqs (entry_at c.args.entries.now l.i) z) (to_z-of_z h))
    (c.in_ok-sum.ensures.freqs_after ∙ ap (λ (z : ℤ). line_left l.freqs (entry_at c.args.entries.now l.i) z) (to_z-of_z h))

pub returns : goal.returns
returns c =
    let l = c.loop-i in
    let b = all_replayed c.args.freqs.now c.args.entries.now c.args.changes.now l.freqs l.sum l.i l.invariant (omega (arith, c.requires.0.paired)) in
    record { value = b.0; lines_left = b.1 }
