-- `journal::lines::replay_line` meets its contract: where the frequency or the sum comes to no count the line breaks a bound, and else it keeps both.
-- Assumes nothing.
use Rattle.std.proofs.Common.{◌∙◌, ap, ℕ, ℤ, get_or}
use mir.Facts.{to_z-of_z}
use Rattle.journal.specs.Private.Changing.{changed_by}
use Rattle.journal.proofs.LineLaws.{line_broken, frequency_broken, sum_broken, both_within}
use Rattle.journal.proofs.lines.replay_line.Goals as goal

pub returns-in_err-frequency : goal.returns-in_err-frequency
returns-in_err-frequency c =
    let fs = c.args.freqs.now in
    let b = line_broken fs c.args.entry c.args.change (frequency_broken fs c.args.entry c.args.change c.requires.0
    (c.in_err-frequency.ensures ∙ ap (λ (z : ℤ). changed_by (get_or fs c.args.entry 0) z) (to_z-of_z c.ranges.change))) in
    record { value = c.from_residual.ensures ∙ b.0; freqs_after = b.1 }

pub returns-in_err-new : goal.returns-in_err-new
returns-in_err-new c =
    let fs = c.args.freqs.now in
    let b = line_broken fs c.args.entry c.args.change
    (sum_broken fs c.args.entry c.args.change c.requires.0 c.in_ok-frequency.frequency
    (c.in_ok-frequency.ensures ∙ ap (λ (z : ℤ). changed_by (get_or fs c.args.entry 0) z) (to_z-of_z c.ranges.change))
    (c.in_err-new.ensures ∙ ap (λ (z : ℤ). changed_by c.args.old z) (to_z-of_z c.ranges.change)
    ∙ ap (λ (n : ℕ). changed_by n c.args.change) c.requires.1)) in
    record { value = c.from_residual-in_err-new.ensures ∙ b.0; freqs_after = b.1 }

pub returns : goal.returns
returns c =
    let fs = c.args.freqs.now in
    let b = both_within fs c.args.entry c.args.change c.requires.0 c.in_ok-frequency.frequency c.in_ok-new.new
    (c.in_ok-frequency.ensures ∙ ap (λ (z : ℤ). changed_by (get_or fs c.args.entry 0) z) (to_z-of_z c.ranges.change))
    (c.in_ok-new.ensures ∙ ap (λ (z : ℤ). changed_by c.args.old z) (to_z-of_z c.ranges.change)
    ∙ ap (λ (n : ℕ). changed_by n c.args.change) c.requires.1) in
    record { value = b.0; freqs_after = b.1 }
