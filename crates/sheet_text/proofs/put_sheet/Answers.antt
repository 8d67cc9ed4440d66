-- `sheet_text::put_sheet` meets its contract: what is put is the sheet. Assumes nothing.
use Rattle.std.proofs.Common.{rules, arith, ◌≡◌, ◌∙◌, ap, ℕ, List}
use Rattle.sheet_rules.specs.Lines.{refused_line}
use Rattle.sheet_rules.specs.Sheet.{sheet, filled}
use Rattle.sheet_text.proofs.ListLaws.{put_filled, turned_filled}
use Rattle.sheet_text.proofs.put_sheet.Goals as goal

pub returns-in-Ok-clause-out_after : goal.returns-in-Ok-clause-out_after
returns-in-Ok-clause-out_after c =
    let all : c.put_input.new.sheet.out.now ≡ filled c.args.out.now (sheet c.args.input.now) =
    put_filled _ c.in-Ok.ensures.outcome.text ∙ ap (λ (l : List ℕ). filled l (sheet c.args.input.now)) c.new-sheet.ensures.same_bytes in
    search (rules, all)

pub returns-in-Err-clause-out_after : goal.returns-in-Err-clause-out_after
returns-in-Err-clause-out_after c =
    let all : c.put.new.self.out.now ≡ filled c.args.out.now (sheet c.args.input.now) =
    turned_filled c.args.input.now c.args.out.now _ _ _ _ _ _ _ c.new-sheet.ensures.same_bytes c.in-Err.ensures.outcome c.put.ensures.text
    (c.refused_line.ensures ∙ ap refused_line c.number.ensures) in
    search (rules, all)
