-- `sheet_text::put_input` meets its contract: the builder has room for the longest histogram, so that it refuses only what the definition does. Assumes
-- nothing.
use Rattle.std.proofs.Common.{rules, refl, sym, ap, ◌≡◌, ◌∙◌, ◌≤◌, ℕ, length, take}
use Rattle.std.proofs.Math.Seq.{length-take-le}
use mathlib.Core.Path.{subst, subst⁻¹}
use Rattle.sheet_rules.specs.Limits.{max_sheet_words}
use Rattle.sheet_rules.specs.Sheet.{histogram_sheet}
use Rattle.sheet_rules.specs.Private.Room.{Roomy}
use Rattle.sheet_text.specs.Private.Printing.{Put, Outcome}
use Rattle.sheet_text.proofs.ListLaws.{turned_by, turned_input, turned_list, done_list, count_room, words_are, words_room}
use Rattle.sheet_text.proofs.put_input.Goals as goal

pub returns-in_err-numbers-clause-outcome : goal.returns-in_err-numbers-clause-outcome
returns-in_err-numbers-clause-outcome c =
    turned_by _ _ _ _ c.from_residual.result c.from_residual.ensures.1
    (turned_input c.args.input.now c.args.sheet.now.out.now c.args.sheet.now.at _ c.requires c.in_err-numbers.ensures)

pub returns-in_err-n-clause-outcome : goal.returns-in_err-n-clause-outcome
returns-in_err-n-clause-outcome c =
    turned_by _ _ _ _ c.from_residual-in_err-n.result c.from_residual-in_err-n.ensures.1
    (turned_list c.args.input.now _ _ _ _ _ c.in_ok-numbers.ensures c.frequencies.ensures.list c.theta.ensures c.qn.ensures c.qd.ensures c.frequencies.ensures.few
    c.args.sheet.now.out.now c.args.sheet.now.at _ c.requires c.in_err-n.ensures.reply)

pub slice_bounds-words-end : goal.slice_bounds-words-end
slice_bounds-words-end c =
    let all : length c.build.new.out ≡ max_sheet_words = search rules in
    subst⁻¹ (λ (m : ℕ). c.in_ok-n.n ≤ m) all (count_room _ _ _ _ c.frequencies.ensures.few _ c.in_ok-n.ensures.reply)

pub slice_bounds-put_histogram-end : goal.slice_bounds-put_histogram-end
slice_bounds-put_histogram-end c =
    let all : length c.build.new.out ≡ max_sheet_words = search rules in
    let room = count_room _ _ _ _ c.frequencies.ensures.few _ c.in_ok-n.ensures.reply in
    sym (length-take-le _ c.build.new.out (subst⁻¹ (λ (m : ℕ). c.in_ok-n.n ≤ m) all room))

pub put_histogram-requires : goal.put_histogram-requires
put_histogram-requires c =
    let e = c.in_ok-n.ensures in (
      subst⁻¹ Roomy (words_are _ _ _ _ c.frequencies.ensures.few _ e.reply _ _ refl e.out_after) (words_room _ _ _ _ c.frequencies.ensures.few _ e.reply),
      c.requires,
    )

pub returns-clause-outcome : goal.returns-clause-outcome
returns-clause-outcome c =
    let e = c.in_ok-n.ensures in
    let h = c.put_histogram in
    let put : Put c.args.sheet.now.out.now h.new.self.out.now 0 h.new.self.at (histogram_sheet (take c.in_ok-n.n c.build.new.out)) =
    subst (λ (k : ℕ). Put c.args.sheet.now.out.now h.new.self.out.now k h.new.self.at (histogram_sheet (take c.in_ok-n.n c.build.new.out))) c.requires h.ensures.text in
    done_list c.args.input.now _ _ _ _ _ c.in_ok-numbers.ensures c.frequencies.ensures.list c.theta.ensures c.qn.ensures c.qd.ensures c.frequencies.ensures.few
    c.args.sheet.now.out.now h.new.self.out.now _ c.build.new.out _ h.new.self.at e.reply refl e.out_after put
