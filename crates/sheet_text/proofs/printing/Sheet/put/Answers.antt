-- `sheet_text::printing::Sheet::put` meets its contract. Assumes nothing.
use Rattle.std.proofs.Common.{arith, rules, ap, ◌≡◌, ◌∙◌, length}
use Rattle.sheet_rules.specs.Limits.{sheet_bytes}
use Rattle.sheet_text.proofs.PrintLaws.{put_part}
use Rattle.sheet_text.proofs.printing.Sheet.put.Goals as goal

pub returns-clause-text : goal.returns-clause-text
returns-clause-text c =
    let all : length c.args.self.now.out.now ≡ sheet_bytes = search rules in
    let text : c.copy_from_slice.new.self ≡ c.args.line = c.copy_from_slice.ensures.after ∙ c.as_bytes-bytes.ensures.bytes in
    let long = ap length c.as_bytes-bytes.ensures.bytes in
    record {
      bytes = rw text (put_part c.args.self.now.out.now c.args.line c.args.self.now.at _ long (omega (arith, all, long, c.requires)));
      ends = omega (arith, long);
    }
