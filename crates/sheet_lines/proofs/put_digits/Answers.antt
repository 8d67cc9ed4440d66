-- `sheet_lines::put_digits` meets its contract: the digits from i on are put, and those before it are the digits of what is left.
-- Assumes nothing.
use Rattle.std.proofs.Common.{arith, rules, ◌∙◌}
use Rattle.sheet_lines.proofs.DigitLaws.{digit_put, all_put}
use Rattle.sheet_lines.proofs.put_digits.Goals as goal

pub loop-i-preserved : goal.loop-i-preserved
loop-i-preserved c =
    let l = c.loop-i in
    (search rules, digit_put l.i l.rest l.places (omega arith) (omega arith) ∙ l.invariant.1)

pub returns : goal.returns
returns c =
    let l = c.loop-i in
    all_put l.i l.rest l.places (omega arith) ∙ l.invariant.1
