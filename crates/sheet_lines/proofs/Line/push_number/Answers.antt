-- `sheet_lines::Line::push_number` meets its contract: the digits are put after the bytes that stand there.
-- Assumes nothing.
use Rattle.std.proofs.Common.{arith}
use Rattle.sheet_lines.proofs.HeldLaws.{ends, number_held, number_put, number_short}
use Rattle.sheet_lines.proofs.Line.push_number.Goals as goal

pub overflow_add-end : goal.overflow_add-end
overflow_add-end c = omega (arith, ends _ _ _ _ c.args.n c.self.invariant c.self.told c.self.view_is c.requires (omega arith) c.digit_count.ensures)

pub slice_bounds-put_digits-end : goal.slice_bounds-put_digits-end
slice_bounds-put_digits-end c = ends _ _ _ _ c.args.n c.self.invariant c.self.told c.self.view_is c.requires (omega arith) c.digit_count.ensures

pub invariant_of-self : goal.invariant_of-self
invariant_of-self c =
    number_held _ _ _ _ c.args.n c.self.invariant c.self.told c.self.view_is c.requires (omega arith) c.digit_count.ensures _ c.put_digits.ensures

pub returns : goal.returns
returns c =
    record {
      text = number_put _ _ _ _ c.args.n c.self.invariant c.self.told c.self.view_is c.requires (omega arith) c.digit_count.ensures _ c.put_digits.ensures;
      short = number_short _ _ _ _ c.args.n c.self.invariant c.self.told c.self.view_is c.requires (omega arith) c.digit_count.ensures _ c.put_digits.ensures;
    }
