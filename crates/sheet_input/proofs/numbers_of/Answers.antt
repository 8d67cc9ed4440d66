-- `sheet_input::numbers_of` meets its contract: the numbers in hand and those of the bytes that are left are the numbers of all.
-- Assumes nothing.
use Rattle.std.proofs.Common.{arith, rules}
use Rattle.sheet_input.proofs.ReadLaws.{reading_none, reading_more}
use Rattle.sheet_input.proofs.numbers_of.Goals as goal

pub loop-rest-init : goal.loop-rest-init
loop-rest-init c = reading_none c.args.input.now

pub loop-rest-preserved : goal.loop-rest-preserved
loop-rest-preserved c =
    let l = c.loop-rest in
    reading_more c.args.input.now l.values l.count l.rest.now c.in_ok-value.value c.in_ok-value.next.now l.invariant (omega (arith, l.invariant.begun.many)) (search rules)
