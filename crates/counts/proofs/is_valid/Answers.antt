-- `counts::is_valid` meets its contract. Each answer is true exactly of the fields of a valid code.
-- Assumes nothing.
use mathlib.Core.Logic.{⊎_elim}
use native.Mathlib.Nat.{eq-zero-or-pos}
use native.Mathlib.Omega.{arith}
use borrow.Author.Tests.{leb-true, le-leb}
use Rattle.counts.proofs.CountLaws.{least_is, valid_by}
use Rattle.counts.proofs.is_valid.Goals as goal

pub returns : goal.returns
returns c =
    let l = least_is c.args.shift c.least_bits.result c.least_bits.ensures in
    valid_by _ _ _
    (λ t. let h = leb-true c.least_bits.result c.args.bits t in
    record { bits_top = omega arith; shift_top = omega arith; bits_low = λ s. omega (arith, h, l.1 s) })
    (λ v. le-leb c.least_bits.result c.args.bits (⊎_elim (λ z. omega (arith, l.2 z)) (λ s. omega (arith, l.0, v.bits_low s)) (eq-zero-or-pos c.args.shift)))
