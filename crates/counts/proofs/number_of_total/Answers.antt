-- `counts::number_of_total` meets its contract. The fields are taken out by a shift and a mask, and the number is put together from them.
-- Assumes nothing.
use mathlib.Core.Path.{◌≡◌, sym}
use mathlib.Core.Bool.{true}
use Prim.Native.Nat.{ℕ, ◌/◌}
use native.Mathlib.Omega.{arith}
use lib.Bits.{bit_and, and_mask, and_comm}
use Rattle.counts_rules.specs.Total.{code_bits, code_shift, valid_code}
use Rattle.counts_rules.proofs.TotalLaws.{valid_says}
use Rattle.counts.proofs.CountLaws.{total_meant, number_packed}
use Rattle.counts.proofs.number_of_total.Goals as goal

shift_is : (n : ℕ) → bit_and n 31 ≡ code_shift n
shift_is n = omega (arith, and_mask n 5, and_comm n 31)

pub middle_of-requires : goal.middle_of-requires
middle_of-requires c =
    let n = c.args.code in
    let t : true ≡ valid_code n = cc in
    omega (arith, shift_is n, (valid_says (code_bits n) (code_shift n) (sym t)).shift_top)

pub returns : goal.returns
returns c =
    let n = c.args.code in
    let t : true ≡ valid_code n = cc in
    total_meant n _ t (number_packed n (n / 32) _ _ _ c.middle_of.ensures (omega (arith, shift_is n)) (omega arith) (omega (arith, shift_is n)) (sym t))
