-- `counts::code_of_total` meets its contract: the bits of a total that can be coded go above the shift.
-- Assumes nothing.
use mathlib.Core.Path.{◌≡◌, sym, ◌∙◌}
use mathlib.Core.Bool.{true}
use Prim.Native.Nat.{ℕ, ◌*◌, ◌/◌, ◌%◌, ◌^◌, ◌≤◌}
use native.Mathlib.Omega.{arith}
use borrow.Author.Tests.{leb-true}
use lib.Bits.{bit_or, or_comm}
use Rattle.counts_rules.specs.Limit.{limit, countable}
use Rattle.counts_rules.specs.Total.{total_code, shift}
use Rattle.counts_rules.proofs.TotalLaws.{shift_small}
use Rattle.counts.proofs.CountLaws.{total_answered, code_packed, bits_shifted}
use Rattle.counts.proofs.code_of_total.Goals as goal

small : (t : ℕ) → true ≡ countable t → t ≤ limit
small t e = leb-true t limit (sym e)

-- the bits above the shift, put together in either order
module _ (t s : ℕ) (h : true ≡ countable t) (e : s ≡ shift t) where
  abbrev high : ℕ
  high = t / 2 ^ s * 32 % 2 ^ 32

  packed : bit_or high s ≡ total_code t
  packed = code_packed t s high (small t h) e (omega (arith, bits_shifted t s e))

  exchanged : bit_or s high ≡ total_code t
  exchanged = or_comm s high ∙ packed

-- the shift is small enough to be shifted by
pub overflow_shr-bits : goal.overflow_shr-bits
overflow_shr-bits c =
    let t : true ≡ countable c.args.total = cc in
    omega (arith, c.shift_of-shift.ensures, shift_small c.args.total (small _ t))

pub returns : goal.returns
returns c =
    let n = c.args.total in
    let s = c.shift_of-shift in
    let t : true ≡ countable n = cc in
    total_answered n _ t (omega (arith, packed n s.result t s.ensures, exchanged n s.result t s.ensures))
