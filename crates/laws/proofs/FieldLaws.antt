-- Laws of bit fields (specs/Field.antt) and of the shifts, masks and `|` that take them out of a word and put them into one. Fields that
-- share no bit are joined by `|` as by `+`.
-- Assumes nothing.
use mathlib.Core.Path.{◌≡◌, refl, sym, ap, ◌∙◌}
use Prim.Native.Nat.{ℕ, ◌+◌, ◌-◌, ◌*◌, ◌/◌, ◌%◌, ◌^◌, ◌≤◌, ◌<◌}
use native.Mathlib.Nat.{add-zero, div-add-mod', mod-lt, mod-eq_of_lt, mul-mod_left, add-mul-mod_self_right, zero-mod, mul-lt-mul_of_pos_right, lt_of_lt_of_le}
use native.Mathlib.Omega.{arith}
use lib.Bits.{bit_and, bit_or, and_mask, or_shifted}
use lib.Pow.{pow-add, pow_pos, pow-lt, pow_mono, mod-pow-add, mod-mod-pow}
use Rattle.laws.specs.Field.{field, put}

-- 2^n, as a shift makes it
shifted_one : (n : ℕ) → n < 32 → 1 * 2 ^ n % 2 ^ 32 ≡ 2 ^ n
shifted_one n h = let e : 1 * 2 ^ n ≡ 2 ^ n = omega arith in rw e (mod-eq_of_lt (pow-lt h))

pub shifted_pos : (n : ℕ) → n < 32 → 1 ≤ 1 * 2 ^ n % 2 ^ 32
shifted_pos n h = rw (shifted_one n h) (pow_pos n)

-- a field taken out by a shift and a mask
pub field_masked : (w hi lo : ℕ) → lo ≤ hi → hi < 31 → bit_and (w / 2 ^ lo) (1 * 2 ^ (hi + 1 - lo) % 2 ^ 32 - 1) ≡ field w hi lo
field_masked w hi lo h g =
    ap (λ (m : ℕ). bit_and (w / 2 ^ lo) (m - 1)) (shifted_one (hi + 1 - lo) (omega arith)) ∙ and_mask (w / 2 ^ lo) (hi + 1 - lo)

or_add : (x k b : ℕ) → x % 2 ^ k ≡ 0 → b < 2 ^ k → bit_or x b ≡ x + b
or_add x k b m h =
    let e : x / 2 ^ k * 2 ^ k ≡ x = sym (add-zero _) ∙ ap (λ (r : ℕ). x / 2 ^ k * 2 ^ k + r) (sym m) ∙ div-add-mod' x (2 ^ k) in
    ap (λ (y : ℕ). bit_or y b) (sym e) ∙ or_shifted (x / 2 ^ k) k b h ∙ ap (λ (y : ℕ). y + b) e

put_lt : (v hi lo : ℕ) → lo ≤ hi → put v hi lo < 2 ^ (hi + 1)
put_lt v hi lo h =
    let e : hi + 1 ≡ hi + 1 - lo + lo = omega arith in
    let l : v % 2 ^ (hi + 1 - lo) * 2 ^ lo < 2 ^ (hi + 1 - lo) * 2 ^ lo = mul-lt-mul_of_pos_right (mod-lt v (pow_pos (hi + 1 - lo))) (pow_pos lo) in
    let f : 2 ^ (hi + 1) ≡ 2 ^ (hi + 1 - lo) * 2 ^ lo = ap (λ (n : ℕ). 2 ^ n) e ∙ pow-add 2 (hi + 1 - lo) lo in
    rw f l

-- a field made by a mask and a shift
pub put_masked : (v hi lo : ℕ) → lo ≤ hi → hi < 31 → bit_and v (1 * 2 ^ (hi + 1 - lo) % 2 ^ 32 - 1) * 2 ^ lo % 2 ^ 32 ≡ put v hi lo
put_masked v hi lo h g =
    let m : bit_and v (1 * 2 ^ (hi + 1 - lo) % 2 ^ 32 - 1) ≡ v % 2 ^ (hi + 1 - lo) =
    ap (λ (m : ℕ). bit_and v (m - 1)) (shifted_one (hi + 1 - lo) (omega arith)) ∙ and_mask v (hi + 1 - lo) in
    let l : hi + 1 ≤ 32 = omega arith in
    ap (λ (x : ℕ). x * 2 ^ lo % 2 ^ 32) m ∙ mod-eq_of_lt (lt_of_lt_of_le (put_lt v hi lo h) (pow_mono l))

clear_below : (y k j : ℕ) → j ≤ k → y % 2 ^ k ≡ 0 → y % 2 ^ j ≡ 0
clear_below y k j h m =
    let e : k - j + j ≡ k = omega arith in
    sym (mod-mod-pow y (k - j) j) ∙ ap (λ (n : ℕ). y % 2 ^ n % 2 ^ j) e ∙ ap (λ (r : ℕ). r % 2 ^ j) m ∙ zero-mod (2 ^ j)

-- x is y, whose bits below k are 0
pub record Packed (x y k : ℕ) : Type 0 where
  pub is : x ≡ y
  pub clear : y % 2 ^ k ≡ 0

-- a kind alone
pub of_kind_lem : (a k : ℕ) → k ≤ 30 → Packed (a * 2 ^ 30) (a * 2 ^ 30) k
of_kind_lem a k h = record { is = refl; clear = clear_below (a * 2 ^ 30) 30 k h (mul-mod_left a (2 ^ 30)) }

-- or a field alone
pub alone : {p : ℕ} (v hi lo : ℕ) → p ≡ put v hi lo → Packed p (put v hi lo) lo
alone v hi lo e = record { is = e; clear = mul-mod_left (v % 2 ^ (hi + 1 - lo)) (2 ^ lo) }

-- and a field below
pub onto : {x p y : ℕ} (v hi lo : ℕ) → lo ≤ hi → Packed x y (hi + 1) → p ≡ put v hi lo → Packed (bit_or x p) (y + put v hi lo) lo
onto {x} {p} {y} v hi lo h c e =
    record {
      is = ap (λ (z : ℕ). bit_or z p) c.is ∙ ap (bit_or y) e ∙ or_add y (hi + 1) (put v hi lo) c.clear (put_lt v hi lo h);
      clear = add-mul-mod_self_right y (v % 2 ^ (hi + 1 - lo)) (2 ^ lo) ∙ clear_below y (hi + 1) lo (omega arith) c.clear;
    }

-- the bits of w below hi + 1 are the field hi..lo and those below lo
field_split : (w hi lo : ℕ) → lo ≤ hi → w % 2 ^ (hi + 1) ≡ put (field w hi lo) hi lo + w % 2 ^ lo
field_split w hi lo h =
    let e : hi + 1 ≡ hi + 1 - lo + lo = omega arith in
    let m : field w hi lo % 2 ^ (hi + 1 - lo) ≡ field w hi lo = mod-eq_of_lt (mod-lt (w / 2 ^ lo) (pow_pos (hi + 1 - lo))) in
    ap (λ (n : ℕ). w % 2 ^ n) e ∙ mod-pow-add w (hi + 1 - lo) lo ∙ ap (λ (v : ℕ). v * 2 ^ lo + w % 2 ^ lo) (sym m)

-- a word put together from its fields, from the highest down: one field more, and none left
pub next_field : (x w hi lo : ℕ) → lo ≤ hi → x + w % 2 ^ (hi + 1) ≡ w → x + put (field w hi lo) hi lo + w % 2 ^ lo ≡ w
next_field x w hi lo h e = omega (arith, field_split w hi lo h)

pub no_field : (x w : ℕ) → x + w % 2 ^ 0 ≡ w → x ≡ w
no_field x w e = omega arith
