-- Laws of total codes. A shift is known by two bounds on its total, a total and its code's number lie in the same stretch
-- [bits * 2^shift, (bits + 1) * 2^shift), and all else follows from that; that a constant gives the middles is a test that antt computes.
-- Assumes nothing.
use mathlib.Core.Path.{◌≡◌, refl, sym, ap, ◌∙◌}
use mathlib.Core.Bool.{Bool, true, false, cond, ◌&&◌}
use mathlib.Core.Logic.{⊎_elim}
use Prim.Native.Nat.{ℕ, zero, suc, ◌+◌, ◌-◌, ◌*◌, ◌/◌, ◌%◌, ◌^◌, ◌≤◌, ◌<◌}
use native.Mathlib.Nat.{eq-or-lt_of_le, mul-le-mul, mul-le-mul_right, pow-succ', div-mul-le_self, lt-div-mul-add, lt_of_mul-lt-mul_right, div-eq_of_lt-le}
use native.Mathlib.Numerals.{add-one}
use native.Mathlib.Omega.{arith}
use borrow.Author.Tests.{leb-true, leb-false, ltb-true, ltb-false, eqb-true, le-leb}
use lib.Dec.{leb, ltb, eqb, lit<}
use lib.Pow.{pow_pos, pow_mono, pow-add}
use Rattle.laws.specs.Each.{each}
use Rattle.laws.proofs.EachLaws.{each_at}
use Rattle.laws.proofs.Tests.{both, both_left, both_right, holds_left, holds_right, either}
use Rattle.laws.proofs.SearchLaws.{first_is, largest_is}
use Rattle.counts_rules.specs.Limit.{limit}
use Rattle.counts_rules.specs.Claims.{HighestBit}
use Rattle.counts_rules.specs.Total.{highest_bit, shift, bits, total_code, code_bits, code_shift, middle, total_number, valid_fields, valid_code}

-- s is the shift of t
pub record Shift (t s : ℕ) : Type 0 where
  pub below : t < 128 * 2 ^ s
  pub above : 0 < s → 64 * 2 ^ s ≤ t

below_power : (n : ℕ) → n < 2 ^ n
below_power zero = lit< tt
below_power (suc n) = omega (arith, pow-succ' 2 n, below_power n)

-- the highest set bit, and that there is just one
pub highest_is : (t : ℕ) → 1 ≤ t → HighestBit t (highest_bit t)
unfolding highest_bit
highest_is t h =
    let f = first_is (λ k. ltb t (2 ^ suc k)) t 0 in
    record { from = low (highest_bit t) f.before; below = rw add-one (high (highest_bit t) f.within f.passes) }
  where
    low : (k : ℕ) → ((m : ℕ) → 0 ≤ m → m < k → ltb t (2 ^ suc m) ≡ false) → 2 ^ k ≤ t
    low zero b = omega arith
    low (suc k) b = ltb-false _ _ (b k (omega arith) (omega arith))

    high : (k : ℕ) → k ≤ 0 + t → (k < 0 + t → ltb t (2 ^ suc k) ≡ true) → t < 2 ^ suc k
    high k w p =
        ⊎_elim (λ (e : k ≡ t). rw e (omega (arith, below_power t, pow-succ' 2 t))) (λ (l : k < t). ltb-true _ _ (p (omega arith))) (eq-or-lt_of_le (omega arith))

-- no power above that of the highest bit is reached
highest_least : (t n k : ℕ) → 2 ^ n ≤ t → t < 2 ^ (k + 1) → n ≤ k
highest_least t n k p q = let a : k < n → ⊥ = λ l. let m = pow_mono {i = k + 1} {j = n} (omega arith) in omega arith in omega arith

pub highest_eq : (t h : ℕ) → HighestBit t h → highest_bit t ≡ h
highest_eq t h p =
    let q = highest_is t (omega (arith, pow_pos h, p.from)) in
    omega (arith, highest_least t h (highest_bit t) p.from q.below, highest_least t (highest_bit t) h q.from p.below)

-- from 128 on at least seven bits stand below the highest
pub seven_below : (t : ℕ) → 128 ≤ t → 7 ≤ highest_bit t
seven_below t h = highest_least t 7 (highest_bit t) h (highest_is t (omega arith)).below

pub shift_is : (t : ℕ) → Shift t (shift t)
unfolding shift
shift_is t = go (ltb t 128) refl
  where
    go : (b : Bool) → ltb t 128 ≡ b → Shift t (cond b 0 (highest_bit t - 6))
    go true e = record { below = omega (arith, ltb-true t 128 e); above = λ h. absurd (omega arith) }
    go false e =
        let l = ltb-false t 128 e in
        let h = highest_is t (omega arith) in
        let k = highest_bit t in
        let far = seven_below t l in
        let e1 : 2 ^ k ≡ 64 * 2 ^ (k - 6) = ap (λ (n : ℕ). 2 ^ n) {x = k} {y = 6 + (k - 6)} (omega arith) ∙ pow-add 2 6 (k - 6) in
        record { below = omega (arith, h.below, pow-succ' 2 k, ap (λ (n : ℕ). 2 ^ n) (add-one k), e1); above = λ _. omega (arith, h.from, e1) }

pub shift_le : (t u r s : ℕ) → t ≤ u → Shift t r → Shift u s → r ≤ s
shift_le t u r s h p q =
    let a : s < r → ⊥ = λ l. let m = pow_mono {i = suc s} {j = r} l in omega (arith, p.above (omega arith), q.below, pow-succ' 2 s) in
    omega arith

shift_eq : (t s : ℕ) → Shift t s → shift t ≡ s
shift_eq t s p =
    omega (arith, shift_le t t s (shift t) (omega arith) p (shift_is t), shift_le t t (shift t) s (omega arith) (shift_is t) p)

-- t lies in the stretch of b and s
pub record Stretch (b s t : ℕ) : Type 0 where
  pub from : b * 2 ^ s ≤ t
  pub to : t < suc b * 2 ^ s

pub bits_is : (t : ℕ) → Stretch (bits t) (shift t) t
unfolding bits
bits_is t =
    let p = 2 ^ shift t in
    record { from = div-mul-le_self t p; to = omega (arith, lt-div-mul-add {a = t} (pow_pos (shift t))) }

pub bits_eq : (b s t : ℕ) → shift t ≡ s → Stretch b s t → bits t ≡ b
unfolding bits
bits_eq b s t e p = let m : t < (b + 1) * 2 ^ s = omega (arith, p.to) in rw e (div-eq_of_lt-le (2 ^ s) p.from m)

-- bits are below 128, and with a shift at least 64
pub bits_small : (t : ℕ) → bits t < 128
bits_small t =
    let p = 2 ^ shift t in
    lt_of_mul-lt-mul_right p (omega (arith, (bits_is t).from, (shift_is t).below))

pub bits_large : (t : ℕ) → 0 < shift t → 64 ≤ bits t
bits_large t h =
    let p = 2 ^ shift t in
    let g : 64 < suc (bits t) = lt_of_mul-lt-mul_right p (omega (arith, (bits_is t).to, (shift_is t).above h)) in
    omega arith

pub bits_whole : (t : ℕ) → shift t ≡ 0 → bits t ≡ t
bits_whole t e = bits_eq t 0 t e (record { from = omega arith; to = omega arith })

-- ---- the middle

-- m is the largest number whose sum with 2^s has a square of at most 2^(2s+1)
pub record Middle (s m : ℕ) : Type 0 where
  pub within : (m + 2 ^ s) * (m + 2 ^ s) ≤ 2 ^ (2 * s + 1)
  pub most : (n : ℕ) → (n + 2 ^ s) * (n + 2 ^ s) ≤ 2 ^ (2 * s + 1) → n ≤ m

twice_square : (s : ℕ) → 2 ^ (2 * s + 1) ≡ 2 * (2 ^ s * 2 ^ s)
twice_square s =
    let e : 2 ^ (2 * s + 1) ≡ 2 ^ (1 + (s + s)) = ap (λ (n : ℕ). 2 ^ n) {x = 2 * s + 1} {y = 1 + (s + s)} (omega arith) in
    e ∙ pow-add 2 1 (s + s) ∙ ap (λ (x : ℕ). 2 * x) (pow-add 2 s s)

middle_below : (s m : ℕ) → (m + 2 ^ s) * (m + 2 ^ s) ≤ 2 ^ (2 * s + 1) → m < 2 ^ s
middle_below s m h =
    let p = 2 ^ s in
    let a : p ≤ m → ⊥ =
    λ l.
    let k : p + p ≤ m + p = omega arith in
    omega (arith, mul-le-mul k k, twice_square s, mul-le-mul (pow_pos s) (pow_pos s)) in
    omega arith

pub middle_unique : (s m n : ℕ) → Middle s m → Middle s n → m ≡ n
middle_unique s m n a b = omega (arith, a.most n b.within, b.most m a.within)

pub middle_is : (s : ℕ) → Middle s (middle s)
unfolding middle
middle_is s =
    let l = largest_is (λ m. leb ((m + 2 ^ s) * (m + 2 ^ s)) (2 ^ (2 * s + 1))) (2 ^ s) in
    let w = within (middle s) l.passing in
    record { within = w; most = λ n h. let a : middle s < n → ⊥ = λ g. past (middle s) n h g (l.next (middle_below s (middle s) w)) in omega arith }
  where
    within : (m : ℕ) → ((n : ℕ) → n < m → leb ((suc n + 2 ^ s) * (suc n + 2 ^ s)) (2 ^ (2 * s + 1)) ≡ true) → (m + 2 ^ s) * (m + 2 ^ s) ≤ 2 ^ (2 * s + 1)
    within zero h = omega (arith, twice_square s)
    within (suc n) h = leb-true _ _ (h n (omega arith))

    past : (m n : ℕ) → (n + 2 ^ s) * (n + 2 ^ s) ≤ 2 ^ (2 * s + 1) → m < n → leb ((suc m + 2 ^ s) * (suc m + 2 ^ s)) (2 ^ (2 * s + 1)) ≡ false → ⊥
    past m n h g t =
        let k : suc m + 2 ^ s ≤ n + 2 ^ s = omega arith in
        omega (arith, leb-false ((suc m + 2 ^ s) * (suc m + 2 ^ s)) (2 ^ (2 * s + 1)) t, mul-le-mul k k)

pub middle_small : (s : ℕ) → middle s < 2 ^ s
middle_small s = middle_below s (middle s) (middle_is s).within

pub middle_none : (s : ℕ) → s ≡ 0 → middle s ≡ 0
middle_none s e = omega (arith, middle_small s, ap (λ (n : ℕ). 2 ^ n) e)

-- a number whose next one is too large is the middle
middle_eq : (s m : ℕ) → (m + 2 ^ s) * (m + 2 ^ s) ≤ 2 ^ (2 * s + 1) → 2 ^ (2 * s + 1) < (suc m + 2 ^ s) * (suc m + 2 ^ s) → middle s ≡ m
middle_eq s m h g =
    middle_unique s (middle s) m (middle_is s)
    (record { within = h; most = λ n k. let a : m < n → ⊥ = λ l. let i : suc m + 2 ^ s ≤ n + 2 ^ s = omega arith in omega (arith, mul-le-mul i i) in omega arith })

-- m is within the rule of the middle and m + 1 is not
abbrev middle_at : ℕ → ℕ → Bool
middle_at s m = leb ((m + 2 ^ s) * (m + 2 ^ s)) (2 ^ (2 * s + 1)) && ltb (2 ^ (2 * s + 1)) ((suc m + 2 ^ s) * (suc m + 2 ^ s))

-- a constant moved right by p less the shift is the middle of every shift below n, if it passes the test at each
pub moved_is : (k p n : ℕ) → each n (λ s. middle_at s (k / 2 ^ (p - s))) ≡ true → (s : ℕ) → s < n → k / 2 ^ (p - s) ≡ middle s
moved_is k p n t s h =
    let m = k / 2 ^ (p - s) in
    let e = each_at n (λ s. middle_at s (k / 2 ^ (p - s))) t s h in
    let w = leb ((m + 2 ^ s) * (m + 2 ^ s)) (2 ^ (2 * s + 1)) in
    sym (middle_eq s m (leb-true _ _ (both_left w _ e)) (ltb-true _ _ (both_right w _ e)))

-- ---- the code and its number

pub number_is : (c : ℕ) → Stretch (code_bits c) (code_shift c) (total_number c)
unfolding total_number
number_is c =
    record { from = omega arith; to = omega (arith, middle_small (code_shift c)) }

-- what a valid code's fields are
pub record Valid (b s : ℕ) : Type 0 where
  pub bits_top : b ≤ 127
  pub shift_top : s ≤ 23
  pub bits_low : 0 < s → 64 ≤ b

pub valid_says : (b s : ℕ) → valid_fields b s ≡ true → Valid b s
unfolding valid_fields
valid_says b s t = ⊎_elim whole shifted (either _ _ t)
  where
    whole : (eqb s 0 && leb b 127) ≡ true → Valid b s
    whole p =
        let z = eqb-true s 0 (both_left (eqb s 0) _ p) in
        record {
          bits_top = leb-true _ _ (both_right (eqb s 0) _ p);
          shift_top = omega arith;
          bits_low = λ h. absurd (omega arith);
        }

    shifted : ((leb 1 s && leb s 23) && (leb 64 b && leb b 127)) ≡ true → Valid b s
    shifted p =
        let l = both_left (leb 1 s && leb s 23) _ p in
        let r = both_right (leb 1 s && leb s 23) _ p in
        let low = leb-true 64 b (both_left (leb 64 b) _ r) in
        record {
          bits_top = leb-true _ _ (both_right (leb 64 b) _ r);
          shift_top = leb-true _ _ (both_right (leb 1 s) _ l);
          bits_low = λ h. low;
        }

pub says_valid : (b s : ℕ) → Valid b s → valid_fields b s ≡ true
unfolding valid_fields
says_valid b zero v = holds_left _ _ (both (eqb 0 0) _ refl (le-leb b 127 v.bits_top))
says_valid b (suc s) v =
    holds_right (eqb (suc s) 0 && leb b 127) _
    (both (leb 1 (suc s) && leb (suc s) 23) _ (both (leb 1 (suc s)) _ (le-leb 1 (suc s) (omega arith)) (le-leb (suc s) 23 v.shift_top))
    (both (leb 64 b) _ (le-leb 64 b (v.bits_low (omega arith))) (le-leb b 127 v.bits_top)))

pub shift_small : (t : ℕ) → t ≤ limit → shift t ≤ 23
shift_small t h =
    let a : 24 ≤ shift t → ⊥ = λ g. let m = pow_mono {i = 24} {j = shift t} g in omega (arith, (shift_is t).above (omega arith)) in
    omega arith

pub code_valid : (t : ℕ) → t ≤ limit → valid_code (total_code t) ≡ true
unfolding total_code
code_valid t l = rw (field_bits, field_shift) (says_valid (bits t) (shift t) fields)
  where
    small : shift t ≤ 23
    small = shift_small t l

    field_bits : (bits t * 32 + shift t) / 32 ≡ bits t
    field_bits = omega (arith, small)

    field_shift : (bits t * 32 + shift t) % 32 ≡ shift t
    field_shift = omega (arith, small)

    fields : Valid (bits t) (shift t)
    fields = record { bits_top = omega (arith, bits_small t); shift_top = small; bits_low = bits_large t }

pub number_has_code : (c : ℕ) → valid_code c ≡ true → total_code (total_number c) ≡ c
unfolding total_code
number_has_code c t =
    let v = valid_says (code_bits c) (code_shift c) t in
    let p = 2 ^ code_shift c in
    let n = number_is c in
    let e : shift (total_number c) ≡ code_shift c =
    shift_eq (total_number c) (code_shift c)
    (record {
      below = omega (arith, n.to, mul-le-mul_right p v.bits_top);
      above = λ h. omega (arith, n.from, mul-le-mul_right p (v.bits_low h));
    }) in
    let f = bits_eq (code_bits c) (code_shift c) (total_number c) e n in
    omega (arith, e, f)

pub number_small : (c : ℕ) → valid_code c ≡ true → total_number c < 2 ^ 30
number_small c t =
    let v = valid_says (code_bits c) (code_shift c) t in
    let m = pow_mono {i = code_shift c} {j = 23} v.shift_top in
    omega (arith, (number_is c).to, mul-le-mul_right (2 ^ code_shift c) v.bits_top)

-- ---- a total beside the number of its code

pub value_is : (t : ℕ) → t ≤ limit → total_number (total_code t) ≡ bits t * 2 ^ shift t + middle (shift t)
unfolding total_code total_number
value_is t h =
    let l = shift_small t h in
    let e : (bits t * 32 + shift t) / 32 ≡ bits t = omega arith in
    let f : (bits t * 32 + shift t) % 32 ≡ shift t = omega arith in
    rw (e, f)

-- it lies in the total's own stretch
value_stretch : (t : ℕ) → t ≤ limit → Stretch (bits t) (shift t) (total_number (total_code t))
value_stretch t h =
    record { from = omega (arith, value_is t h); to = omega (arith, value_is t h, middle_small (shift t)) }

-- and without a shift it is the total
pub value_whole : (t : ℕ) → t ≤ limit → shift t ≡ 0 → total_number (total_code t) ≡ t
value_whole t h e =
    let v : Stretch (bits t) 0 (total_number (total_code t)) = rw e at (value_stretch t h) in
    omega (arith, v.from, v.to, bits_whole t e)

-- two numbers of one stretch are within 65/64: with a shift its bits are at least 64
close : (b s x y : ℕ) → Stretch b s x → Stretch b s y → (0 < s → 64 ≤ b) → (s ≡ 0 → x ≡ y) → 64 * x ≤ 65 * y
close b s x y p q l e =
    ⊎_elim
    (λ (z : 0 ≡ s). omega (arith, e (sym z)))
    (λ (g : 0 < s). omega (arith, p.to, q.from, mul-le-mul_right (2 ^ s) (l g)))
    (eq-or-lt_of_le (omega arith))

pub count_within : (t : ℕ) → t ≤ limit → 64 * t ≤ 65 * total_number (total_code t)
count_within t h = close (bits t) (shift t) _ _ (bits_is t) (value_stretch t h) (bits_large t) (λ e. sym (value_whole t h e))

pub number_within : (t : ℕ) → t ≤ limit → 64 * total_number (total_code t) ≤ 65 * t
number_within t h = close (bits t) (shift t) _ _ (value_stretch t h) (bits_is t) (bits_large t) (value_whole t h)

-- code 0 is that of 0, and of no other total
pub number_none : total_number 0 ≡ 0
number_none = let n = number_is 0 in omega (arith, n.to)

pub code_none : total_code 0 ≡ 0
code_none = ap total_code (sym number_none) ∙ number_has_code 0 (says_valid 0 0 (record { bits_top = omega arith; shift_top = omega arith; bits_low = λ h. omega arith }))

pub only_none : (t : ℕ) → t ≤ limit → total_code t ≡ 0 → t ≡ 0
only_none t h e = omega (arith, count_within t h, ap total_number e ∙ number_none)

-- a larger total has the larger stretch, or the same
pub number_grows : (t u : ℕ) → t ≤ u → u ≤ limit → total_number (total_code t) ≤ total_number (total_code u)
number_grows t u h l = ⊎_elim same apart (eq-or-lt_of_le (shift_le t u (shift t) (shift u) h (shift_is t) (shift_is u)))
  where
    low : t ≤ limit
    low = omega arith

    same : shift t ≡ shift u → total_number (total_code t) ≤ total_number (total_code u)
    same e =
        let p = 2 ^ shift t in
        let to : u < suc (bits u) * p = rw e (bits_is u).to in
        let g : bits t < suc (bits u) = lt_of_mul-lt-mul_right p (omega (arith, (bits_is t).from)) in
        let v : total_number (total_code u) ≡ bits u * p + middle (shift t) = rw e (value_is u l) in
        omega (arith, value_is t low, mul-le-mul_right p g)

    apart : shift t < shift u → total_number (total_code t) ≤ total_number (total_code u)
    apart g =
        let m = pow_mono {i = suc (shift t)} {j = shift u} g in
        omega (
          arith,
          (value_stretch t low).to,
          (value_stretch u l).from,
          pow-succ' 2 (shift t),
          mul-le-mul_right (2 ^ shift t) (bits_small t),
          mul-le-mul_right (2 ^ shift u) (bits_large u (omega arith)),
        )
