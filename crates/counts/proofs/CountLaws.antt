-- What the code computes, as laws on plain numbers: leading zeros give the highest set bit, the highest set bit the first guess of a class, and shifts and
-- masks the fields of a code.
-- Assumes nothing.
use mathlib.Core.Path.{◌≡◌, refl, sym, ap, ◌∙◌}
use mathlib.Core.Bool.{Bool, true, false, cond}
use Prim.Native.Nat.{ℕ, suc, ◌+◌, ◌-◌, ◌*◌, ◌/◌, ◌%◌, ◌^◌, ◌≤◌, ◌<◌}
use native.Mathlib.Nat.{mod-eq_of_lt, mul-le-mul, mul-le-mul_right, one-le-pow}
use native.Mathlib.Numerals.{add-one}
use native.Mathlib.Omega.{arith}
use borrow.Author.Tests.{leb-true, leb-false, eqb-true, eqb-false, le-leb}
use lib.Dec.{leb, eqb}
use lib.Bits.{bit_or, or_shifted}
use lib.Count.{count_leading_zeros, leading_top}
use lib.Pow.{pow_mono}
use Rattle.laws.specs.Each.{each}
use Rattle.laws.specs.Reply.{answered}
use Rattle.laws.proofs.EachLaws.{each_at}
use Rattle.laws.proofs.Tests.{by_lt, true_not_false, is_false, same_test}
use Rattle.counts_rules.specs.Limit.{limit, countable}
use Rattle.counts_rules.specs.Form.{base, used_class}
use Rattle.counts_rules.specs.Claims.{HighestBit}
use Rattle.counts_rules.specs.Class.{class_of, class_start, class_number}
use Rattle.counts_rules.specs.Total.{highest_bit, shift, bits, total_code, middle, total_number, code_bits, code_shift, valid_fields, valid_code}
use Rattle.counts_rules.proofs.ClassLaws.{Reached, class_none, class_eq, start_is, reached_up, reached_down}
use Rattle.counts_rules.proofs.BaseLaws.{used_says, reached_by_two, reached_small}
use Rattle.counts_rules.proofs.TotalLaws.{Valid, highest_is, highest_eq, shift_small, bits_small, middle_small, valid_says, says_valid}
use Rattle.counts_tables.specs.Entries.{start_of, number_of}
use Rattle.counts.specs.Reply.{total_reply, total_meaning}

pub not_used : (c : ℕ) → (c < 63 → (c ≡ 2 → ⊥) → ⊥) → used_class c ≡ false
not_used c h = is_false (used_class c) (λ t. let u = used_says c t in h u.0 u.1)

-- ---- the place of the highest set bit

pub highest_by_zeros : (x : ℕ) → 1 ≤ x → x < 2 ^ 32 → (count_leading_zeros 32 x ≤ 31) × (31 - count_leading_zeros 32 x ≡ highest_bit x)
highest_by_zeros x p h =
    let t = leading_top 32 x p h in
    let e : 31 - count_leading_zeros 32 x ≡ t.0 = omega (arith, t.1) in
    (omega (arith, t.1), e ∙ sym (highest_eq x t.0 (record { from = t.2; below = rw add-one t.3 })))

-- ---- the class

-- where the search may start: at the class after a power that the highest bit reaches, far enough from the end
guess : (v k c : ℕ) → 2 ^ k ≤ v → k < 30 → c ≡ 2 * k + 1 → (1 ≤ c) × (c ≤ 62) × Reached base (c - 1) v
guess v k c h l e = let f : c - 1 ≡ 2 * k = omega arith in (omega arith, omega arith, rw f (reached_by_two k v h))

start_in_lem : (c : ℕ) → 1 ≤ c → c ≤ 63 → start_of c ≡ class_start base c
unfolding start_of
start_in_lem c h l = simp (le-leb 1 c h, le-leb c 63 l)

-- the next class begins at v or before: v reaches it, and there is one more class after it
pub next_reached : (v c : ℕ) → 1 ≤ c → c ≤ 62 → v ≤ limit → start_of (c + 1) ≤ v → (c + 1 ≤ 62) × Reached base (c + 1 - 1) v
next_reached v c h l g s =
    let e = start_in_lem (c + 1) (omega arith) (omega arith) in
    let r = reached_up base (omega arith) (omega arith) (c + 1 - 1) _ v (rw e at s) (start_is base (omega arith) (omega arith) (c + 1)).reached in
    (omega (arith, reached_small (c + 1 - 1) v g r), r)

-- it begins after v: the class is found
pub last_reached : (v c : ℕ) → 1 ≤ c → c ≤ 62 → Reached base (c - 1) v → v < start_of (c + 1) → c ≡ class_of base v
last_reached v c h l r s =
    let e = start_in_lem (c + 1) (omega arith) (omega arith) in
    let k : c + 1 - 1 ≡ c = omega arith in
    sym (class_eq base (omega arith) (omega arith) v c
    (record { least = h; reached = r; not_next = rw k at ((start_is base (omega arith) (omega arith) (c + 1)).before v (rw e at s)) }))

-- a class that begins after v has none after it that v reaches
later_not : (v c : ℕ) → 1 ≤ c → c < 63 → v < start_of c → v < start_of (c + 1)
later_not v c h l s =
    let e = start_in_lem c h (omega arith) in
    let f = start_in_lem (c + 1) (omega arith) (omega arith) in
    let reach : start_of (c + 1) ≤ v → ⊥ =
    λ g. let r = reached_up base (omega arith) (omega arith) (c + 1 - 1) _ v (rw f at g) (start_is base (omega arith) (omega arith) (c + 1)).reached in
    omega (arith, (start_is base (omega arith) (omega arith) c).before v (rw e at s), reached_down base (omega arith) (omega arith) (c - 1) (c + 1 - 1) v (omega arith) r) in
    omega (arith, reach)

-- v is below the next power of two, which no class more than three further on begins below
powers : each 30 (λ k. leb (2 ^ (k + 1) * 5 ^ (2 * k + 4)) (7 ^ (2 * k + 4))) ≡ true
unfolding each
powers = refl

fourth_not : (v k c : ℕ) → k < 30 → v < 2 ^ (k + 1) → c ≡ 2 * k + 1 → v < start_of (c + 4)
fourth_not v k c h l e =
    let f = start_in_lem (c + 4) (omega arith) (omega arith) in
    let m : c + 4 - 1 ≡ 2 * k + 4 = omega arith in
    let bound = leb-true (2 ^ (k + 1) * 5 ^ (2 * k + 4)) (7 ^ (2 * k + 4)) (each_at 30 (λ k. leb (2 ^ (k + 1) * 5 ^ (2 * k + 4)) (7 ^ (2 * k + 4))) powers k h) in
    let less : suc v * 5 ^ (2 * k + 4) ≤ 2 ^ (k + 1) * 5 ^ (2 * k + 4) = mul-le-mul_right (5 ^ (2 * k + 4)) l in
    let some = one-le-pow (2 * k + 4) 5 (omega arith) in
    let reach : start_of (c + 4) ≤ v → ⊥ =
    λ g. let r : Reached base (2 * k + 4) v =
    rw m at (reached_up base (omega arith) (omega arith) (c + 4 - 1) _ v (rw f at g) (start_is base (omega arith) (omega arith) (c + 4)).reached) in
    omega (arith, r, bound, less, some) in
    omega (arith, reach)

-- the class is the first guess and one more for each of the next three that v reaches
counted_next : (v c a b d : ℕ) → 1 ≤ v → v ≤ limit → a ≡ cond (leb (start_of (c + 1)) v) 1 0 → b ≡ cond (leb (start_of (c + 2)) v) 1 0
    → d ≡ cond (leb (start_of (c + 3)) v) 1 0 → c ≡ 2 * highest_bit v + 1 → c + a + b + d ≡ class_of base v
counted_next v c a b d h l ea eb ed e = go _ _ _ refl refl refl ea eb ed
  where
    top : HighestBit v (highest_bit v)
    top = highest_is v h

    far : highest_bit v < 30
    far = let g : 30 ≤ highest_bit v → ⊥ = λ g. omega (arith, top.from, pow_mono {i = 30} {j = highest_bit v} g) in omega (arith, g)

    first : (1 ≤ c) × (c ≤ 62) × Reached base (c - 1) v
    first = guess v (highest_bit v) c top.from far e

    -- v is in class n or above it, and before the next
    is_class : (n m : ℕ) → m ≡ n + 1 → 1 ≤ n → n ≤ 62 → Reached base (n - 1) v → v < start_of m → n ≡ class_of base v
    is_class n m q o p r s = last_reached v n o p r (rw q at s)

    next : (n m : ℕ) → m ≡ n + 1 → 1 ≤ n → n ≤ 62 → start_of m ≤ v → (m ≤ 62) × Reached base (m - 1) v
    next n m q o p s = let r = next_reached v n o p l (rw q at s) in rw q r

    after : (n m : ℕ) → m ≡ n + 1 → 1 ≤ n → n < 63 → v < start_of n → v < start_of m
    after n m q o p s = rw q (later_not v n o p s)

    go : (t u w : Bool) → leb (start_of (c + 1)) v ≡ t → leb (start_of (c + 2)) v ≡ u → leb (start_of (c + 3)) v ≡ w
        → a ≡ cond t 1 0 → b ≡ cond u 1 0 → d ≡ cond w 1 0 → c + a + b + d ≡ class_of base v
    go true true true q r s ea eb ed =
        let one = next c (c + 1) (omega arith) first.0 first.1 (leb-true _ _ q) in
        let two = next (c + 1) (c + 2) (omega arith) (omega arith) one.0 (leb-true _ _ r) in
        let three = next (c + 2) (c + 3) (omega arith) (omega arith) two.0 (leb-true _ _ s) in
        let is = is_class (c + 3) (c + 4) (omega arith) (omega arith) three.0 three.1 (fourth_not v (highest_bit v) c far top.below e) in
        omega (arith, ea, eb, ed, is)
    go true true false q r s ea eb ed =
        let one = next c (c + 1) (omega arith) first.0 first.1 (leb-true _ _ q) in
        let two = next (c + 1) (c + 2) (omega arith) (omega arith) one.0 (leb-true _ _ r) in
        let is = is_class (c + 2) (c + 3) (omega arith) (omega arith) two.0 two.1 (leb-false _ _ s) in
        omega (arith, ea, eb, ed, is)
    go true false true q r s ea eb ed =
        let third = after (c + 2) (c + 3) (omega arith) (omega arith) (omega (arith, far, e)) (leb-false _ _ r) in
        absurd (omega (arith, third, leb-true (start_of (c + 3)) v s))
    go true false false q r s ea eb ed =
        let one = next c (c + 1) (omega arith) first.0 first.1 (leb-true _ _ q) in
        let is = is_class (c + 1) (c + 2) (omega arith) (omega arith) one.0 one.1 (leb-false _ _ r) in
        omega (arith, ea, eb, ed, is)
    go false true w q r s ea eb ed =
        let second = after (c + 1) (c + 2) (omega arith) (omega arith) (omega (arith, far, e)) (leb-false _ _ q) in
        absurd (omega (arith, second, leb-true (start_of (c + 2)) v r))
    go false false true q r s ea eb ed =
        let third = after (c + 2) (c + 3) (omega arith) (omega arith) (omega (arith, far, e)) (leb-false _ _ r) in
        absurd (omega (arith, third, leb-true (start_of (c + 3)) v s))
    go false false false q r s ea eb ed =
        let is = is_class c (c + 1) (omega arith) first.0 first.1 first.2 (leb-false _ _ q) in
        omega (arith, ea, eb, ed, is)

-- the same with the three classes as they are in hand
pub counted_class : (v c x y z a b d : ℕ) → 1 ≤ v → v ≤ limit → x ≡ c + 1 → y ≡ c + 2 → z ≡ c + 3 → a ≡ cond (leb (start_of x) v) 1 0
    → b ≡ cond (leb (start_of y) v) 1 0 → d ≡ cond (leb (start_of z) v) 1 0 → c ≡ 2 * highest_bit v + 1 → c + a + b + d ≡ class_of base v
counted_class v c x y z a b d h l ex ey ez ea eb ed e = counted_next v c a b d h l (rw ex at ea) (rw ey at eb) (rw ez at ed) e

pub no_class : (v : ℕ) → v < 1 → class_of base v ≡ 0
no_class v h = class_none base (omega arith) (omega arith) v (omega arith)

pub number_in : (c : ℕ) → used_class c ≡ true → number_of c ≡ class_number base c
unfolding number_of
number_in c t = simp t

-- ---- the total code

pub total_answered : (t w : ℕ) → true ≡ countable t → w ≡ total_code t → answered w ≡ total_reply t
unfolding total_reply
total_answered t w h e = simp (sym h) (ap answered e)

-- the bits, five places up, and the shift below them
pub code_packed : (t s x : ℕ) → t ≤ limit → s ≡ shift t → x ≡ bits t * 32 → bit_or x s ≡ total_code t
unfolding total_code
code_packed t s x l e f =
    let small = shift_small t l in
    rw (f, e) (or_shifted (bits t) 5 (shift t) (omega arith))

pub not_shifted : (t : ℕ) → t < 128 → 0 ≡ shift t
unfolding shift
not_shifted t h = by_lt t 128 0 0 (highest_bit t - 6) (λ l. refl) (λ l. absurd (omega arith))

-- the bits as they are shifted out
pub bits_shifted : (t s : ℕ) → s ≡ shift t → (t / 2 ^ s ≡ bits t) × (t / 2 ^ s < 128)
unfolding bits
bits_shifted t s e = rw e (refl, bits_small t)

-- ---- the number of a total code

-- the least bits are 0 without a shift and 64 under one
pub least_is : (s m : ℕ) → m ≡ cond (eqb s 0) 0 64 → (m ≤ 64) × (1 ≤ s → m ≡ 64) × (s ≡ 0 → m ≡ 0)
least_is s m e = go (eqb s 0) refl e
  where
    go : (t : Bool) → eqb s 0 ≡ t → m ≡ cond t 0 64 → (m ≤ 64) × (1 ≤ s → m ≡ 64) × (s ≡ 0 → m ≡ 0)
    go true q f = let z = eqb-true s 0 q in (omega (arith, f), λ h. absurd (omega (arith, z, h)), λ _. f)
    go false q f = (omega (arith, f), λ _. f, λ z. absurd (eqb-false s 0 q z))

-- a test is that of validity if it holds exactly then
pub valid_by : (t : Bool) (b s : ℕ) → (t ≡ true → Valid b s) → (Valid b s → t ≡ true) → t ≡ valid_fields b s
valid_by t b s h g = same_test t (valid_fields b s) (λ e. says_valid b s (h e)) (λ e. g (valid_says b s e))

pub never_valid : (b s : ℕ) → (Valid b s → ⊥) → false ≡ valid_fields b s
never_valid b s h = valid_by false b s (λ e. absurd (true_not_false e refl)) (λ v. absurd (h v))

pub bits_too_large : (b s : ℕ) → 127 < b → false ≡ valid_fields b s
bits_too_large b s h = never_valid b s (λ v. omega (arith, v.bits_top))

pub shift_too_large : (b s : ℕ) → 23 < s → false ≡ valid_fields b s
shift_too_large b s h = never_valid b s (λ v. omega (arith, v.shift_top))

-- what the test of the two fields said of the code
pub validity : (c b s : ℕ) (t u : Bool) → b ≡ code_bits c → s ≡ code_shift c → t ≡ valid_fields b s → t ≡ u → valid_code c ≡ u
validity c b s t u g h e f = rw (← g, ← h) (sym e ∙ f)

-- the number as it is put together: the bits above the middle
pub number_packed : (c b s r m : ℕ) → m ≡ middle r → r ≡ code_shift c → b ≡ code_bits c → s ≡ code_shift c → valid_code c ≡ true → bit_or (b * 2 ^ s % 2 ^ 32) m ≡ total_number c
unfolding total_number
number_packed c b s r m f g h e t =
    let v = valid_says (code_bits c) (code_shift c) t in
    let p = mul-le-mul v.bits_top (pow_mono {i = code_shift c} {j = 23} v.shift_top) in
    let w : code_bits c * 2 ^ code_shift c % 2 ^ 32 ≡ code_bits c * 2 ^ code_shift c = mod-eq_of_lt (omega arith) in
    rw (f, g, h, e, w) (or_shifted (code_bits c) (code_shift c) (middle (code_shift c)) (middle_small (code_shift c)))

pub total_meant : (c w : ℕ) → true ≡ valid_code c → w ≡ total_number c → answered w ≡ total_meaning c
unfolding total_meaning
total_meant c w h e = simp (sym h) (ap answered e)
