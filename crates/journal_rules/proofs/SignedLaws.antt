-- Laws of numbers with sign, of lists of them and of their sums (specs/Lines.antt): frequencies and their sum are what they were as numbers with sign.
-- Assumes nothing.
use mathlib.Core.Path.{◌≡◌, refl, sym, ap, ◌∙◌}
use mathlib.Core.Bool.{Bool, true, false, cond}
use mathlib.Core.List.{List, [], ◌∷◌}
use Prim.Native.Nat.{ℕ, zero, suc, ◌+◌, ◌-◌, ◌≤◌, ◌<◌}
use native.Mathlib.Omega.{arith}
use borrow.Author.Tests.{ltb-false}
use lib.Dec.{ltb}
use lib.IntN.{ℤ, pos, negsuc, nat_abs, ◌+ℤ◌, +ℤ_idl, +ℤ_idr, +ℤ_assoc, +ℤ_comm}
use lib.ListN.{length, get_or, take, set, length-map, get_or-map}
use lib.Signed.{lt_z}
use Rattle.laws.specs.Sums.{sum}
use Rattle.journal_rules.specs.Lines.{signed, unsigned, sumℤ, frequency_at, change_at, after_line}

-- ---- numbers

pub swap : (a b c : ℤ) → a +ℤ b +ℤ c ≡ a +ℤ c +ℤ b
swap a b c = +ℤ_assoc a b c ∙ ap (λ (z : ℤ). a +ℤ z) (+ℤ_comm b c) ∙ sym (+ℤ_assoc a c b)

-- a change that takes one count to another is no larger than both of them
pub change_within : (a b m : ℕ) (c : ℤ) → pos a +ℤ c ≡ pos b → a ≤ m → b ≤ m → nat_abs c ≤ m
change_within a b m (pos n) e h k = let s : a + n ≡ b = cc in omega arith
change_within a b m (negsuc n) e h k = go (ltb a (suc n)) refl e
  where
    go : (t : Bool) → ltb a (suc n) ≡ t → cond t (negsuc (suc n - suc a)) (pos (a - suc n)) ≡ pos b → suc n ≤ m
    go true p q = let z : ◌≡◌ {A = ℕ} 0 1 = cc in absurd (omega arith)
    go false p q = omega (arith, ltb-false a (suc n) p)

-- the same change takes a count that is larger by m to one that is larger by m
pub change_moved : (a m n : ℕ) (c : ℤ) → pos a +ℤ c ≡ pos n → pos (a + m) +ℤ c ≡ pos (n + m)
change_moved a m n c e = swap (pos a) (pos m) c ∙ ap (λ (z : ℤ). z +ℤ pos m) e

pub not_negative : (z : ℤ) → lt_z z (pos 0) ≡ false → z ≡ pos (nat_abs z)
not_negative (pos n) h = refl
not_negative (negsuc n) h = let z : ◌≡◌ {A = ℕ} 0 1 = cc in absurd (omega arith)

-- ---- lists

pub signed_at : (fs : List ℕ) (e : ℕ) → frequency_at (signed fs) e ≡ pos (get_or fs e 0)
signed_at fs e = get_or-map pos fs e 0

pub signed_length : (fs : List ℕ) → length (signed fs) ≡ length fs
signed_length fs = length-map fs pos

pub signed_sum : (fs : List ℕ) → sumℤ (signed fs) ≡ pos (sum fs)
signed_sum [] = refl
signed_sum (f ∷ fs) = ap (λ (z : ℤ). pos f +ℤ z) (signed_sum fs)

pub signed_set : (fs : List ℕ) (e v : ℕ) → signed (set fs e v) ≡ set (signed fs) e (pos v)
signed_set [] e v = refl
signed_set (f ∷ fs) zero v = refl
signed_set (f ∷ fs) (suc e) v = ap (λ (zs : List ℤ). pos f ∷ zs) (signed_set fs e v)

pub unsigned_length : (zs : List ℤ) → length (unsigned zs) ≡ length zs
unsigned_length zs = length-map zs nat_abs

pub unsigned_signed : (fs : List ℕ) → unsigned (signed fs) ≡ fs
unsigned_signed [] = refl
unsigned_signed (f ∷ fs) = ap (λ (l : List ℕ). f ∷ l) (unsigned_signed fs)

-- where no number is below 0, none is lost
pub signed_unsigned : (zs : List ℤ) → ((e : ℕ) → e < length zs → lt_z (frequency_at zs e) (pos 0) ≡ false) → signed (unsigned zs) ≡ zs
signed_unsigned [] h = refl
signed_unsigned (z ∷ zs) h =
    let first = not_negative z (h 0 (omega arith)) in
    let rest = signed_unsigned zs (λ e l. h (suc e) (omega arith)) in
    λ i. sym first i ∷ rest i

-- ---- sums

-- one more of the first n
pub sum_next : (n : ℕ) (cs : List ℤ) → sumℤ (take (suc n) cs) ≡ sumℤ (take n cs) +ℤ change_at cs n
sum_next zero [] = refl
sum_next (suc n) [] = refl
sum_next zero (c ∷ cs) = +ℤ_idr c ∙ sym (+ℤ_idl c)
sum_next (suc n) (c ∷ cs) = ap (λ (z : ℤ). c +ℤ z) (sum_next n cs) ∙ sym (+ℤ_assoc c (sumℤ (take n cs)) (change_at cs n))

-- a line moves the sum by its change
pub sum_after_line : (zs : List ℤ) (e : ℕ) (c : ℤ) → e < length zs → sumℤ (after_line zs e c) ≡ sumℤ zs +ℤ c
sum_after_line [] e c h = absurd (omega arith)
sum_after_line (z ∷ zs) zero c h = swap z c (sumℤ zs)
sum_after_line (z ∷ zs) (suc e) c h = ap (λ (s : ℤ). z +ℤ s) (sum_after_line zs e c (omega arith)) ∙ sym (+ℤ_assoc z (sumℤ zs) c)
