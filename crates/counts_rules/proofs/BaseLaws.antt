-- What holds of the base 7/5 alone: which classes counts have, and by tests that antt computes over the lists of starts and numbers,
-- that the lists are right, that a class's number lies in it and that a count is within 5/4 of its class's number.
-- Assumes nothing.
use mathlib.Core.Path.{◌≡◌, refl, ap, ◌∙◌}
use mathlib.Core.Bool.{Bool, true, not, ◌&&◌, ◌||◌}
use Prim.Native.Nat.{ℕ, zero, suc, ◌-◌, ◌*◌, ◌^◌, ◌≤◌, ◌<◌}
use native.Mathlib.Nat.{le_trans, lt_of_le_of_lt, mul-le-mul_right, not-le_of_lt, one-le-pow, pow-succ'}
use native.Mathlib.Omega.{arith}
use borrow.Author.Tests.{leb-true, leb-false, ltb-true, eqb-false, le-leb, lt-leb, lt-ltb, ne_eqb, not-true}
use lib.Dec.{leb, ltb, lit<, lit≤}
use lib.ListN.{get_or}
use Rattle.laws.proofs.Tests.{both, both_left, both_right, holds_other, not_holds, not_fails}
use Rattle.laws.proofs.SearchLaws.{root_of, root_unique}
use Rattle.laws.proofs.Table.{at}
use Rattle.counts_rules.specs.Limit.{limit}
use Rattle.counts_rules.specs.Form.{base, used_class}
use Rattle.counts_rules.specs.Class.{Class, reaches, in_class, class_of, class_start, class_number}
use Rattle.counts_rules.specs.Private.Tables.{class_starts, class_numbers}
use Rattle.counts_rules.proofs.ClassLaws.{Reached, class_is, class_none, class_eq, reached_down, start_eq, start_le, below_next, number_is}

-- ---- the classes in use

pub used_says : (c : ℕ) → used_class c ≡ true → (c < 63) × (c ≡ 2 → ⊥)
used_says c t = (ltb-true c 63 (both_left (ltb c 63) _ t), eqb-false c 2 (not-true _ (both_right (ltb c 63) _ t)))

pub says_used : (c : ℕ) → c < 63 → (c ≡ 2 → ⊥) → used_class c ≡ true
says_used c g n = both (ltb c 63) _ (lt-ltb c 63 g) (not_holds _ (ne_eqb c 2 n))

-- no count within the limit reaches the power 62, with which class 63 begins
pub reached_small : (k v : ℕ) → v ≤ limit → Reached base k v → k < 62
reached_small k v l r =
    let past : 62 ≤ k → ⊥ =
    λ g. not-le_of_lt (lt_of_le_of_lt (mul-le-mul_right (5 ^ 62) l) (lit< tt)) (reached_down base (omega arith) (omega arith) 62 k v g r) in
    omega arith

-- and none at all is in class 2
pub class_used : (v : ℕ) → v ≤ limit → used_class (class_of base v) ≡ true
class_used zero l = let z = class_none base (omega arith) (omega arith) 0 refl in says_used (class_of base 0) (omega arith) (λ e. omega arith)
class_used (suc n) l =
    let v = suc n in
    let p = class_is base (omega arith) (omega arith) v (omega arith) in
    let c = class_of base v in
    let two : c ≡ 2 → ⊥ = λ e. none v (rw e at p.reached) (rw e at p.not_next) in
    says_used c (omega (arith, reached_small (c - 1) v l p.reached)) two
  where
    none : (v : ℕ) → 7 ^ (2 - 1) ≤ v * 5 ^ (2 - 1) → v * 5 ^ 2 < 7 ^ 2 → ⊥
    none v p q = omega arith

-- two classes are less than a power of two: 49/25 < 2
pub reached_by_two : (k v : ℕ) → 2 ^ k ≤ v → Reached base (2 * k) v
reached_by_two k v h = le_trans (powers k) (mul-le-mul_right (5 ^ (2 * k)) h)
  where
    powers : (k : ℕ) → 7 ^ (2 * k) ≤ 2 ^ k * 5 ^ (2 * k)
    powers zero = lit≤ tt
    powers (suc k) =
        let e : 2 * suc k ≡ suc (suc (2 * k)) = omega arith in
        rw e
        (omega (
          arith,
          powers k,
          pow-succ' 7 (suc (2 * k)),
          pow-succ' 7 (2 * k),
          ap (λ (x : ℕ). 2 ^ suc k * x) (pow-succ' 5 (suc (2 * k)) ∙ ap (λ (x : ℕ). 5 * x) (pow-succ' 5 (2 * k))),
          ap (λ (x : ℕ). x * 5 ^ (2 * k)) (pow-succ' 2 k),
        ))

-- ---- the tables are right

pub number_none : class_number base 0 ≡ 0
unfolding class_number
number_none = refl

-- s reaches the class and s - 1 does not
abbrev start_at : ℕ → ℕ → Bool
start_at c s = leb c 0 || leb 1 s && (reaches base (c - 1) s && not (reaches base (c - 1) (s - 1)))

-- a class that holds counts from 1 up
abbrev holding : ℕ → Bool
holding c = leb 1 c && used_class c

-- r is the root and r + 1 is not, or the class is 0 or 2
abbrev number_at : ℕ → ℕ → Bool
number_at c r =
    not (holding c) || leb (r * r * 5 ^ (2 * c - 1)) (7 ^ (2 * c - 1)) && ltb (7 ^ (2 * c - 1)) (suc r * suc r * 5 ^ (2 * c - 1))

pub starts_right : (c : ℕ) → 1 ≤ c → c < 64 → class_start base c ≡ get_or class_starts c 0
unfolding class_starts
starts_right c h g =
    let s = get_or class_starts c 0 in
    let e = holds_other (leb c 0) _ (at start_at class_starts refl c g) (lt-leb c 0 h) in
    let f = both_right (leb 1 s) _ e in
    let some = leb-true 1 s (both_left (leb 1 s) _ e) in
    let r = leb-true (7 ^ (c - 1)) (s * 5 ^ (c - 1)) (both_left (reaches base (c - 1) s) _ f) in
    let n = leb-false (7 ^ (c - 1)) ((s - 1) * 5 ^ (c - 1)) (not-true _ (both_right (reaches base (c - 1) s) _ f)) in
    start_eq base (omega arith) (omega arith) c s
    (record { reached = r; before = λ v l. let k : v ≤ s - 1 = omega arith in omega (arith, mul-le-mul_right (5 ^ (c - 1)) k) })

pub numbers_right : (c : ℕ) → used_class c ≡ true → class_number base c ≡ get_or class_numbers c 0
unfolding class_numbers
numbers_right zero t = number_none
numbers_right (suc n) t =
    let c = suc n in
    let u = used_says c t in
    let r = get_or class_numbers c 0 in
    let x = 7 ^ (2 * c - 1) in
    let y = 5 ^ (2 * c - 1) in
    let e = holds_other (not (holding c)) _ (at number_at class_numbers refl c u.0) (not_fails (holding c) (both (leb 1 c) _ (le-leb 1 c (omega arith)) t)) in
    let pos = one-le-pow (2 * c - 1) 5 (omega arith) in
    root_unique x y pos (class_number base c) r (number_is base (omega arith) (omega arith) c (omega arith))
    (root_of x y pos r (leb-true _ _ (both_left (leb (r * r * y) x) _ e)) (ltb-true _ _ (both_right (leb (r * r * y) x) _ e)))

-- ---- a class beside its number

-- r lies in the class, below 2^31, and no count of the class is more than 5/4 away from it
abbrev close_at : ℕ → ℕ → Bool
close_at c r =
    not (holding c)
    || in_class base c r && (ltb r (2 ^ 31) && (leb (4 * r) (5 * get_or class_starts c 0) && leb (4 * (get_or class_starts (suc c) 0 - 1)) (5 * r)))

-- what the test says of a class's number
pub record Close (c r : ℕ) : Type 0 where
  pub inside : Class base r c
  pub small : r < 2 ^ 31
  pub from_below : 4 * r ≤ 5 * class_start base c
  pub from_above : 4 * (class_start base (suc c) - 1) ≤ 5 * r

pub close : (c : ℕ) → 1 ≤ c → used_class c ≡ true → Close c (class_number base c)
unfolding class_starts class_numbers
close c h t =
    let u = used_says c t in
    let r = get_or class_numbers c 0 in
    let e = holds_other (not (holding c)) _ (at close_at class_numbers refl c u.0) (not_fails (holding c) (both (leb 1 c) _ (le-leb 1 c h) t)) in
    let f = both_right (in_class base c r) _ e in
    let g = both_right (ltb r (2 ^ 31)) _ f in
    let i = both_left (in_class base c r) _ e in
    rw (numbers_right c t)
    (record {
      inside =
          record {
            least = h;
            reached = leb-true _ _ (both_left (reaches base (c - 1) r) _ i);
            not_next = leb-false _ _ (not-true _ (both_right (reaches base (c - 1) r) _ i));
          };
      small = ltb-true _ _ (both_left (ltb r (2 ^ 31)) _ f);
      from_below = rw (starts_right c h (omega arith)) (leb-true _ _ (both_left (leb (4 * r) (5 * get_or class_starts c 0)) _ g));
      from_above = rw (starts_right (suc c) (omega arith) (omega arith)) (leb-true _ _ (both_right (leb (4 * r) (5 * get_or class_starts c 0)) _ g));
    })

-- class 0 is beside its number too
pub number_small : (c : ℕ) → used_class c ≡ true → class_number base c < 2 ^ 31
number_small zero t = omega (arith, number_none)
number_small (suc c) t = (close (suc c) (omega arith) t).small

pub number_has_class : (c : ℕ) → used_class c ≡ true → class_of base (class_number base c) ≡ c
number_has_class zero t = class_none base (omega arith) (omega arith) _ number_none
number_has_class (suc c) t = class_eq base (omega arith) (omega arith) _ (suc c) (close (suc c) (omega arith) t).inside

-- a count and the number of its class
pub record Within (v r : ℕ) : Type 0 where
  pub count : 4 * v ≤ 5 * r
  pub number : 4 * r ≤ 5 * v

pub count_close : (v : ℕ) → v ≤ limit → Within v (class_number base (class_of base v))
count_close zero l =
    let z = ap (class_number base) (class_none base (omega arith) (omega arith) 0 refl) ∙ number_none in
    record { count = omega arith; number = omega arith }
count_close (suc n) l =
    let v = suc n in
    let c = class_of base v in
    let p = class_is base (omega arith) (omega arith) v (omega arith) in
    let k = close c p.least (class_used v l) in
    let from = start_le base (omega arith) (omega arith) v c p in
    let to = below_next base (omega arith) (omega arith) v c p in
    record { count = omega (arith, k.from_above); number = omega (arith, k.from_below) }
