-- Laws of classes for any base above 1. A power that a count reaches it reaches with each smaller exponent, and by Bernoulli's inequality
-- some power lies above it, so there is just one class.
-- Assumes nothing.
use mathlib.Core.Path.{◌≡◌, refl, sym, ap, ◌∙◌}
use mathlib.Core.Bool.{true, not}
use mathlib.Core.Logic.{⊎_elim}
use Prim.Native.Nat.{ℕ, zero, suc, ◌+◌, ◌-◌, ◌*◌, ◌^◌, ◌≤◌, ◌<◌}
use native.Mathlib.Nat.{eq-or-lt_of_le, le_trans, le_of_mul-le-mul_right, mul-le-mul_left, mul-le-mul_right, one-le-pow, pow-succ', pow-le-pow_left, pow-zero}
use native.Mathlib.Omega.{arith}
use borrow.Author.Tests.{leb-true, leb-false, lt-leb, not-true, not-false}
use lib.Pow.{pow-add}
use Rattle.laws.specs.Search.{first, Root}
use Rattle.laws.proofs.Tests.{true_not_false, both, both_left, both_right, not_holds}
use Rattle.laws.proofs.SearchLaws.{first_is, root_is, root_mono}
use Rattle.counts_rules.specs.Form.{Base}
use Rattle.counts_rules.specs.Class.{Class, reaches, in_class, class_holding, class_of, class_start, class_number}

-- v is at least base^k
abbrev pub Reached : Base → ℕ → ℕ → Type 0
Reached b k v = b.num ^ k ≤ v * b.den ^ k

module _ (b : Base) (above : b.den < b.num) (positive : 0 < b.den) where
  den_pos : (k : ℕ) → 0 < b.den ^ k
  den_pos k = one-le-pow k b.den positive

  num_pos : (k : ℕ) → 0 < b.num ^ k
  num_pos k = one-le-pow k b.num (omega arith)

  -- a power less
  reached_before : (n k v : ℕ) → Reached b (k + n) v → Reached b k v
  reached_before zero k v h = let e : k + 0 ≡ k = omega arith in rw e at h
  reached_before (suc n) k v h =
      let e : k + suc n ≡ suc (k + n) = omega arith in
      let g : Reached b (suc (k + n)) v = rw e at h in
      let i : b.num ^ (k + n) ≤ v * b.den ^ (k + n) =
      le_of_mul-le-mul_right {k = b.den}
      (omega (arith, g, pow-succ' b.num (k + n), ap (λ (x : ℕ). v * x) (pow-succ' b.den (k + n)), mul-le-mul_right (b.num ^ (k + n)) above))
      positive in
      reached_before n k v i

  pub reached_down : (j k v : ℕ) → j ≤ k → Reached b k v → Reached b j v
  reached_down j k v h r = let e : k ≡ j + (k - j) = omega arith in reached_before (k - j) j v (rw e at r)

  -- a larger count
  pub reached_up : (k v w : ℕ) → v ≤ w → Reached b k v → Reached b k w
  reached_up k v w h r = le_trans r (mul-le-mul_right (b.den ^ k) h)

  pub class_le : (v w c d : ℕ) → v ≤ w → Class b v c → Class b w d → c ≤ d
  class_le v w c d h p q =
      let above_d : d < c → ⊥ = λ l. let r = reached_up d v w h (reached_down d (c - 1) v (omega arith) p.reached) in omega (arith, q.not_next) in
      omega arith

  bernoulli : (k : ℕ) → b.den ^ k * (b.den + k) ≤ b.num ^ k * b.den
  bernoulli zero = rw (pow-zero b.den, pow-zero b.num) (omega arith)
  bernoulli (suc k) =
      let d = b.den in
      let n = b.num in
      omega (
        arith,
        ap (λ (x : ℕ). x * (d + suc k)) (pow-succ' d k),
        ap (λ (x : ℕ). x * d) (pow-succ' n k),
        mul-le-mul_right (n ^ k * d) above,
        mul-le-mul_left d (bernoulli k),
        bernoulli k,
      )

  -- no count reaches every power
  not_all : (v : ℕ) → v * b.den ^ (v * b.den) < b.num ^ (v * b.den)
  not_all v =
      let k = v * b.den in
      let h : b.den ^ k * (1 + v) ≤ b.num ^ k = le_of_mul-le-mul_right {k = b.den} (omega (arith, bernoulli k)) positive in
      omega (arith, den_pos k, h)

  holding_is : (v : ℕ) → 1 ≤ v → Class b v (class_holding b v)
  holding_is v h =
      let k = v * b.den in
      let f = first_is (λ c. not (reaches b c v)) k 0 in
      let c = first (λ c. not (reaches b c v)) k 0 in
      let g = first_is (λ c. in_class b c v) k 1 in
      let some : 1 ≤ c = ⊎_elim (λ (e : 0 ≡ c). absurd (none c (sym e) (past c f.within f.passes))) (λ (l : 0 < c). l) (eq-or-lt_of_le (omega arith)) in
      let inside : in_class b c v ≡ true = both (reaches b (c - 1) v) (not (reaches b c v)) (not-false _ (f.before (c - 1) (omega arith) (omega arith))) (past c f.within f.passes) in
      let up_to : c < class_holding b v → ⊥ = λ l. true_not_false inside (g.before c some l) in
      let t : in_class b (class_holding b v) v ≡ true = g.passes (omega (arith, f.within)) in
      record {
        least = g.from;
        reached = leb-true _ _ (both_left (reaches b (class_holding b v - 1) v) _ t);
        not_next = leb-false _ _ (not-true _ (both_right (reaches b (class_holding b v - 1) v) _ t));
      }
    where
      past : (c : ℕ) → c ≤ 0 + v * b.den → (c < 0 + v * b.den → not (reaches b c v) ≡ true) → not (reaches b c v) ≡ true
      past c w p =
          ⊎_elim (λ (e : c ≡ v * b.den). not_holds _ (lt-leb (b.num ^ c) (v * b.den ^ c) (rw e (not_all v)))) (λ (l : c < v * b.den). p (omega arith)) (eq-or-lt_of_le (omega arith))

      none : (c : ℕ) → c ≡ 0 → not (reaches b c v) ≡ true → ⊥
      none c e p = let l = leb-false (b.num ^ c) (v * b.den ^ c) (not-true _ p) in let l0 : v * b.den ^ 0 < b.num ^ 0 = rw e at l in omega (arith, rw (pow-zero b.den, pow-zero b.num) at l0)

  pub class_is : (v : ℕ) → 1 ≤ v → Class b v (class_of b v)
  unfolding class_of
  class_is zero h = absurd (omega arith)
  class_is (suc v) h = holding_is (suc v) h

  pub class_none : (v : ℕ) → v ≡ 0 → class_of b v ≡ 0
  unfolding class_of
  class_none zero e = refl
  class_none (suc v) e = absurd (omega arith)

  pub only_none : (v : ℕ) → class_of b v ≡ 0 → v ≡ 0
  only_none zero e = refl
  only_none (suc v) e = absurd (omega (arith, (class_is (suc v) (omega arith)).least))

  count_pos : (v c : ℕ) → Class b v c → 1 ≤ v
  count_pos zero c p = omega (arith, num_pos (c - 1), p.reached)
  count_pos (suc v) c p = omega arith

  pub class_eq : (v c : ℕ) → Class b v c → class_of b v ≡ c
  class_eq v c p =
      let q = class_is v (count_pos v c p) in
      omega (arith, class_le v v c (class_of b v) (omega arith) p q, class_le v v (class_of b v) c (omega arith) q p)

  pub class_mono : (v w : ℕ) → v ≤ w → class_of b v ≤ class_of b w
  class_mono zero w h = omega (arith, class_none 0 refl)
  class_mono (suc v) w h = class_le (suc v) w _ _ h (class_is (suc v) (omega arith)) (class_is w (omega arith))

  -- s is the count with which the class begins
  pub record Start (c s : ℕ) : Type 0 where
    pub reached : Reached b (c - 1) s
    pub before : (v : ℕ) → v < s → v * b.den ^ (c - 1) < b.num ^ (c - 1)

  pub start_is : (c : ℕ) → Start c (class_start b c)
  unfolding class_start
  start_is c =
      let f = first_is (λ v. reaches b (c - 1) v) (b.num ^ c) 0 in
      record { reached = last (class_start b c) f.within f.passes; before = λ v l. leb-false _ _ (f.before v (omega arith) l) }
    where
      last : (s : ℕ) → s ≤ 0 + b.num ^ c → (s < 0 + b.num ^ c → reaches b (c - 1) s ≡ true) → Reached b (c - 1) s
      last s w p =
          ⊎_elim
          (λ (e : s ≡ b.num ^ c).
          let l = mul-le-mul_right (b.num ^ c) (den_pos (c - 1)) in
          let k : b.num ^ (c - 1) ≤ b.num ^ c = pow_up (c - 1) c (omega arith) in
          rw e (omega arith))
          (λ (l : s < b.num ^ c). leb-true _ _ (p (omega arith)))
          (eq-or-lt_of_le (omega arith))
        where
          pow_up : (i j : ℕ) → i ≤ j → b.num ^ i ≤ b.num ^ j
          pow_up i j h =
              let e : j ≡ i + (j - i) = omega arith in
              let f : b.num ^ j ≡ b.num ^ i * b.num ^ (j - i) = ap (λ (n : ℕ). b.num ^ n) e ∙ pow-add b.num i (j - i) in
              omega (arith, f, mul-le-mul_left (b.num ^ i) (num_pos (j - i)))

  pub start_eq : (c s : ℕ) → Start c s → class_start b c ≡ s
  start_eq c s p =
      let q = start_is c in
      let over : s < class_start b c → ⊥ = λ l. omega (arith, q.before s l, p.reached) in
      let under : class_start b c < s → ⊥ = λ l. omega (arith, p.before (class_start b c) l, q.reached) in
      omega arith

  pub start_least : (c v : ℕ) → Reached b (c - 1) v → class_start b c ≤ v
  start_least c v r = let a : v < class_start b c → ⊥ = λ l. omega (arith, (start_is c).before v l, r) in omega arith

  -- a count of a class is not below its start, and below the next one's
  pub start_le : (v c : ℕ) → Class b v c → class_start b c ≤ v
  start_le v c p = start_least c v p.reached

  pub below_next : (v c : ℕ) → Class b v c → v < class_start b (suc c)
  below_next v c p =
      let e : suc c - 1 ≡ c = omega arith in
      let a : class_start b (suc c) ≤ v → ⊥ = λ l. omega (arith, reached_up c _ v l (rw e at (start_is (suc c)).reached), p.not_next) in
      omega arith

  -- num^i den^j is at most num^j den^i
  cross : (n i : ℕ) → b.num ^ i * b.den ^ (i + n) ≤ b.num ^ (i + n) * b.den ^ i
  cross n i =
      let d = pow-le-pow_left {n = b.den} {m = b.num} (omega arith) n in
      omega (
        arith,
        ap (λ (x : ℕ). b.num ^ i * x) (pow-add b.den i n),
        ap (λ (x : ℕ). x * b.den ^ i) (pow-add b.num i n),
        mul-le-mul_left (b.num ^ i * b.den ^ i) d,
      )

  pub number_is : (c : ℕ) → 1 ≤ c → Root (b.num ^ (2 * c - 1)) (b.den ^ (2 * c - 1)) (class_number b c)
  unfolding class_number
  number_is zero h = absurd (omega arith)
  number_is (suc c) h = root_is (b.num ^ (2 * suc c - 1)) (b.den ^ (2 * suc c - 1)) (den_pos (2 * suc c - 1))

  pub number_mono : (c d : ℕ) → c ≤ d → class_number b c ≤ class_number b d
  unfolding class_number
  number_mono zero d h = omega arith
  number_mono (suc c) zero h = absurd (omega arith)
  number_mono (suc c) (suc d) h =
      let i = 2 * suc c - 1 in
      let j = 2 * suc d - 1 in
      let e : j ≡ i + (j - i) = omega arith in
      root_mono (b.num ^ i) (b.den ^ i) (b.num ^ j) (b.den ^ j) (den_pos i) (den_pos j) (rw e (cross (j - i) i))
