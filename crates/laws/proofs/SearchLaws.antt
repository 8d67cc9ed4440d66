-- Laws of the searches (specs/Search.antt): what `first` finds, that it is the only such number, the same of `largest` and `root`, and what halving
-- comes to.
-- Assumes nothing.
use mathlib.Core.Path.{◌≡◌, refl, sym, ap, subst, ◌∙◌}
use mathlib.Core.Bool.{Bool, true, false, not}
use mathlib.Core.Logic.{◌⊎◌, inl, inr, ⊎_elim}
use Prim.Native.Nat.{ℕ, zero, suc, ◌+◌, ◌-◌, ◌*◌, ◌/◌, ◌≤◌, ◌<◌}
use native.Mathlib.Nat.{eq-or-lt_of_le, le_antisymm, mul-le-mul, mul-le-mul_right, le_of_mul-le-mul_right}
use native.Mathlib.Omega.{arith}
use borrow.Author.Tests.{leb-true, leb-false, lt-ltb, le-ltb, not-true, not-false}
use lib.Dec.{leb}
use Rattle.laws.specs.Search.{or_after, first, largest, halved, Root, root}
use Rattle.laws.proofs.Tests.{true_not_false, not_holds}

-- r is what a search of the k numbers from n on finds
pub record Found (p : ℕ → Bool) (k n r : ℕ) : Type 0 where
  pub from : n ≤ r
  pub within : r ≤ n + k
  pub before : (m : ℕ) → n ≤ m → m < r → p m ≡ false
  pub passes : r < n + k → p r ≡ true

pub first_is : (p : ℕ → Bool) (k n : ℕ) → Found p k n (first p k n)
unfolding first
first_is p zero n = record { from = omega arith; within = omega arith; before = λ m g h. absurd (omega arith); passes = λ h. absurd (omega arith) }
first_is p (suc k) n = go (p n) refl (first_is p k (suc n))
  where
    go : (t : Bool) → p n ≡ t → Found p k (suc n) (first p k (suc n)) → Found p (suc k) n (or_after t n (first p k))
    go true e f = record { from = omega arith; within = omega arith; before = λ m g h. absurd (omega arith); passes = λ h. e }
    go false e f =
        record {
          from = omega (arith, f.from);
          within = omega (arith, f.within);
          before = λ m g h. ⊎_elim (λ (q : n ≡ m). ap p (sym q) ∙ e) (λ (q : n < m). f.before m q h) (eq-or-lt_of_le g);
          passes = λ h. f.passes (omega arith);
        }

-- what a search finds is the only such number
pub first_unique : (p : ℕ → Bool) (k n r : ℕ) → Found p k n r → first p k n ≡ r
first_unique p k n r g =
    let f = first_is p k n in
    let over : r < first p k n → ⊥ = λ l. true_not_false (g.passes (omega (arith, f.within))) (f.before r g.from l) in
    let under : first p k n < r → ⊥ = λ l. true_not_false (f.passes (omega (arith, g.within))) (g.before (first p k n) f.from l) in
    omega arith

-- so a number that passes, with none before it that does, is the one found
pub first_eq : (p : ℕ → Bool) (k n r : ℕ) → n ≤ r → r < n + k → ((m : ℕ) → n ≤ m → m < r → p m ≡ false) → p r ≡ true → first p k n ≡ r
first_eq p k n r g h b t = first_unique p k n r (record { from = g; within = omega arith; before = b; passes = λ _. t })

-- ---- halving

next_or_after : (a b : ℕ) → a < b → (b ≡ a + 1) ⊎ (a + 1 < b)
next_or_after a b h = ⊎_elim (λ (e : suc a ≡ b). inl (omega arith)) (λ (l : suc a < b). inr (omega arith)) (eq-or-lt_of_le h)

module _ (p : ℕ → Bool) where
  turn_up : (n low high m : ℕ) → low + 1 < high → m ≡ low + (high - low) / 2 → p m ≡ true → halved p (suc n) low high ≡ halved p n m high
  unfolding halved
  turn_up n low high m h e t = simp (lt-ltb (low + 1) high h) (rw (sym e) (simp t))

  turn_down : (n low high m : ℕ) → low + 1 < high → m ≡ low + (high - low) / 2 → p m ≡ false → halved p (suc n) low high ≡ halved p n low m
  unfolding halved
  turn_down n low high m h e f = simp (lt-ltb (low + 1) high h) (rw (sym e) (simp f))

  at_end : (n low high : ℕ) → high ≤ low + 1 → halved p n low high ≡ low
  unfolding halved
  at_end zero low high h = refl
  at_end (suc n) low high h = simp (le-ltb (low + 1) high h)

  -- a loop that halves is at low and high, has turns enough, and will come to r
  pub record Halving (r low high : ℕ) : Type 0 where
    pub turns : ℕ
    pub enough : high ≤ low + turns
    pub comes : halved p turns low high ≡ r

  pub halve_up : (r low high m : ℕ) → low + 1 < high → m ≡ low + (high - low) / 2 → p m ≡ true → Halving r low high → Halving r m high
  halve_up r low high m h e t i = go i.turns i.enough i.comes
    where
      go : (n : ℕ) → high ≤ low + n → halved p n low high ≡ r → Halving r m high
      go zero a c = absurd (omega arith)
      go (suc n) a c = record { turns = n; enough = omega arith; comes = sym (turn_up n low high m h e t) ∙ c }

  pub halve_down : (r low high m : ℕ) → low + 1 < high → m ≡ low + (high - low) / 2 → p m ≡ false → Halving r low high → Halving r low m
  halve_down r low high m h e f i = go i.turns i.enough i.comes
    where
      go : (n : ℕ) → high ≤ low + n → halved p n low high ≡ r → Halving r low m
      go zero a c = absurd (omega arith)
      go (suc n) a c = record { turns = n; enough = omega arith; comes = sym (turn_down n low high m h e f) ∙ c }

  pub halve_end : (r low high : ℕ) → high ≤ low + 1 → Halving r low high → low ≡ r
  halve_end r low high h i = sym (at_end i.turns low high h) ∙ i.comes

  -- r passes and the number after it, if that is below high, does not
  pub record Step (low high r : ℕ) : Type 0 where
    pub from : low ≤ r
    pub before : r < high
    pub passes : p r ≡ true
    pub next : r + 1 < high → p (r + 1) ≡ false

  turned : (n low high m : ℕ) → low + 1 < high → m ≡ low + (high - low) / 2 → (p m ≡ true → Step m high (halved p n m high)) → Step low m (halved p n low m)
      → Step low high (halved p (suc n) low high)
  turned n low high m h e up down = go (p m) refl
    where
      after : p m ≡ false → p (halved p n low m + 1) ≡ false
      after f =
          ⊎_elim
          (λ (q : m ≡ halved p n low m + 1). ap p (sym q) ∙ f)
          (λ (l : halved p n low m + 1 < m). down.next l)
          (next_or_after (halved p n low m) m down.before)

      go : (u : Bool) → p m ≡ u → Step low high (halved p (suc n) low high)
      go true u =
          let s = up u in
          subst (Step low high) (sym (turn_up n low high m h e u)) (record { from = omega (arith, s.from); before = s.before; passes = s.passes; next = s.next })
      go false u =
          subst (Step low high) (sym (turn_down n low high m h e u))
          (record { from = down.from; before = omega (arith, down.before); passes = down.passes; next = λ l. after u })

  pub halved_is : (n low high : ℕ) → high ≤ low + n → low < high → p low ≡ true → Step low high (halved p n low high)
  halved_is zero low high a l t = absurd (omega arith)
  halved_is (suc n) low high a l t =
      ⊎_elim
      (λ (e : high ≡ low + 1).
      subst (Step low high) (sym (at_end (suc n) low high (omega arith))) (record { from = omega arith; before = l; passes = t; next = λ h. absurd (omega arith) }))
      (λ (h : low + 1 < high).
      turned n low high (low + (high - low) / 2) h refl (λ u. halved_is n (low + (high - low) / 2) high (omega arith) (omega arith) u)
      (halved_is n low (low + (high - low) / 2) (omega arith) (omega arith) t))
      (next_or_after low high l)

-- l is the largest number up to k such that each from 1 to it passes
pub record Largest (p : ℕ → Bool) (k l : ℕ) : Type 0 where
  pub within : l ≤ k
  pub passing : (m : ℕ) → m < l → p (suc m) ≡ true
  pub next : l < k → p (suc l) ≡ false

pub largest_is : (p : ℕ → Bool) (k : ℕ) → Largest p k (largest p k)
unfolding largest
largest_is p k =
    let f = first_is (λ n. not (p (suc n))) k 0 in
    record {
      within = omega (arith, f.within);
      passing = λ m h. not-false _ (f.before m (omega arith) h);
      next = λ h. not-true _ (f.passes (omega arith));
    }

pub largest_unique : (p : ℕ → Bool) (k l : ℕ) → Largest p k l → largest p k ≡ l
unfolding largest
largest_unique p k l r =
    first_unique (λ n. not (p (suc n))) k 0 l
    (record { from = omega arith; within = omega (arith, r.within); before = λ m _ g. ap not (r.passing m g); passes = λ h. not_holds _ (r.next (omega arith)) })

module _ (x y : ℕ) (pos : 0 < y) where
  -- a root whose next square is too large is the root
  pub root_of : (r : ℕ) → r * r * y ≤ x → x < suc r * suc r * y → Root x y r
  root_of r h g =
      record {
        within = h;
        most = λ s k. let a : r < s → ⊥ = λ l. let b = mul-le-mul_right y (mul-le-mul l l) in omega arith in omega arith;
      }

  pub root_unique : (r s : ℕ) → Root x y r → Root x y s → r ≡ s
  root_unique r s a b = le_antisymm (b.most r a.within) (a.most s b.within)

  pub root_is : Root x y (root x y)
  unfolding root
  root_is =
      let l = largest_is (λ r. leb (r * r * y) x) x in
      record { within = within (root x y) l.passing; most = λ s k. let a : root x y < s → ⊥ = λ g. past (root x y) s k g l.within l.next in omega arith }
    where
      within : (r : ℕ) → ((m : ℕ) → m < r → leb (suc m * suc m * y) x ≡ true) → r * r * y ≤ x
      within zero h = omega arith
      within (suc m) h = leb-true _ _ (h m (omega arith))

      past : (r s : ℕ) → s * s * y ≤ x → r < s → r ≤ x → (r < x → leb (suc r * suc r * y) x ≡ false) → ⊥
      past r s k g w h = ⊎_elim (λ (e : r ≡ x). omega (arith, mul-le-mul_right y (mul-le-mul g g), mul-le-mul_right (suc r * suc r) pos)) (λ (l : r < x). omega (arith, leb-false (suc r * suc r * y) x (h l), mul-le-mul_right y (mul-le-mul g g))) (eq-or-lt_of_le w)

-- the root of a larger fraction is no smaller
pub root_mono : (x y u v : ℕ) → 0 < y → 0 < v → x * v ≤ u * y → root x y ≤ root u v
root_mono x y u v a b h =
    let r = root x y in
    (root_is u v b).most r (le_of_mul-le-mul_right {m = r * r * v} {k = y} (omega (arith, mul-le-mul_right v (root_is x y a).within)) a)
