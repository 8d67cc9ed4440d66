-- What is answered beside the sum of an estimate, rounded up: the same, or 1 where that is 0. So what is within a factor of the one is within it of the
-- other. Assumes nothing.
use mathlib.Core.Path.{◌≡◌, ap, subst, sym}
use mathlib.Core.List.{List}
use mathlib.Core.Logic.{◌⊎◌, inl, inr, ⊎_elim}
use Prim.Native.Nat.{ℕ, ◌-◌, ◌*◌, ◌≤◌, ◌<◌}
use native.Mathlib.Nat.{mul-le-mul, mul-le-mul_right}
use native.Mathlib.Omega.{arith}
use Rattle.laws.specs.Reply.{Reply}
use Rattle.words_rules.specs.Words.{entries, theta}
use Rattle.words_rules.proofs.Proved.{histogram}
use Rattle.fit.proofs.AcceptedLaws.{Fitting}
use Rattle.estimate_rules.specs.Fraction.{rounded}
use Rattle.estimate_rules.specs.Exact.{exact}
use Rattle.estimate_rules.specs.Asking.{estimate}
use Rattle.estimate_rules.proofs.AskingLaws.{raised_or, reply_is}
use Rattle.accuracy.specs.Claims.{count, answer, Within, WholeRanges}
use Rattle.accuracy.specs.Sharper.{WholeWithin}
use Rattle.accuracy.proofs.Close.{Close, close_within}
use Rattle.accuracy.proofs.Uncut.{uncut_within}
use Rattle.accuracy.proofs.Several.{either}

-- an answer n of which the sum rounded up is m: they are the same, or m is 0 and n is 1
abbrev pub Answered : ℕ → ℕ → Type 0
Answered m n = (n ≡ m) ⊎ ((m ≡ 0) × (n ≡ 1))

-- above a multiple of theta, which is at least 1, it is the sum that is
pub sum_above : (t f m n : ℕ) → 1 ≤ t → Answered m n → (t < f) ⊎ (t < n) → (t < f) ⊎ (t < m)
sum_above t f m n h a r = ⊎_elim (λ e. either r (λ g. g) (λ g. omega arith)) (λ e. ⊎_elim inl (λ g. absurd (omega (arith, e.1))) r) a

-- and what is within a factor for 0 is so for 1
answer_within : (d e f m n : ℕ) → Answered m n → Within d e 1 f m → Within d e 1 f n
answer_within d e f m n a w =
    ⊎_elim
    (λ (s : n ≡ m). subst (Within d e 1 f) (sym s) w)
    (λ (s : (m ≡ 0) × (n ≡ 1)). subst (Within d e 1 f) (sym s.1) (one (subst (Within d e 1 f) s.0 w)))
    a
  where
    one : Within d e 1 f 0 → Within d e 1 f 1
    one w = record { count_within = omega (arith, w.count_within); answer_within = w.answer_within }

-- within a factor, without a rest, but for a count of 0
answer_whole : (d e f m n : ℕ) → 1 ≤ e → Answered m n → (e * f ≤ d * m) × (e * m ≤ d * f)
    → (e * f ≤ d * n) × ((e * n ≤ d * f) ⊎ ((f ≡ 0) × (n ≡ 1)))
answer_whole d e f m n h a w =
    ⊎_elim
    (λ (s : n ≡ m). rw s (w.0, inl w.1))
    (λ (s : (m ≡ 0) × (n ≡ 1)).
    let low : e * f ≤ d * 0 = subst (λ (m : ℕ). e * f ≤ d * m) s.0 w.0 in
    let none : f ≡ 0 = omega (arith, low, mul-le-mul_right f h) in
    (omega (arith, low), inr (none, s.1)))
    a

module _ (fs ws : List ℕ) (ok : Fitting fs ws) where
  pub answer_is : (x y : ℕ) → x ≤ y → y ≤ entries ws → Answered (rounded (exact ws x y)) (answer ws x y)
  unfolding estimate
  answer_is x y h l =
      subst (Answered (rounded (exact ws x y))) (sym (ap (λ (r : Reply). r.value) (reply_is ws x y ok.readable h l))) (raised_or x y (rounded (exact ws x y)))

  -- a multiple of theta is at least 1
  some : (k : ℕ) → 1 ≤ k → 1 ≤ k * theta ws
  some k h = omega (arith, mul-le-mul h (histogram.limits ws ok.readable).least_theta)

  -- the lemma, for what is answered
  pub within : (pn pd m x y k : ℕ) → 1 ≤ pd → pd ≤ pn → x ≤ y → y ≤ entries ws → Close pn pd (theta ws) m (count fs x y) (exact ws x y) → m < k
      → (k * theta ws < count fs x y) ⊎ (k * theta ws < answer ws x y) → Within (pn * k) (pd * (k - m)) 1 (count fs x y) (answer ws x y)
  within pn pd m x y k pos above h l s g r =
      let a = answer_is x y h l in
      answer_within _ _ _ _ _ a (close_within s k pos above g (sum_above (k * theta ws) _ _ _ (some k (omega arith)) a r))

  -- ranges that cut no bucketlet, by the factor that the numbers keep to
  pub whole_ranges : (p : ℕ × ℕ) → 1 ≤ p.1 → WholeWithin p fs ws → WholeRanges fs ws (entries ws) p.0 p.1
  whole_ranges p pos keeps x y h l from to =
      answer_whole p.0 p.1 _ _ _ pos (answer_is x y h l) (uncut_within fs ws ok x y h from to p keeps l)
