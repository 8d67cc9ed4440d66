-- The claims of specs/Sharper.antt: what is within p but for two excused cuts, or within q but for one, is within the larger of the two factors.
-- Assumes nothing.
use mathlib.Core.Path.{◌≡◌, ap, subst, sym}
use mathlib.Core.Bool.{Bool, true, false, cond}
use mathlib.Core.List.{List}
use mathlib.Core.Logic.{⊎_elim}
use Prim.Native.Nat.{ℕ, ◌-◌, ◌*◌, ◌≤◌, ◌<◌}
use native.Mathlib.Nat.{le_of_lt, mul-pos, mul-le-mul_left, mul-le-mul_right, mul-lt-mul_of_pos_right, le_of_mul-le-mul_right, lt_of_mul-lt-mul_right, eq-zero-or-pos}
use native.Mathlib.Omega.{arith}
use borrow.Author.Tests.{leb-true, leb-false}
use lib.Dec.{leb}
use lib.ListN.{length}
use Rattle.laws.specs.Refusal.{refusal}
use Rattle.laws.specs.Sums.{part_sum}
use Rattle.laws.proofs.Tests.{tested}
use Rattle.counts_rules.specs.Class.{class_value}
use Rattle.counts_rules.specs.Claims.{total_value}
use Rattle.counts_rules.proofs.Proved.{classes, totals}
use Rattle.words_rules.specs.Words.{entries, theta, qn, qd, start, span}
use Rattle.words_rules.specs.Decoded.{bucket_at, bucketlet_start, width_at}
use Rattle.words_rules.proofs.Proved.{histogram}
use Rattle.list_rules.specs.Quality.{quality, input_sentences}
use Rattle.list_rules.proofs.SoundLaws.{sound_of}
use Rattle.fit.proofs.AcceptedLaws.{Fitting, fitting}
use Rattle.build_rules.specs.Words.{words}
use Rattle.build_rules.proofs.WidthLaws.{count_small}
use Rattle.build_rules.proofs.ReadBack.{entries_are, theta_is, qn_is, qd_is}
use Rattle.build_rules.proofs.Proved.{building}
use Rattle.accuracy.specs.Claims.{count, answer, Within}
use Rattle.accuracy.specs.Sharper.{NoLarger, Smaller, larger, general_factor, sharp_factor, numbers_factor, Keep, WholeWithin, UpTo, SharperRule, Sharp, Sharpness}
use Rattle.accuracy.proofs.Close.{close_more}
use Rattle.accuracy.proofs.Estimate.{range_ways}
use Rattle.accuracy.proofs.Answers.{within, whole_ranges}

-- ---- the larger of two fractions

-- what is shown of either where it is the larger is shown of that
by_larger : (a b : ℕ × ℕ) (P : ℕ × ℕ → Type 0) → (NoLarger b a → P a) → (Smaller a b → P b) → P (larger a b)
by_larger a b P first second =
    let t = leb (b.0 * a.1) (a.0 * b.1) in
    ⊎_elim
    (λ (e : t ≡ true). subst (λ (c : Bool). P (cond c a b)) (sym e) (first (leb-true _ _ e)))
    (λ (e : t ≡ false). subst (λ (c : Bool). P (cond c a b)) (sym e) (second (leb-false _ _ e)))
    (tested t)

larger_of_two : (a b : ℕ × ℕ) → NoLarger a (larger a b) × NoLarger b (larger a b)
larger_of_two a b = by_larger a b (λ (c : ℕ × ℕ). NoLarger a c × NoLarger b c) (λ h. (omega arith, h)) (λ h. (le_of_lt h, omega arith))

-- within a factor, and so within one that is not smaller
wider : (a b : ℕ × ℕ) (less f v : ℕ) → 1 ≤ a.1 → 1 ≤ b.1 → NoLarger a b → Within a.0 a.1 less f v → Within b.0 b.1 less f v
wider a b less f v pos some le w =
    record {
      count_within = le_of_mul-le-mul_right {k = a.1} (omega (arith, mul-le-mul_right b.1 w.count_within, mul-le-mul_right v le)) pos;
      answer_within =
          lt_of_mul-lt-mul_right a.1 {m = b.1 * (v - less)}
          (omega (arith, mul-lt-mul_of_pos_right w.answer_within some, mul-le-mul_right f le));
    }

module _ (a b : ℕ × ℕ) (less f v : ℕ) (pos : 1 ≤ a.1) (some : 1 ≤ b.1) where
  abbrev Held : ℕ × ℕ → Type 0
  Held c = Within c.0 c.1 less f v

  of_first : Held a → Held (larger a b)
  of_first w = by_larger a b Held (λ h. w) (λ h. wider a b less f v pos some (le_of_lt h) w)

  of_second : Held b → Held (larger a b)
  of_second w = by_larger a b Held (λ h. wider b a less f v some pos h w) (λ h. w)

-- ---- the factor beside that of the general rule

module _ (p q : ℕ × ℕ) (k : ℕ) (up : UpTo q p) (h : 3 ≤ k) where
  fewer : k - 2 < k - 1
  fewer = omega arith

  no_larger : NoLarger (sharp_factor p q k) (general_factor q k)
  no_larger =
      by_larger (p.0 * k, p.1 * (k - 2)) (q.0 * k, q.1 * (k - 1)) (λ (f : ℕ × ℕ). NoLarger f (general_factor q k))
      (λ _. omega (arith, mul-le-mul_right (k * (k - 2)) up.most))
      (λ _. omega (arith, mul-le-mul_left (q.0 * k * q.1) (le_of_lt fewer)))

  smaller : 1 ≤ q.1 → Smaller p q → Smaller (sharp_factor p q k) (general_factor q k)
  smaller some less =
      by_larger (p.0 * k, p.1 * (k - 2)) (q.0 * k, q.1 * (k - 1)) (λ (f : ℕ × ℕ). Smaller f (general_factor q k))
      (λ _. omega (arith, mul-lt-mul_of_pos_right less (mul-pos {m = k} {n = k - 2} (omega arith) (omega arith))))
      (λ _. omega (arith, mul-lt-mul_of_pos_right fewer (mul-pos (mul-pos {m = q.0} {n = k} not_0 (omega arith)) some)))
    where
      not_0 : 0 < q.0
      not_0 = ⊎_elim (λ (z : q.0 ≡ 0). absurd (omega (arith, less, ap (λ (n : ℕ). n * p.1) z))) (λ (s : 0 < q.0). s) (eq-zero-or-pos q.0)

-- ---- any histogram that is accepted, and a factor up to q that its numbers keep to

module _ (p : ℕ × ℕ) (fs ws : List ℕ) (ok : Fitting fs ws) (up : UpTo (qn ws, qd ws) p) (keeps : WholeWithin p fs ws) where
  sharper : (x y k : ℕ) → x ≤ y → y ≤ entries ws → SharperRule p (theta ws) (qn ws, qd ws) k (count fs x y) (answer ws x y)
  sharper x y k h l g r =
      let limits = histogram.limits ws ok.readable in
      let two : 1 ≤ p.1 * (k - 2) = mul-pos up.positive (omega arith) in
      let one : 1 ≤ qd ws * (k - 1) = mul-pos limits.least_qd_lem (omega arith) in
      let a : ℕ × ℕ = (p.0 * k, p.1 * (k - 2)) in
      let b : ℕ × ℕ = (qn ws * k, qd ws * (k - 1)) in
      ⊎_elim
      (λ s. of_first a b 1 _ _ two one (within fs ws ok p.0 p.1 2 x y k up.positive up.least h l s (omega arith) r))
      (λ s. of_second a b 1 _ _ two one (within fs ws ok (qn ws) (qd ws) 1 x y k limits.least_qd_lem (omega (arith, limits.least_q)) h l (close_more s.close 1 (omega (arith, s.fewer))) (omega arith) r))
      (range_ways fs ws ok x y h p up keeps l)

  sharp : Sharp p fs ws (entries ws) (theta ws) (qn ws, qd ws)
  sharp = record { sharper = sharper; whole = whole_ranges fs ws ok p up.positive keeps }

-- ---- what the builder writes

module _ (fs : List ℕ) (theta qn qd : ℕ) (e : refusal (input_sentences fs theta qn qd) ≡ 0) where
  abbrev ws : List ℕ
  ws = words (quality theta qn qd) fs

  -- its classes and totals are those of the true counts
  keep_whole : (p : ℕ × ℕ) → Keep p class_value → Keep p total_value → WholeWithin p fs ws
  keep_whole p class total =
      let q = quality theta qn qd in
      let small = count_small q fs (sound_of fs theta qn qd e) in
      let rules = (building.built fs theta qn qd e).by_rule in
      record {
        bucketlets = λ b j h l some.
            let r = bucket_at ws b in
            let a = bucketlet_start r j in
            rw ((rules b h).as_wide j l).class_of_count (class (part_sum a (width_at r j) fs) (small a (width_at r j)));
        totals = λ b h. rw (rules b h).total_of_count (total (part_sum (start ws b) (span ws b) fs) (small (start ws b) (span ws b)));
      }

  of_numbers : (p : ℕ × ℕ) → Keep p class_value → Keep p total_value → UpTo (qn, qd) p → Sharp p fs ws (length fs) theta (qn, qd)
  of_numbers p class total up =
      let q = quality theta qn qd in
      let s = sound_of fs theta qn qd e in
      let ok = fitting fs ws (building.built fs theta qn qd e).accepted in
      let same = sharp p fs ws ok (rw (qn_is q fs s, qd_is q fs s) up) (keep_whole p class total) in
      rw (entries_are q fs s, theta_is q fs s, qn_is q fs s, qd_is q fs s) at same

-- ---- with 5/4

classes_keep : Keep numbers_factor class_value
classes_keep v h = record { count_at_most = classes.count_within v h; number_at_most = classes.number_within v h }

totals_keep : Keep numbers_factor total_value
totals_keep t h = record { count_at_most = omega (arith, totals.count_within t h); number_at_most = omega (arith, totals.number_within t h) }

pub sharpness : Sharpness
sharpness =
    record {
      larger_of_two = larger_of_two;
      no_larger = no_larger;
      smaller = λ p q k up some less h. smaller p q k up h some less;
      of_accepted = λ p fs ws t up keeps. sharp p fs ws (fitting fs ws t) up keeps;
      keep_whole = λ p class total fs theta qn qd e. keep_whole fs theta qn qd e p class total;
      of_numbers = λ p class total fs theta qn qd e up. of_numbers fs theta qn qd e p class total up;
      classes_keep = classes_keep;
      totals_keep = totals_keep;
      whole_within = λ fs theta qn qd e. keep_whole fs theta qn qd e numbers_factor classes_keep totals_keep;
      of_built = λ fs theta qn qd e. of_numbers fs theta qn qd e numbers_factor classes_keep totals_keep (least_q fs theta qn qd e);
    }
  where
    least_q : (fs : List ℕ) (theta qn qd : ℕ) → refusal (input_sentences fs theta qn qd) ≡ 0 → UpTo (qn, qd) numbers_factor
    least_q fs theta qn qd e = record { positive = omega arith; least = omega arith; most = omega (arith, (sound_of fs theta qn qd e).factor) }
