-- What stands behind a worksheet's answers: the running totals that are lent are those of the definition, and the sums that are added up on the way
-- are small.
-- Assumes nothing.
use mathlib.Core.Path.{◌≡◌, sym, ap, subst, ◌∙◌}
use mathlib.Core.Bool.{true}
use mathlib.Core.List.{List}
use Prim.Native.Nat.{ℕ, suc, ◌+◌, ◌-◌, ◌≤◌, ◌<◌}
use native.Mathlib.Omega.{arith}
use borrow.Author.Tests.{eqb-true, not-false}
use Rattle.laws.proofs.EachLaws.{none_at}
use Rattle.laws.proofs.Tests.{is_false}
use Rattle.words_rules.specs.Words.{word, entries, buckets}
use Rattle.words_rules.specs.Finding.{bucket_of, bucket_by_halving}
use Rattle.words_rules.proofs.Proved.{histogram}
use Rattle.estimate_rules.specs.declared.Fraction.{Fraction}
use Rattle.estimate_rules.specs.Fraction.{number, plus, sum_of}
use Rattle.estimate_rules.specs.Exact.{bucket_piece, exact}
use Rattle.estimate_rules.specs.Running.{running_total, total_places}
use Rattle.estimate_rules.specs.Worksheet.{wrong_at, totals_fault}
use Rattle.estimate_rules.proofs.FractionLaws.{nothing_plus}
use Rattle.estimate_rules.proofs.RunningLaws.{running_rises, in_first, in_last, in_order, sum_first, sum_before, sum_last, by_totals}
use Rattle.estimator.specs.Private.Adding.{Small}
use Rattle.estimator.specs.Private.Sheets.{WithTotals}
use Rattle.estimator.proofs.WalkLaws.{buckets_small}

-- a place that is needed holds its running total
total_is : (ws totals : List ℕ) → WithTotals ws totals → (i : ℕ) → i ≤ buckets ws → word totals i ≡ running_total ws i
unfolding totals_fault
total_is ws totals t i h =
    eqb-true _ _ (not-false _ (none_at (total_places ws) (wrong_at ws totals) t.right i (omega arith)))

-- where the sentence is not true of them, a place below those needed is right
pub place_right : (ws totals : List ℕ) (i : ℕ) → (true ≡ totals_fault ws totals → ⊥) → i < total_places ws → word totals i ≡ running_total ws i
unfolding totals_fault
place_right ws totals i h l =
    let f = is_false (totals_fault ws totals) (λ t. h (sym t)) in
    eqb-true _ _ (not-false _ (none_at (total_places ws) (wrong_at ws totals) f i l))

pub few : (ws totals : List ℕ) → WithTotals ws totals → buckets ws ≤ 65536
few ws totals t = let l = histogram.limits ws t.readable in omega (arith, l.most_buckets, l.most_entries)

-- a and b are the buckets of the first and the last entry of the range from x to y: what is read and added up for them
pub record Ends (ws totals : List ℕ) (x y a b : ℕ) : Type 0 where
  pub first_in : a < buckets ws
  pub last_in : b < buckets ws
  -- what the first gives
  pub first_small : (s : Fraction) → s ≡ bucket_piece ws x y a → Small s
  -- in one bucket
  pub in_one : a ≡ b → (s : Fraction) → s ≡ bucket_piece ws x y a → s ≡ exact ws x y
  -- in two: the first, those between, and the last
  pub between_some : (a ≡ b → ⊥) → word totals (a + 1) ≤ word totals b
  pub before_small : (a ≡ b → ⊥) → (s t : Fraction) → s ≡ bucket_piece ws x y a → t ≡ number (word totals b - word totals (a + 1)) → Small (plus s t)
  pub all_small : (a ≡ b → ⊥) → (s t r u : Fraction) → s ≡ bucket_piece ws x y a → t ≡ number (word totals b - word totals (a + 1)) → r ≡ plus s t
      → u ≡ bucket_piece ws x y b → Small (plus r u)
  pub all_is : (a ≡ b → ⊥) → (s t r u : Fraction) → s ≡ bucket_piece ws x y a → t ≡ number (word totals b - word totals (a + 1)) → r ≡ plus s t
      → u ≡ bucket_piece ws x y b → plus r u ≡ exact ws x y

module _ (ws totals : List ℕ) (t : WithTotals ws totals) (x y : ℕ) (some : x < y) (within : y ≤ entries ws) where
  module _ (a b : ℕ) (p : a ≡ bucket_of ws x) (q : b ≡ bucket_of ws (y - 1)) where
    abbrev f : ℕ → Fraction
    f = bucket_piece ws x y

    first_in : a < buckets ws
    first_in = omega (arith, (in_first ws t.readable x y some within).is_bucket)

    last_in : b < buckets ws
    last_in = omega (arith, (in_last ws t.readable x y some within).is_bucket)

    -- nothing is added before the first
    first_is : sum_of (suc (bucket_of ws x)) (bucket_piece ws x y) ≡ bucket_piece ws x y (bucket_of ws x)
    unfolding sum_of
    first_is = ap (λ (s : Fraction). plus s (f (bucket_of ws x))) (sum_first ws t.readable x y some within) ∙ nothing_plus (f (bucket_of ws x))

    first_small : (s : Fraction) → s ≡ bucket_piece ws x y a → Small s
    first_small s e =
        subst Small (first_is ∙ sym (e ∙ ap f p))
        (buckets_small ws t.readable x y (suc (bucket_of ws x)) (in_first ws t.readable x y some within).is_bucket)

    in_one : a ≡ b → (s : Fraction) → s ≡ bucket_piece ws x y a → s ≡ exact ws x y
    in_one e s r = r ∙ ap f p ∙ sym ((by_totals ws t.readable x y some within).within_one (omega arith))

    module _ (apart : a ≡ b → ⊥) where
      in_turn : a < b
      in_turn = omega (arith, in_order ws t.readable x y some within)

      between_some : word totals (a + 1) ≤ word totals b
      between_some =
          omega (arith, total_is ws totals t (a + 1) (omega (arith, in_turn, last_in)), total_is ws totals t b (omega (arith, last_in)), running_rises ws (a + 1) b (omega (arith, in_turn)))

      module _ (s u : Fraction) (e : s ≡ bucket_piece ws x y a) (g : u ≡ number (word totals b - word totals (a + 1))) where
        -- the first bucket and those between
        before_last : plus s u ≡ sum_of b (bucket_piece ws x y)
        before_last =
            let v = total_is ws totals t b (omega (arith, last_in)) in
            let w = total_is ws totals t (a + 1) (omega (arith, in_turn, last_in)) in
            (λ i. plus (e i) (g i))
            ∙ (λ i. plus (f a) (number (v i - w i)))
            ∙ (λ i. plus (f (p i)) (number (running_total ws (q i) - running_total ws (p i + 1))))
            ∙ sym (sum_before ws t.readable x y some within (bucket_of ws (y - 1)) (omega (arith, in_turn)) (omega arith))
            ∙ ap (λ (n : ℕ). sum_of n f) (sym q)

        -- and the last
        all : (r z : Fraction) → r ≡ plus s u → z ≡ bucket_piece ws x y b → plus r z ≡ sum_of (suc b) (bucket_piece ws x y)
        unfolding sum_of
        all r z k h = let l = k ∙ before_last in λ i. plus (l i) (h i)

  pub ends : (a b : ℕ) → a ≡ bucket_by_halving ws x → b ≡ bucket_by_halving ws (y - 1) → Ends ws totals x y a b
  ends a b first last =
      let p = first ∙ (histogram.entries ws t.readable).halved x (omega arith) in
      let q = last ∙ (histogram.entries ws t.readable).halved (y - 1) (omega arith) in
      record {
        first_in = first_in a b p q;
        last_in = last_in a b p q;
        first_small = first_small a b p q;
        in_one = in_one a b p q;
        between_some = between_some a b p q;
        before_small = λ d s u e g. subst Small (sym (before_last a b p q d s u e g)) (buckets_small ws t.readable x y b (omega (arith, last_in a b p q)));
        all_small = λ d s u r z e g k h. subst Small (sym (all a b p q d s u e g r z k h)) (buckets_small ws t.readable x y (suc b) (last_in a b p q));
        all_is = λ d s u r z e g k h.
            all a b p q d s u e g r z k h ∙ ap (λ (n : ℕ). sum_of (suc n) (bucket_piece ws x y)) q ∙ sym (sum_last ws t.readable x y some within);
      }
