-- The claims of specs/Claims.antt, from the laws beside this file. Assumes nothing.
use mathlib.Core.Path.{◌≡◌, refl, sym, ap, subst, ◌∙◌}
use mathlib.Core.List.{List}
use mathlib.Core.Logic.{⊎_elim}
use Prim.Native.Nat.{ℕ, ◌+◌, ◌*◌, ◌^◌, ◌≤◌, ◌<◌}
use native.Mathlib.Nat.{mul-le-mul_right, le_trans, pow-le-pow_right, eq-zero-or-pos}
use native.Mathlib.Omega.{arith}
use Rattle.laws.specs.Reply.{Reply, answered}
use Rattle.laws.specs.Sums.{sum}
use Rattle.laws.specs.Tabulate.{tabulate}
use Rattle.laws.proofs.TabulateLaws.{sums_within}
use Rattle.words_rules.specs.Limits.{max_width}
use Rattle.words_rules.specs.Words.{entries, buckets}
use Rattle.words_rules.specs.Reading.{Readable}
use Rattle.words_rules.proofs.Proved.{histogram}
use Rattle.estimate_rules.specs.declared.Fraction.{Fraction}
use Rattle.estimate_rules.specs.Fraction.{numerator, rounded}
use Rattle.estimate_rules.specs.Exact.{bucket_piece, exact}
use Rattle.estimate_rules.specs.Asking.{raised, estimate, estimate_reply}
use Rattle.estimate_rules.specs.Ranges.{range_count, x_at, y_at}
use Rattle.estimate_rules.specs.Worksheet.{answer_at}
use Rattle.estimate_rules.specs.Search.{search_fault, search_reply}
use Rattle.estimate_rules.specs.Claims.{Sizes, RoundedUp, Estimates, RunningTotals, Worksheets, Searches}
use Rattle.estimate_rules.proofs.FractionLaws.{rounded_reaches, rounded_most, sum_none}
use Rattle.estimate_rules.proofs.AskingLaws.{raised_or, raised_empty, raised_some, reply_is}
use Rattle.estimate_rules.proofs.CutLaws.{cuts, cuts_most}
use Rattle.estimate_rules.proofs.SpanLaws.{bucket_none, exact_holds}
use Rattle.estimate_rules.proofs.RunningLaws.{joined, difference, running_small, by_totals}
use Rattle.estimate_rules.proofs.WorksheetLaws.{filled_fits, filled_past, filled_length, each_single, totals_past, totals_past_answers, answers_past, answers_length, empty as empty_sheet}
use Rattle.estimate_rules.proofs.SearchLaws.{search_readable, most_ranges, search_answered, search_refused, searched, single}
use Rattle.estimate_rules.proofs.SizeLaws.{Sized, sized_joined, bucketlet_sized, total_sized}

rounded_up : (e : Fraction) → 0 < e.bottom → RoundedUp e (rounded e)
rounded_up e p = record { not_below = rounded_reaches e p; least = λ m. rounded_most e m p }

module _ (ws : List ℕ) (readable : Readable ws) (x y : ℕ) where
  sized : Sized x y 0 (entries ws) (exact ws x y)
  sized = exact_holds ws readable x y (Sized x y) (sized_joined x y) (λ b j h l. bucketlet_sized ws readable x y b h j l) (λ b h t. total_sized ws readable x y b h)

  two_cuts : cuts x 0 (entries ws) + cuts y 0 (entries ws) ≤ 2
  two_cuts = omega (arith, cuts_most x 0 (entries ws), cuts_most y 0 (entries ws))

  top_small : (exact ws x y).top ≤ 2 * 2 ^ 31 * (exact ws x y).bottom
  top_small = omega (arith, sized.top_small, mul-le-mul_right (2 ^ 31 * (exact ws x y).bottom) two_cuts)

  answer_small : estimate ws x y < 2 ^ 48
  unfolding estimate
  answer_small =
      let e = exact ws x y in
      let limits = histogram.limits ws readable in
      let n = rounded_most e (e.whole + 2 * 2 ^ 31) sized.bottom_some (omega (arith, top_small)) in
      ⊎_elim
      (λ (k : raised x y (rounded e) ≡ rounded e). omega (arith, limits.most_entries, sized.whole_small))
      (λ (k : (rounded e ≡ 0) × (raised x y (rounded e) ≡ 1)). omega (arith, k.1))
      (raised_or x y (rounded e))

  pub sizes : Sizes ws x y
  sizes =
      record {
        whole_small = omega (arith, sized.whole_small);
        bottom_some = sized.bottom_some;
        bottom_small = le_trans sized.bottom_small (pow-le-pow_right {n = max_width} (omega arith) two_cuts);
        top_small = top_small;
        answer_small = answer_small;
      }

  up : RoundedUp (exact ws x y) (rounded (exact ws x y))
  up = rounded_up (exact ws x y) sized.bottom_some

  sum_rounded_up : 0 < numerator (exact ws x y) → RoundedUp (exact ws x y) (estimate ws x y)
  unfolding estimate
  sum_rounded_up h =
      let n = rounded (exact ws x y) in
      ⊎_elim
      (λ (k : raised x y n ≡ n). subst (RoundedUp (exact ws x y)) (sym k) up)
      (λ (k : (n ≡ 0) × (raised x y n ≡ 1)). absurd (none_up k.0))
      (raised_or x y n)
    where
      none_up : rounded (exact ws x y) ≡ 0 → ⊥
      none_up z = omega (arith, up.not_below, ap (λ (n : ℕ). n * (exact ws x y).bottom) z)

  sum_of_0 : x < y → numerator (exact ws x y) ≡ 0 → estimate ws x y ≡ 1
  unfolding estimate
  sum_of_0 h z = omega (arith, raised_some x y (rounded (exact ws x y)) (λ e. omega arith), up.least 0 (omega arith))

never_0 : (ws : List ℕ) (x y : ℕ) → x < y → 1 ≤ estimate ws x y
unfolding estimate
never_0 ws x y h = omega (arith, raised_some x y (rounded (exact ws x y)) (λ e. omega arith))

module _ (ws : List ℕ) (readable : Readable ws) (x : ℕ) where
  none : estimate ws x x ≡ 0
  unfolding exact estimate rounded
  none = raised_empty x x (rounded (exact ws x x)) refl ∙ ap rounded (sum_none (buckets ws) (bucket_piece ws x x) (λ b h. bucket_none ws readable x x b h (omega arith)))

  -- with its two ends as they are in hand
  pub estimate_empty : (y : ℕ) → x ≡ y → 0 ≡ estimate ws x y
  estimate_empty y e = sym none ∙ ap (estimate ws x) e

  empty : x ≤ entries ws → estimate_reply ws x x ≡ answered 0
  empty h = reply_is ws x x readable (omega arith) h ∙ ap answered none

module _ (ws ranges : List ℕ) where
  -- the estimates of the first n ranges together
  pub sum_small : Readable ws → (n : ℕ) → sum (tabulate n (answer_at ws ranges)) ≤ n * 2 ^ 48
  sum_small r n =
      omega (arith, sums_within n 1 0 (2 ^ 48) (answer_at ws ranges) (answer_at ws ranges) (λ i l. omega (arith, (sizes ws r (x_at ranges i) (y_at ranges i)).answer_small)))

  search_small : (search_reply ws ranges).value ≤ 2 ^ 52
  search_small =
      ⊎_elim
      (λ (e : search_fault ws ranges ≡ 0).
      omega (arith, sum_small (search_readable ws ranges e) (range_count ranges), most_ranges ws ranges e, ap (λ (r : Reply). r.value) (search_answered ws ranges e)))
      (λ (h : 0 < search_fault ws ranges). omega (arith, ap (λ (r : Reply). r.value) (search_refused ws ranges _ refl (λ z. omega arith))))
      (eq-zero-or-pos (search_fault ws ranges))

pub estimates : Estimates
estimates = record { rounded_up = rounded_up; sum_rounded_up = sum_rounded_up; never_0 = never_0; sum_of_0 = sum_of_0; sizes = sizes; empty = empty }

pub running : RunningTotals
running =
    record {
      joined = joined;
      difference = difference;
      small = running_small;
      filled_fits = λ ws r old. filled_fits ws old r;
      filled_past = filled_past;
      filled_length = filled_length;
    }

pub worksheets : Worksheets
worksheets =
    record {
      by_totals = by_totals;
      each_single = each_single;
      totals_past = totals_past;
      totals_past_answers = totals_past_answers;
      answers_past = answers_past;
      answers_length = answers_length;
      empty = empty_sheet;
    }

pub searches : Searches
searches = record { searched = searched; single = single; small = search_small }
