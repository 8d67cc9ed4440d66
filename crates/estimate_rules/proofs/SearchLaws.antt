-- Laws of a search of several ranges (specs/Search.antt): what its refusals are, what is answered, and that of one range it is the single call.
-- Assumes nothing.
use mathlib.Core.Path.{◌≡◌, refl, sym, ap, ◌∙◌}
use mathlib.Core.Bool.{Bool, true, false, cond, not}
use mathlib.Core.List.{List, [], ◌∷◌}
use mathlib.Core.Logic.{⊎_elim}
use Prim.Native.Nat.{ℕ, zero, suc, ◌-◌, ◌≤◌, ◌<◌}
use native.Mathlib.Nat.{eq-zero-or-pos, eq-or-lt_of_le, le_of_suc-le-suc}
use native.Mathlib.Omega.{arith}
use borrow.Author.Tests.{ltb-false, eqb-false}
use lib.Dec.{ltb, eqb}
use Rattle.laws.specs.Each.{each, some}
use Rattle.laws.specs.Refusal.{refusal}
use Rattle.laws.specs.Reply.{Reply, answered, refused}
use Rattle.laws.specs.Sums.{sum}
use Rattle.laws.proofs.EachLaws.{none_at}
use Rattle.laws.proofs.RefusalLaws.{numbered, none_left, passed, refused as refused_at, none_true, refusal_append, append_passed, append_refused, append_first}
use Rattle.laws.proofs.ReplyLaws.{reply_refused, reply_answered}
use Rattle.laws.proofs.TabulateLaws.{tabulate_same}
use Rattle.laws.proofs.Tests.{neither_left, neither_right}
use Rattle.words_rules.specs.Reading.{read_sentences, read_fault, Readable}
use Rattle.estimate_rules.specs.Asking.{range_fault, ask_fault, estimate, estimate_reply}
use Rattle.estimate_rules.specs.Ranges.{range_count, left_over, x_at, y_at, some_refused}
use Rattle.estimate_rules.specs.Search.{max_ranges, count_fault, starts_early, order_fault, search_sentences, search_fault, search_estimate, search_reply}
use Rattle.estimate_rules.specs.Claims.{Searched}
use Rattle.estimate_rules.proofs.AskingLaws.{reply_is}
use Rattle.estimate_rules.proofs.RangesLaws.{range_ordered, range_within}

module _ (ws ranges : List ℕ) where
  pub search_read : (read_fault ws ≡ 0 → ⊥) → search_fault ws ranges ≡ read_fault ws
  unfolding numbered
  search_read h = append_refused (read_sentences ws) (search_sentences ws ranges) refl h

  module _ (readable : Readable ws) where
    after_reading : search_fault ws ranges ≡ refusal (search_sentences ws ranges)
    unfolding numbered
    after_reading = append_passed (read_sentences ws) (search_sentences ws ranges) refl readable

    pub search_ranges : some_refused ws ranges ≡ true → search_fault ws ranges ≡ 14
    search_ranges t = after_reading ∙ refused_at _ _ t

    module _ (within : some_refused ws ranges ≡ false) where
      pub search_count : count_fault ranges ≡ true → search_fault ws ranges ≡ 22
      search_count t = after_reading ∙ passed _ _ within ∙ refused_at _ _ t

      module _ (few : count_fault ranges ≡ false) where
        pub search_order : order_fault ranges ≡ true → search_fault ws ranges ≡ 23
        search_order t = after_reading ∙ passed _ _ within ∙ passed _ _ few ∙ refused_at _ _ t

        pub search_none : order_fault ranges ≡ false → search_fault ws ranges ≡ 0
        search_none f = after_reading ∙ passed _ _ within ∙ passed _ _ few ∙ passed _ _ f ∙ none_left

  pub search_refused : (n : ℕ) → n ≡ search_fault ws ranges → (n ≡ 0 → ⊥) → refused n ≡ search_reply ws ranges
  unfolding search_reply
  search_refused = reply_refused (search_fault ws ranges) (search_estimate ws ranges)

  pub search_answered : search_fault ws ranges ≡ 0 → answered (search_estimate ws ranges) ≡ search_reply ws ranges
  unfolding search_reply
  search_answered = reply_answered (search_fault ws ranges) (search_estimate ws ranges)

  pub search_taken : (search_reply ws ranges).refusal ≡ 0 → search_fault ws ranges ≡ 0
  search_taken e =
      ⊎_elim
      (λ (z : search_fault ws ranges ≡ 0). z)
      (λ (h : 0 < search_fault ws ranges). absurd (omega (arith, ap (λ (r : Reply). r.refusal) (search_refused _ refl (λ z. omega arith)))))
      (eq-zero-or-pos (search_fault ws ranges))

  module _ (none : search_fault ws ranges ≡ 0) where
    pub search_readable : Readable ws
    unfolding numbered
    search_readable = append_first (read_sentences ws) (search_sentences ws ranges) refl none

    faultless : (some_refused ws ranges ≡ false) × (count_fault ranges ≡ false) × (order_fault ranges ≡ false)
    unfolding numbered
    faultless =
        let n = none_true (search_sentences ws ranges) refl (sym (after_reading search_readable) ∙ none) in
        (n.0, n.1.0, n.1.1.0)

    pub search_within : some_refused ws ranges ≡ false
    search_within = faultless.0

    some_ranges : 1 ≤ range_count ranges
    unfolding count_fault
    some_ranges = let d = eqb-false (range_count ranges) 0 (neither_left (eqb (range_count ranges) 0) _ faultless.1) in omega arith

    pub most_ranges : range_count ranges ≤ max_ranges
    unfolding count_fault
    most_ranges =
        ltb-false _ _ (neither_left (ltb max_ranges (range_count ranges)) (left_over ranges) (neither_right (eqb (range_count ranges) 0) _ faultless.1))

    next_apart : (i : ℕ) → suc i < range_count ranges → y_at ranges i ≤ x_at ranges (suc i)
    unfolding order_fault
    next_apart i l = ltb-false _ _ (none_at (range_count ranges - 1) (starts_early ranges) faultless.2 i (omega arith))

    apart : (i j : ℕ) → i < j → j < range_count ranges → y_at ranges i ≤ x_at ranges j
    apart i zero h l = absurd (omega arith)
    apart i (suc j) h l =
        ⊎_elim
        (λ (e : i ≡ j). rw e (next_apart j l))
        (λ (g : i < j). omega (arith, apart i j g (omega arith), range_ordered ws ranges search_within j (omega arith), next_apart j l))
        (eq-or-lt_of_le (le_of_suc-le-suc h))

    single_is : (i : ℕ) → i < range_count ranges → estimate_reply ws (x_at ranges i) (y_at ranges i) ≡ answered (estimate ws (x_at ranges i) (y_at ranges i))
    single_is i l =
        reply_is ws (x_at ranges i) (y_at ranges i) search_readable (range_ordered ws ranges search_within i l) (range_within ws ranges search_within i l)

    pub searched : Searched ws ranges
    searched =
        record {
          some_ranges = some_ranges;
          most_ranges = most_ranges;
          each_answered = λ i l. ap (λ (r : Reply). r.refusal) (single_is i l);
          sum_of_singles =
              sym (search_answered none)
              ∙ ap (λ (l : List ℕ). answered (sum l)) (tabulate_same (range_count ranges) _ _ (λ i l. sym (ap (λ (r : Reply). r.value) (single_is i l))));
          apart = apart;
        }

-- ---- of one range

not_not : (t : Bool) → not (not t) ≡ t
not_not true = refl
not_not false = refl

module _ (ws : List ℕ) (x y : ℕ) where
  one_fault : search_fault ws (x ∷ y ∷ []) ≡ ask_fault ws x y
  unfolding refusal numbered some each count_fault order_fault
  one_fault =
      refusal_append (read_sentences ws) (search_sentences ws (x ∷ y ∷ [])) refl
      ∙ ap (λ (t : Bool). cond (eqb (read_fault ws) 0) (cond t 14 0) (read_fault ws)) (not_not (range_fault ws x y))
      ∙ sym (refusal_append (read_sentences ws) (record { number = 14; holds = range_fault ws x y } ∷ []) refl)

  pub single : search_reply ws (x ∷ y ∷ []) ≡ estimate_reply ws x y
  unfolding search_reply estimate_reply
  single =
      let sums : search_estimate ws (x ∷ y ∷ []) ≡ estimate ws x y = omega arith in
      let faults = one_fault in
      λ i. cond (eqb (faults i) 0) (answered (sums i)) (refused (faults i))
