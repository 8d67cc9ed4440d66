-- Laws of running totals and worksheets as they are lent (specs/Running.antt, specs/Worksheet.antt): what their refusals are, what is written, and
-- what past those needed is neither read nor written.
-- Assumes nothing.
use mathlib.Core.Path.{◌≡◌, refl, sym, ap, ◌∙◌}
use mathlib.Core.Bool.{Bool, true, false, cond, not, ◌||◌}
use mathlib.Core.List.{List, [], ◌∷◌, ◌++◌}
use Prim.Native.Nat.{ℕ, ◌+◌, ◌-◌, ◌≤◌, ◌<◌}
use native.Mathlib.Omega.{arith}
use borrow.Author.Tests.{ltb-true, ltb-false, lt-ltb, le-ltb, eqb-true, eq-eqb}
use lib.Dec.{ltb, eqb}
use lib.ListN.{length, take, drop, length-append, length-take, length-drop, get_or-append}
use lib.Seq.{get_or-take, get_or-drop, get_or-append-add}
use Rattle.laws.specs.Refusal.{refusal}
use Rattle.laws.specs.Reply.{answered, refused}
use Rattle.laws.specs.Each.{each, some}
use Rattle.laws.specs.Tabulate.{tabulate}
use Rattle.laws.proofs.EachLaws.{some_none, some_same}
use Rattle.laws.proofs.RefusalLaws.{numbered, none_left, passed, refused as refused_at, none_true, append_passed, append_refused, append_first}
use Rattle.laws.proofs.ReplyLaws.{lent_refused, lent_answered}
use Rattle.laws.proofs.TabulateLaws.{length_tabulate, get_d_tabulate}
use Rattle.laws.proofs.Tests.{neither, neither_left, neither_right}
use Rattle.words_rules.specs.Words.{word}
use Rattle.words_rules.specs.Reading.{read_sentences, read_fault, Readable}
use Rattle.estimate_rules.specs.Asking.{estimate_reply}
use Rattle.estimate_rules.specs.Ranges.{range_count, left_over, x_at, y_at, some_refused}
use Rattle.estimate_rules.specs.Running.{running_total, total_places, running_totals, totals_short, fill_sentences, fill_fault, fill_reply, totals_filled}
use Rattle.estimate_rules.specs.Worksheet.{short_fault, wrong_at, totals_fault, ranges_fault, worksheet_sentences, worksheet_fault, answer_at, worksheet_answers, worksheet_reply, worksheet_answered}
use Rattle.estimate_rules.proofs.AskingLaws.{reply_is}
use Rattle.estimate_rules.proofs.RangesLaws.{range_ordered, range_within}

-- ---- a list that is written over the first places of another

module _ (n : ℕ) (f : ℕ → ℕ) (old : List ℕ) where
  over_at_lem : (i : ℕ) → i < n → word (tabulate n f ++ drop n old) i ≡ f i
  over_at_lem i h = get_or-append (tabulate n f) (drop n old) 0 i (omega (arith, length_tabulate n f)) ∙ get_d_tabulate n f i h

  over_past : (i : ℕ) → n ≤ i → word (tabulate n f ++ drop n old) i ≡ word old i
  over_past i h =
      let e : i ≡ length (tabulate n f) + (i - n) = omega (arith, length_tabulate n f) in
      let m : n + (i - n) ≡ i = omega arith in
      ap (word (tabulate n f ++ drop n old)) e ∙ get_or-append-add (tabulate n f) (drop n old) (i - n) 0 ∙ get_or-drop n old (i - n) 0 ∙ ap (word old) m

  over_length : n ≤ length old → length (tabulate n f ++ drop n old) ≡ length old
  over_length h = length-append (tabulate n f) (drop n old) ∙ omega (arith, length_tabulate n f, length-drop n old)

  -- where it is written only if there is no fault
  either : (P : List ℕ → Type 0) (fault : ℕ) → (fault ≡ 0 → P (tabulate n f ++ drop n old)) → P old → P (cond (eqb fault 0) (tabulate n f ++ drop n old) old)
  either P fault p q = go (eqb fault 0) refl
    where
      go : (t : Bool) → eqb fault 0 ≡ t → P (cond t (tabulate n f ++ drop n old) old)
      go true e = p (eqb-true fault 0 e)
      go false e = q

-- ---- filling

module _ (ws : List ℕ) (lent : ℕ) where
  pub fill_read : (read_fault ws ≡ 0 → ⊥) → fill_fault ws lent ≡ read_fault ws
  unfolding numbered
  fill_read h = append_refused (read_sentences ws) (fill_sentences ws lent) refl h

  pub fill_short : Readable ws → totals_short ws lent ≡ true → fill_fault ws lent ≡ 19
  unfolding numbered
  fill_short r t =
      append_passed (read_sentences ws) (fill_sentences ws lent) refl r
      ∙ refused_at _ _ t

  pub fill_none : Readable ws → totals_short ws lent ≡ false → fill_fault ws lent ≡ 0
  unfolding numbered
  fill_none r f =
      append_passed (read_sentences ws) (fill_sentences ws lent) refl r
      ∙ passed _ _ f
      ∙ none_left

  pub fill_readable : fill_fault ws lent ≡ 0 → Readable ws
  unfolding numbered
  fill_readable e = append_first (read_sentences ws) (fill_sentences ws lent) refl e

  pub fill_room : fill_fault ws lent ≡ 0 → total_places ws ≤ lent
  unfolding numbered
  fill_room e =
      ltb-false lent (total_places ws)
      (none_true (fill_sentences ws lent) refl
      (sym (append_passed (read_sentences ws) (fill_sentences ws lent) refl (fill_readable e)) ∙ e)).0

module _ (ws old : List ℕ) where
  pub fill_refused : (n : ℕ) → n ≡ fill_fault ws (length old) → (n ≡ 0 → ⊥) → (refused n ≡ fill_reply ws (length old)) × (old ≡ totals_filled ws old)
  unfolding fill_reply totals_filled
  fill_refused n e z = lent_refused (fill_fault ws (length old)) (total_places ws) (running_totals ws ++ drop (total_places ws) old) old n e z

  pub fill_answered : fill_fault ws (length old) ≡ 0
      → (answered (total_places ws) ≡ fill_reply ws (length old)) × (running_totals ws ++ drop (total_places ws) old ≡ totals_filled ws old)
  unfolding fill_reply totals_filled
  fill_answered e = lent_answered (fill_fault ws (length old)) (total_places ws) (running_totals ws ++ drop (total_places ws) old) old e

  pub filled_past : (i : ℕ) → total_places ws ≤ i → word (totals_filled ws old) i ≡ word old i
  unfolding totals_filled
  filled_past i h =
      either (total_places ws) (running_total ws) old (λ (l : List ℕ). word l i ≡ word old i) (fill_fault ws (length old)) (λ _. over_past (total_places ws) (running_total ws) old i h) refl

  pub filled_length : length (totals_filled ws old) ≡ length old
  unfolding totals_filled
  filled_length =
      either (total_places ws) (running_total ws) old (λ (l : List ℕ). length l ≡ length old) (fill_fault ws (length old))
      (λ e. over_length (total_places ws) (running_total ws) old (fill_room ws (length old) e)) refl

  pub filled_fits : Readable ws → total_places ws ≤ length old → totals_fault ws (totals_filled ws old) ≡ false
  unfolding totals_fault
  filled_fits r h =
      some_none (total_places ws) (wrong_at ws (totals_filled ws old))
      (λ i l. ap not (eq-eqb _ _ (ap (λ (l : List ℕ). word l i) (sym (fill_answered (fill_none ws (length old) r (le-ltb _ _ h))).1) ∙ over_at_lem (total_places ws) (running_total ws) old i l)))

-- ---- answering

module _ (ws totals sheet : List ℕ) (lent : ℕ) where
  pub sheet_read : (read_fault ws ≡ 0 → ⊥) → worksheet_fault ws totals sheet lent ≡ read_fault ws
  unfolding numbered
  sheet_read h = append_refused (read_sentences ws) (worksheet_sentences ws totals sheet lent) refl h

  module _ (readable : Readable ws) where
    after_reading : worksheet_fault ws totals sheet lent ≡ refusal (worksheet_sentences ws totals sheet lent)
    unfolding numbered
    after_reading = append_passed (read_sentences ws) (worksheet_sentences ws totals sheet lent) refl readable

    pub sheet_short : short_fault ws totals sheet lent ≡ true → worksheet_fault ws totals sheet lent ≡ 19
    sheet_short t = after_reading ∙ refused_at _ _ t

    module _ (enough : short_fault ws totals sheet lent ≡ false) where
      pub sheet_totals : totals_fault ws totals ≡ true → worksheet_fault ws totals sheet lent ≡ 20
      sheet_totals t = after_reading ∙ passed _ _ enough ∙ refused_at _ _ t

      module _ (right : totals_fault ws totals ≡ false) where
        pub sheet_ranges : ranges_fault ws sheet ≡ true → worksheet_fault ws totals sheet lent ≡ 21
        sheet_ranges t = after_reading ∙ passed _ _ enough ∙ passed _ _ right ∙ refused_at _ _ t

        pub sheet_none : ranges_fault ws sheet ≡ false → worksheet_fault ws totals sheet lent ≡ 0
        sheet_none f = after_reading ∙ passed _ _ enough ∙ passed _ _ right ∙ passed _ _ f ∙ none_left

  pub totals_enough : short_fault ws totals sheet lent ≡ false → total_places ws ≤ length totals
  unfolding short_fault
  totals_enough f = ltb-false _ _ (neither_left (totals_short ws (length totals)) (ltb lent (range_count sheet)) f)

  module _ (none : worksheet_fault ws totals sheet lent ≡ 0) where
    pub sheet_readable : Readable ws
    unfolding numbered
    sheet_readable = append_first (read_sentences ws) (worksheet_sentences ws totals sheet lent) refl none

    faultless : (short_fault ws totals sheet lent ≡ false) × (totals_fault ws totals ≡ false) × (ranges_fault ws sheet ≡ false)
    unfolding numbered
    faultless =
        let n = none_true (worksheet_sentences ws totals sheet lent) refl (sym (after_reading sheet_readable) ∙ none) in
        (n.0, n.1.0, n.1.1.0)

    pub sheet_enough : total_places ws ≤ length totals
    sheet_enough = totals_enough faultless.0

    pub sheet_room : range_count sheet ≤ lent
    unfolding short_fault
    sheet_room = ltb-false _ _ (neither_right (totals_short ws (length totals)) (ltb lent (range_count sheet)) faultless.0)

    pub sheet_right : totals_fault ws totals ≡ false
    sheet_right = faultless.1

    pub sheet_in_list : some_refused ws sheet ≡ false
    unfolding ranges_fault
    sheet_in_list = neither_right (left_over sheet) (some_refused ws sheet) faultless.2

module _ (ws totals sheet old : List ℕ) where
  abbrev fault : ℕ
  fault = worksheet_fault ws totals sheet (length old)

  pub sheet_refused : (n : ℕ) → n ≡ worksheet_fault ws totals sheet (length old) → (n ≡ 0 → ⊥)
      → (refused n ≡ worksheet_reply ws totals sheet (length old)) × (old ≡ worksheet_answered ws totals sheet old)
  unfolding worksheet_reply worksheet_answered
  sheet_refused n e z = lent_refused fault (range_count sheet) (worksheet_answers ws sheet ++ drop (range_count sheet) old) old n e z

  pub sheet_answered : worksheet_fault ws totals sheet (length old) ≡ 0
      → (answered (range_count sheet) ≡ worksheet_reply ws totals sheet (length old)) × (worksheet_answers ws sheet ++ drop (range_count sheet) old ≡ worksheet_answered ws totals sheet old)
  unfolding worksheet_reply worksheet_answered
  sheet_answered e = lent_answered fault (range_count sheet) (worksheet_answers ws sheet ++ drop (range_count sheet) old) old e

  pub each_single : worksheet_fault ws totals sheet (length old) ≡ 0 → (i : ℕ) → i < range_count sheet
      → estimate_reply ws (x_at sheet i) (y_at sheet i) ≡ answered (word (worksheet_answered ws totals sheet old) i)
  each_single e i l =
      let h = sheet_in_list ws totals sheet (length old) e in
      reply_is ws (x_at sheet i) (y_at sheet i) (sheet_readable ws totals sheet (length old) e) (range_ordered ws sheet h i l) (range_within ws sheet h i l)
      ∙ ap answered (sym (ap (λ (l : List ℕ). word l i) (sym (sheet_answered e).1) ∙ over_at_lem (range_count sheet) (answer_at ws sheet) old i l))

  pub answers_past : (i : ℕ) → range_count sheet ≤ i → word (worksheet_answered ws totals sheet old) i ≡ word old i
  unfolding worksheet_answered
  answers_past i h = either (range_count sheet) (answer_at ws sheet) old (λ (l : List ℕ). word l i ≡ word old i) fault (λ _. over_past (range_count sheet) (answer_at ws sheet) old i h) refl

  pub answers_length : length (worksheet_answered ws totals sheet old) ≡ length old
  unfolding worksheet_answered
  answers_length =
      either (range_count sheet) (answer_at ws sheet) old (λ (l : List ℕ). length l ≡ length old) fault (λ e. over_length (range_count sheet) (answer_at ws sheet) old (sheet_room ws totals sheet (length old) e)) refl

module _ (ws totals sheet : List ℕ) (lent : ℕ) where
  same_short : short_fault ws (take (total_places ws) totals) sheet lent ≡ short_fault ws totals sheet lent
  unfolding short_fault
  same_short = ap (λ (t : Bool). t || ltb lent (range_count sheet)) (go (ltb (length totals) (total_places ws)) refl)
    where
      go : (t : Bool) → ltb (length totals) (total_places ws) ≡ t → ltb (length (take (total_places ws) totals)) (total_places ws) ≡ t
      go true e = lt-ltb (length (take (total_places ws) totals)) (total_places ws) (omega (arith, length-take (total_places ws) totals, ltb-true (length totals) (total_places ws) e))
      go false e = le-ltb (length (take (total_places ws) totals)) (total_places ws) (omega (arith, length-take (total_places ws) totals, ltb-false (length totals) (total_places ws) e))

  same_totals : totals_fault ws (take (total_places ws) totals) ≡ totals_fault ws totals
  unfolding totals_fault
  same_totals = some_same (total_places ws) _ _ (λ i h. ap (λ (v : ℕ). not (eqb v (running_total ws i))) (get_or-take (total_places ws) totals i 0 h))

  same_fault : worksheet_fault ws (take (total_places ws) totals) sheet lent ≡ worksheet_fault ws totals sheet lent
  same_fault =
      λ i. refusal (read_sentences ws ++ (record { number = 19; holds = same_short i } ∷ record { number = 20; holds = same_totals i } ∷ record { number = 21; holds = ranges_fault ws sheet } ∷ []))

  pub totals_past : worksheet_reply ws (take (total_places ws) totals) sheet lent ≡ worksheet_reply ws totals sheet lent
  unfolding worksheet_reply
  totals_past = ap (λ (n : ℕ). cond (eqb n 0) (answered (range_count sheet)) (refused n)) same_fault

pub totals_past_answers : (ws totals sheet old : List ℕ) → worksheet_answered ws (take (total_places ws) totals) sheet old ≡ worksheet_answered ws totals sheet old
unfolding worksheet_answered
totals_past_answers ws totals sheet old =
    ap (λ (n : ℕ). cond (eqb n 0) (worksheet_answers ws sheet ++ drop (range_count sheet) old) old) (same_fault ws totals sheet (length old))

pub empty : (ws totals : List ℕ) → Readable ws → total_places ws ≤ length totals → totals_fault ws totals ≡ false → (lent : ℕ) → worksheet_reply ws totals [] lent ≡ answered 0
unfolding worksheet_reply short_fault ranges_fault some each
empty ws totals r h t lent =
    let s = neither (totals_short ws (length totals)) (ltb lent 0) (le-ltb _ _ h) (le-ltb lent 0 (omega arith)) in
    simp (eq-eqb (worksheet_fault ws totals [] lent) 0 (sheet_none ws totals [] lent r s t refl))
