-- Laws of a whole sheet: what the builder answers with room for the longest list's histogram, and what is printed of the numbers that are read.
-- Assumes nothing.
use mathlib.Core.Path.{◌≡◌, refl, sym, ap, ◌∙◌, subst, subst⁻¹}
use mathlib.Core.Bool.{Bool, true, false, cond}
use mathlib.Core.List.{List, [], ◌∷◌, ◌++◌}
use mathlib.Core.Logic.{⊎_elim}
use Prim.Native.Nat.{ℕ, ◌≤◌}
use native.Mathlib.Omega.{arith}
use borrow.Author.Tests.{eqb-true, eqb-false, eq-eqb, le-ltb}
use lib.Dec.{eqb, ltb}
use lib.ListN.{length, get_or, take, drop}
use lib.Seq.{sets, take_at}
use Rattle.std.specs.Prelude.{Result, Ok, Err, Some, None}
use Rattle.std.specs.Result.{IsErrAnd}
use Rattle.laws.specs.Refusal.{Sentence, refusal}
use Rattle.laws.specs.Reply.{Reply, answered, refused}
use Rattle.laws.proofs.Tests.{tested}
use Rattle.laws.proofs.RefusalLaws.{numbered, append_refused, append_passed}
use Rattle.refusals.specs.declared.Refusal.{Refusal}
use Rattle.refusals.specs.Numbers.{number_of}
use Rattle.refusals.proofs.Proved.{answers}
use Rattle.words_rules.proofs.Proved.{histogram}
use Rattle.build_rules.specs.Words.{words}
use Rattle.list_rules.specs.Quality.{quality, input_sentences}
use Rattle.build_rules.specs.Building.{build_sentences, build_fault, build_reply, written}
use Rattle.sheet_rules.specs.Limits.{max_frequencies, max_sheet_words}
use Rattle.sheet_rules.specs.Input.{as_described, numbers, fault_line}
use Rattle.sheet_rules.specs.Lines.{refused_line}
use Rattle.sheet_rules.specs.Sheet.{histogram_sheet, sheet_fault, sheet, filled}
use Rattle.sheet_rules.specs.Private.Room.{Roomy}
use Rattle.sheet_rules.proofs.SheetLaws.{room, sets_filled}
use Rattle.sheet_rules.proofs.Proved.{exam, sheet_refused, fault_refused, fault_read}
use Rattle.sheet_input.specs.declared.InputFault.{InputFault}
use Rattle.sheet_input.specs.Numbers.{input_numbers}
use Rattle.sheet_text.specs.declared.SheetError.{SheetError}
use Rattle.sheet_text.specs.declared.SheetError.TheVariants as at
use Rattle.sheet_text.specs.Printed.{error_number}
use Rattle.sheet_text.specs.Private.Printing.{Put, Said, Turned, Done, Outcome}

-- ---- the builder's answer

-- a reply's refusal is the fault
reply_fault : (fault v : ℕ) → (cond (eqb fault 0) (answered v) (refused fault)).refusal ≡ fault
reply_fault fault v = ⊎_elim none some (tested (eqb fault 0))
  where
    answer : Bool → Reply
    answer t = cond t (answered v) (refused fault)

    none : eqb fault 0 ≡ true → (answer (eqb fault 0)).refusal ≡ fault
    none t = ap (λ (x : Bool). (answer x).refusal) t ∙ sym (eqb-true fault 0 t)

    some : eqb fault 0 ≡ false → (answer (eqb fault 0)).refusal ≡ fault
    some t = ap (λ (x : Bool). (answer x).refusal) t

module _ (fs : List ℕ) (theta qn qd : ℕ) (short : length fs ≤ max_frequencies) where
  abbrev ws : List ℕ
  ws = words (quality theta qn qd) fs

  abbrev fault : ℕ
  fault = refusal (input_sentences fs theta qn qd)

  -- where nothing is refused the words have room
  words_length : fault ≡ 0 → length ws ≤ max_sheet_words
  words_length e = let r = room fs theta qn qd short e in omega (arith, r.few, (histogram.limits ws r.readable).words)

  fault_is : build_fault fs theta qn qd max_sheet_words ≡ fault
  unfolding build_fault refusal numbered
  fault_is = ⊎_elim none some (tested (eqb fault 0))
    where
      last : List Sentence
      last = record { number = 6; holds = ltb max_sheet_words (length ws) } ∷ []

      none : eqb fault 0 ≡ true → refusal (build_sentences fs theta qn qd max_sheet_words) ≡ fault
      none t =
          let e = eqb-true fault 0 t in
          append_passed (input_sentences fs theta qn qd) last refl e
          ∙ ap (λ (h : Bool). cond h 6 0) (le-ltb max_sheet_words (length ws) (words_length e))
          ∙ sym e

      some : eqb fault 0 ≡ false → refusal (build_sentences fs theta qn qd max_sheet_words) ≡ fault
      some t = append_refused (input_sentences fs theta qn qd) last refl (eqb-false fault 0 t)

  reply_refusal : (build_reply fs theta qn qd max_sheet_words).refusal ≡ fault
  unfolding build_reply
  reply_refusal = reply_fault (build_fault fs theta qn qd max_sheet_words) (length ws) ∙ fault_is

  -- where nothing is refused it answers with the number of words
  reply_value : fault ≡ 0 → (build_reply fs theta qn qd max_sheet_words).value ≡ length ws
  unfolding build_reply
  reply_value e =
      ap (λ (t : Bool). (cond t (answered (length ws)) (refused (build_fault fs theta qn qd max_sheet_words))).value)
      (eq-eqb (build_fault fs theta qn qd max_sheet_words) 0 (fault_is ∙ e))

  -- it is refused with the number of the fault
  module _ (number : ℕ) (e : refused number ≡ build_reply fs theta qn qd max_sheet_words) where
    pub refused_fault : number ≡ fault
    refused_fault = ap (λ (r : Reply). r.refusal) e ∙ reply_refusal

  module _ (n : ℕ) (e : answered n ≡ build_reply fs theta qn qd max_sheet_words) where
    pub no_fault : fault ≡ 0
    no_fault = sym (ap (λ (r : Reply). r.refusal) e ∙ reply_refusal)

    count_is : n ≡ length ws
    count_is = ap (λ (r : Reply). r.value) e ∙ reply_value no_fault

    pub count_room : n ≤ max_sheet_words
    count_room = omega (arith, count_is, words_length no_fault)

    pub words_are : (old new : List ℕ) → length old ≡ max_sheet_words → new ≡ written fs theta qn qd old → take n new ≡ words (quality theta qn qd) fs
    unfolding written
    words_are old new l w =
        ap (take n) (w ∙ ap (λ (t : Bool). cond t (ws ++ drop (length ws) old) old)
        (ap (λ (k : ℕ). eqb (build_fault fs theta qn qd k) 0) l ∙ eq-eqb (build_fault fs theta qn qd max_sheet_words) 0 (fault_is ∙ no_fault)))
        ∙ take_at ws (drop (length ws) old) n (sym count_is)

    pub words_room : Roomy (words (quality theta qn qd) fs)
    words_room = room fs theta qn qd short no_fault

-- ---- what is read of an input

abbrev count_of : Result (List ℕ) InputFault → ℕ
count_of (Ok _) = 1
count_of (Err _) = 0

abbrev items_of : Result (List ℕ) InputFault → List ℕ
items_of (Ok ns) = ns
items_of (Err _) = []

abbrev line_at : Result (List ℕ) InputFault → ℕ
line_at (Ok _) = 0
line_at (Err f) = f.line

read_is : (t : Bool) (ms ns : List ℕ) (f : InputFault) → Ok ns ≡ cond t (Ok ms) (Err f) → (t ≡ true) × (ns ≡ ms)
read_is true ms ns f e = (refl, ap items_of e)
read_is false ms ns f e = absurd (let one : 1 ≡ 0 = ap count_of e in omega (arith, one))

fault_is_at : (t : Bool) (ms : List ℕ) (f g : InputFault) → Err g ≡ cond t (Ok ms) (Err f) → (t ≡ false) × (g.line ≡ f.line)
fault_is_at true ms f g e = absurd (let one : 0 ≡ 1 = ap count_of e in omega (arith, one))
fault_is_at false ms f g e = (refl, ap line_at e)

-- an input that is not as described
pub turned_input : (input out : List ℕ) (end : ℕ) (f : InputFault) → end ≡ 0 → Err f ≡ input_numbers input → Turned input out out end (at.Input f)
unfolding input_numbers
turned_input input out end f z e =
    let is = fault_is_at (as_described input) (numbers input) (record { line = fault_line input }) f e in
    record {
      said = record { number = sym (fault_refused input is.0); line = is.1 ∙ ap (λ (t : Bool). cond t 0 (fault_line input)) (sym is.0) };
      text = sheet_refused input is.0;
      same_bytes = refl;
      at_start = z;
    }

-- one whose numbers are read
module _ (input ns fs : List ℕ) (theta qn qd : ℕ) (read : Ok ns ≡ input_numbers input) (f : fs ≡ drop 3 ns)
    (t : theta ≡ get_or ns 0 0) (n : qn ≡ get_or ns 1 0) (d : qd ≡ get_or ns 2 0) (short : length fs ≤ max_frequencies) where
  numbers_read : (as_described input ≡ true) × (ns ≡ numbers input)
  unfolding input_numbers
  numbers_read = read_is (as_described input) (numbers input) ns (record { line = fault_line input }) read

  list_fault : refusal (input_sentences fs theta qn qd) ≡ sheet_fault input
  list_fault =
      (λ i. refusal (input_sentences (f i) (t i) (n i) (d i)))
      ∙ ap (λ (l : List ℕ). refusal (input_sentences (drop 3 l) (get_or l 0 0) (get_or l 1 0) (get_or l 2 0))) numbers_read.1
      ∙ sym (fault_read input numbers_read.0)

  no_line : 0 ≡ cond (as_described input) 0 (fault_line input)
  no_line = ap (λ (x : Bool). cond x 0 (fault_line input)) (sym numbers_read.0)

  pub turned_list : (out : List ℕ) (end : ℕ) (e : Refusal) → end ≡ 0 → refused (number_of e) ≡ build_reply fs theta qn qd max_sheet_words
      → Turned input out out end (at.List e)
  turned_list out end e z r =
      let fault : number_of e ≡ sheet_fault input = refused_fault fs theta qn qd short (number_of e) r ∙ list_fault in
      record {
        said = record { number = fault; line = no_line };
        text = exam.refused input (λ none. let some = answers.numbered e in omega (arith, fault, none, some)) ∙ ap refused_line (sym fault);
        same_bytes = refl;
        at_start = z;
      }

  pub done_list : (old new ws put : List ℕ) (k end : ℕ) → answered k ≡ build_reply fs theta qn qd max_sheet_words
      → length ws ≡ max_sheet_words → put ≡ written fs theta qn qd ws → Put old new 0 end (histogram_sheet (take k put)) → Done input old new end
  done_list old new ws put k end r l w p =
      let none : sheet_fault input ≡ 0 = sym list_fault ∙ no_fault fs theta qn qd short k r in
      let printed : histogram_sheet (take k put) ≡ sheet input =
      ap histogram_sheet (words_are fs theta qn qd short k r ws put l w)
      ∙ (λ i. histogram_sheet (words (quality (t i) (n i) (d i)) (f i)))
      ∙ ap (λ (m : List ℕ). histogram_sheet (words (quality (get_or m 0 0) (get_or m 1 0) (get_or m 2 0)) (drop 3 m))) numbers_read.1
      ∙ sym (exam.printed input none) in
      record { said = record { number = sym none; line = no_line }; text = subst (Put old new 0 end) printed p }

-- the error that a call hands on is the one that a reason was converted to
pub turned_by : (input out : List ℕ) (end : ℕ) (e : SheetError) (r : Result Unit SheetError) → IsErrAnd r (λ x. x ≡ e) → Turned input out out end e
    → Outcome input out out end r
turned_by input out end e (Ok _) h t = absurd h
turned_by input out end e (Err x) h t = subst⁻¹ (Turned input out out end) h t

-- ---- the lent bytes

pub put_filled : {old new : List ℕ} {end : ℕ} (text : List ℕ) → Put old new 0 end text → new ≡ filled old text
put_filled {old} text p = p.bytes ∙ sets_filled old text

-- where an input is refused, its line is all that is printed
pub turned_filled : (input out old middle new : List ℕ) (end last : ℕ) (e : SheetError) (line : List ℕ) → old ≡ out → Turned input old middle end e
    → Put middle new end last line → line ≡ refused_line (error_number e) → new ≡ filled out (sheet input)
turned_filled input out old middle new end last e line o t p l =
    p.bytes ∙ (λ i. sets ((t.same_bytes ∙ o) i) (t.at_start i) ((l ∙ sym t.text) i)) ∙ sets_filled out (sheet input)
