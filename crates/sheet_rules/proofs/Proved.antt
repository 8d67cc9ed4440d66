-- The claims of specs/Claims.antt, each from its law. Assumes nothing.
use mathlib.Core.Path.{◌≡◌, sym, ap, ◌∙◌}
use mathlib.Core.Bool.{Bool, true, false, cond, not}
use mathlib.Core.List.{List, ◌++◌}
use mathlib.Core.Logic.{⊎_elim}
use Prim.Native.Nat.{ℕ, ◌+◌, ◌≤◌, ◌<◌}
use native.Mathlib.Nat.{le_trans}
use native.Mathlib.Omega.{arith}
use lib.Dec.{leb}
use borrow.Author.Tests.{leb-true, leb-false}
use lib.ListN.{length, get_or, take, drop, length-drop, length-map}
use lib.Seq.{take_all, length-take-le}
use Rattle.laws.specs.Refusal.{refusal}
use Rattle.laws.proofs.Tests.{tested, is_false}
use Rattle.laws.proofs.RefusalLaws as refusals
use Rattle.list_rules.specs.Quality.{quality, input_sentences}
use Rattle.build_rules.specs.Words.{words}
use Rattle.sheet_rules.specs.Limits.{least_numbers, most_numbers, max_input, max_sheet}
use Rattle.sheet_rules.specs.Input.{lines, value, as_described, numbers}
use Rattle.sheet_rules.specs.Lines.{refused_line}
use Rattle.sheet_rules.specs.Sheet.{histogram_sheet, numbers_sheet, sheet_fault, sheet, filled}
use Rattle.sheet_rules.specs.Claims.{Exam}
use Rattle.sheet_rules.proofs.TextLaws.{places_some, below_power, reaches_power}
use Rattle.sheet_rules.proofs.CutLaws.{cut_line}
use Rattle.sheet_rules.proofs.LinesLaws.{described, input_short, read, written}
use Rattle.sheet_rules.proofs.SheetLaws.{refused_short, list_printed, list_refused, list_short, filled_whole}

-- ---- what is printed, by whether the input is as described

pub sheet_refused : (input : List ℕ) → as_described input ≡ false → sheet input ≡ refused_line 18
unfolding sheet
sheet_refused input e = ap (λ (t : Bool). cond t (numbers_sheet (numbers input)) (refused_line 18)) e

pub sheet_read : (input : List ℕ) → as_described input ≡ true → sheet input ≡ numbers_sheet (numbers input)
unfolding sheet
sheet_read input e = ap (λ (t : Bool). cond t (numbers_sheet (numbers input)) (refused_line 18)) e

pub numbers_many : (input : List ℕ) → as_described input ≡ true → (least_numbers ≤ length (numbers input)) × (length (numbers input) ≤ most_numbers)
unfolding numbers
numbers_many input h =
    let d = described input h in
    (omega (arith, d.many.least, length-map (lines input).ended value), omega (arith, d.many.most, length-map (lines input).ended value))

-- ---- the number that an input is refused with

pub fault_refused : (input : List ℕ) → as_described input ≡ false → sheet_fault input ≡ 18
unfolding sheet_fault
fault_refused input e = refusals.refused _ _ (ap not e)

pub fault_read : (input : List ℕ) → as_described input ≡ true → let ns = numbers input in
    sheet_fault input ≡ refusal (input_sentences (drop 3 ns) (get_or ns 0 0) (get_or ns 1 0) (get_or ns 2 0))
unfolding sheet_fault
fault_read input e = refusals.passed _ _ (ap not e)

-- ---- the claims

refused : (input : List ℕ) → (sheet_fault input ≡ 0 → ⊥) → sheet input ≡ refused_line (sheet_fault input)
unfolding numbers_sheet
refused input h = ⊎_elim read not_read (tested (as_described input))
  where
    ns : List ℕ
    ns = numbers input

    read : as_described input ≡ true → sheet input ≡ refused_line (sheet_fault input)
    read t =
        let f = fault_read input t in
        sheet_read input t ∙ list_refused (drop 3 ns) (get_or ns 0 0) (get_or ns 1 0) (get_or ns 2 0) (λ z. h (f ∙ z)) ∙ ap refused_line (sym f)

    not_read : as_described input ≡ false → sheet input ≡ refused_line (sheet_fault input)
    not_read t = sheet_refused input t ∙ ap refused_line (sym (fault_refused input t))

printed : (input : List ℕ) → sheet_fault input ≡ 0 → let ns = numbers input in
    sheet input ≡ histogram_sheet (words (quality (get_or ns 0 0) (get_or ns 1 0) (get_or ns 2 0)) (drop 3 ns))
unfolding numbers_sheet
printed input z = ⊎_elim read not_read (tested (as_described input))
  where
    ns : List ℕ
    ns = numbers input

    read : as_described input ≡ true → sheet input ≡ histogram_sheet (words (quality (get_or ns 0 0) (get_or ns 1 0) (get_or ns 2 0)) (drop 3 ns))
    read t = sheet_read input t ∙ list_printed (drop 3 ns) (get_or ns 0 0) (get_or ns 1 0) (get_or ns 2 0) (sym (fault_read input t) ∙ z)

    not_read : as_described input ≡ false → sheet input ≡ histogram_sheet (words (quality (get_or ns 0 0) (get_or ns 1 0) (get_or ns 2 0)) (drop 3 ns))
    not_read t = absurd (let e = fault_refused input t in omega (arith, e, z))

-- a longer input is not as described
not_long : (input : List ℕ) → max_input < length input → as_described input ≡ false
not_long input h = is_false (as_described input) (λ d. let s = input_short input d in omega arith)

long : (input : List ℕ) → max_input < length input → sheet input ≡ refused_line 18
long input h = sheet_refused input (not_long input h)

-- what is the same of all longer inputs is so of an input that is cut after one byte more
cut_any : {A : Type 0} (f : List ℕ → A) (z : A) → ((input : List ℕ) → max_input < length input → f input ≡ z)
    → (input : List ℕ) → f (take (max_input + 1) input) ≡ f input
cut_any f z same input = ⊎_elim all longer (tested (leb (length input) (max_input + 1)))
  where
    all : leb (length input) (max_input + 1) ≡ true → f (take (max_input + 1) input) ≡ f input
    all t = ap f (take_all (max_input + 1) input (leb-true _ _ t))

    longer : leb (length input) (max_input + 1) ≡ false → f (take (max_input + 1) input) ≡ f input
    longer t =
        let many = leb-false (length input) (max_input + 1) t in
        same (take (max_input + 1) input) (omega (arith, length-take-le (max_input + 1) input (omega (arith, many)))) ∙ sym (same input (omega (arith, many)))

short : (input : List ℕ) → length (sheet input) ≤ max_sheet
unfolding numbers_sheet
short input = ⊎_elim described_short refused (tested (as_described input))
  where
    ns : List ℕ
    ns = numbers input

    described_short : as_described input ≡ true → length (sheet input) ≤ max_sheet
    described_short t =
        let few = list_short (drop 3 ns) (get_or ns 0 0) (get_or ns 1 0) (get_or ns 2 0) (omega (arith, length-drop 3 ns, (numbers_many input t).1)) in
        omega (arith, few, ap length (sheet_read input t))

    refused : as_described input ≡ false → length (sheet input) ≤ max_sheet
    refused t = omega (arith, (refused_short 18 (omega arith)).within, ap length (sheet_refused input t))

whole : (input old : List ℕ) → max_sheet ≤ length old → filled old (sheet input) ≡ sheet input ++ drop (length (sheet input)) old
whole input old h = filled_whole old (sheet input) (le_trans (short input) h)

pub exam : Exam
exam =
    record {
      digit_count = λ n. record { some = places_some n; holds = below_power n; fewest = reaches_power n };
      read = read;
      written = written;
      refused = refused;
      printed = printed;
      long = long;
      cut = cut_any sheet (refused_line 18) long;
      cut_fault = cut_any sheet_fault 18 (λ input h. fault_refused input (not_long input h));
      cut_line = cut_line;
      short = short;
      whole = whole;
    }
