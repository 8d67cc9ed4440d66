-- How long what is printed is: each line is at most so long, and a list that is short enough has few buckets.
-- Assumes nothing.
use mathlib.Core.Path.{◌≡◌, refl, ap, ◌∙◌}
use mathlib.Core.Bool.{Bool, true, false, cond, ◌&&◌}
use mathlib.Core.List.{List, [], ◌∷◌, ◌++◌}
use mathlib.Core.Logic.{⊎_elim}
use Prim.Native.Nat.{ℕ, zero, suc, ◌+◌, ◌*◌, ◌^◌, ◌≤◌, ◌<◌}
use Prim.Native.String.{String}
use native.Mathlib.Nat.{eq-zero-or-pos}
use native.Mathlib.Omega.{arith}
use borrow.Author.Tests.{eqb-true, eqb-false, eq-eqb, ne_eqb, leb-true}
use lib.Dec.{leb, eqb}
use lib.ListN.{length, set, drop, length-append}
use lib.Seq.{sets}
use Rattle.laws.specs.Refusal.{Sentence, refusal}
use Rattle.laws.proofs.Tests.{both_left, both_right, tested}
use Rattle.laws.proofs.SumsLaws.{prefix_mono, prefix_all}
use Rattle.counts_rules.specs.Total.{total_number}
use Rattle.counts_rules.proofs.BaseLaws.{used_says}
use Rattle.counts_rules.proofs.Proved.{classes, totals}
use Rattle.words_rules.specs.declared.Bucket.{Bucket}
use Rattle.words_rules.specs.Words.{entries, theta, qn, qd, buckets, start, end}
use Rattle.words_rules.specs.Decoded.{bucket_at, class_at, bucketlet_start, bucketlet_end, width_at, number_at}
use Rattle.words_rules.specs.Claims.{Holds}
use Rattle.words_rules.proofs.Proved.{histogram}
use Rattle.build_rules.specs.Words.{words}
use Rattle.list_rules.specs.Quality.{quality, input_sentences}
use Rattle.build_rules.proofs.Proved.{building}
use Rattle.sheet_rules.specs.Limits.{max_frequencies, max_head_line, max_bucket_line, max_bucketlet_line, max_bucket_part, max_sheet}
use Rattle.sheet_rules.specs.Text.{ascii}
use Rattle.sheet_rules.specs.Lines.{labelled, head_line, bucket_line, bucketlet_line, refused_line}
use Rattle.sheet_rules.specs.Sheet.{joined, bucketlet_part, bucket_part, histogram_sheet, list_sheet, filled}
use Rattle.sheet_rules.specs.Private.Room.{Roomy, Printable}
use Rattle.sheet_rules.proofs.TextLaws.{decimal_length, places_few}

-- ---- lines

pub record Short (xs : List ℕ) (a : ℕ) : Type 0 where
  pub within : length xs ≤ a

infixl 60 ◌then◌
pub ◌then◌ : {xs ys : List ℕ} {a b : ℕ} → Short xs a → Short ys b → Short (xs ++ ys) (a + b)
◌then◌ {xs} {ys} s t = record { within = omega (arith, s.within, t.within, length-append xs ys) }

pub whole : (xs : List ℕ) → Short xs (length xs)
whole xs = record { within = omega arith }

-- a number below a power of ten, after a word
pub labelled_short : (word : String) (n k : ℕ) → 1 ≤ k → n < 10 ^ k → Short (labelled word n) (length (ascii word) + k)
labelled_short word n k o h = whole (ascii word) then record { within = omega (arith, decimal_length n, places_few n k o h) }

pub head_short : (d theta qn qd buckets : ℕ) → d < 10 ^ 4 → theta < 10 ^ 7 → qn < 10 ^ 4 → qd < 10 ^ 4 → buckets < 10 ^ 3
    → Short (head_line d theta qn qd buckets) max_head_line
head_short d theta qn qd buckets h₁ h₂ h₃ h₄ h₅ =
    labelled_short "codes " d 4 (omega arith) h₁
    then labelled_short " theta " theta 7 (omega arith) h₂
    then labelled_short " q " qn 4 (omega arith) h₃
    then labelled_short "/" qd 4 (omega arith) h₄
    then labelled_short " buckets " buckets 3 (omega arith) h₅
    then whole (ascii "\n")

-- a line of a start, an end, a code and a number
span_short : (first third fourth : String) (start end code number k : ℕ) → 1 ≤ k → start < 10 ^ 4 → end < 10 ^ 4 → code < 10 ^ k → number < 10 ^ 10
    → Short (labelled first start ++ labelled " " end ++ labelled third code ++ labelled fourth number ++ ascii "\n")
    (length (ascii first) + 4 + 5 + (length (ascii third) + k) + (length (ascii fourth) + 10) + 1)
span_short first third fourth start end code number k o h₁ h₂ h₃ h₄ =
    labelled_short first start 4 (omega arith) h₁
    then labelled_short " " end 4 (omega arith) h₂
    then labelled_short third code k o h₃
    then labelled_short fourth number 10 (omega arith) h₄
    then whole (ascii "\n")

pub bucket_line_short : (start end code number : ℕ) → start < 10 ^ 4 → end < 10 ^ 4 → code < 10 ^ 4 → number < 10 ^ 10
    → Short (bucket_line start end code number) max_bucket_line
bucket_line_short start end code number = span_short "bucket " " total " " " start end code number 4 (omega arith)

pub bucketlet_line_short : (start end class number : ℕ) → start < 10 ^ 4 → end < 10 ^ 4 → class < 10 ^ 2 → number < 10 ^ 10
    → Short (bucketlet_line start end class number) max_bucketlet_line
bucketlet_line_short start end class number = span_short "" " code " " count " start end class number 2 (omega arith)

pub refused_short : (number : ℕ) → number < 10 ^ 10 → Short (refused_line number) 19
refused_short number h = labelled_short "refused " number 10 (omega arith) h then whole (ascii "\n")

-- ---- a bucketlet

module _ (r : Bucket) (k : ℕ) where
  abbrev line : List ℕ
  line = bucketlet_line (bucketlet_start r k) (bucketlet_end r k) (class_at r k) (number_at r k)

  pub empty_part : width_at r k ≡ 0 → bucketlet_part r k ≡ []
  unfolding bucketlet_part
  empty_part e = ap (λ (t : Bool). cond t [] line) (eq-eqb (width_at r k) 0 e)

  pub some_part : 0 < width_at r k → bucketlet_part r k ≡ line
  unfolding bucketlet_part
  some_part h = ap (λ (t : Bool). cond t [] line) (ne_eqb (width_at r k) 0 (λ e. omega arith))

pub bucketlet_short : (r : Bucket) → Printable r → (k : ℕ) → k < 8 → Short (bucketlet_part r k) max_bucketlet_line
bucketlet_short r p k h = ⊎_elim none some (eq-zero-or-pos (width_at r k))
  where
    none : width_at r k ≡ 0 → Short (bucketlet_part r k) max_bucketlet_line
    none e = record { within = omega (arith, ap length (empty_part r k e)) }

    some : 0 < width_at r k → Short (bucketlet_part r k) max_bucketlet_line
    some q =
        let printed =
        bucketlet_line_short (bucketlet_start r k) (bucketlet_end r k) (class_at r k) (number_at r k)
        (p.small k (omega arith))
        (p.small (suc k) (omega arith))
        (omega (arith, (used_says (class_at r k) (p.class_used k h)).0))
        (omega (arith, classes.number_small (class_at r k) (p.class_used k h))) in
        record { within = omega (arith, ap length (some_part r k q), printed.within) }

-- ---- a histogram

pub joined_short : (n : ℕ) (f : ℕ → List ℕ) (m : ℕ) → ((k : ℕ) → k < n → Short (f k) m) → Short (joined n f) (n * m)
unfolding joined
joined_short zero f m h = record { within = omega arith }
joined_short (suc n) f m h =
    let both = joined_short n f m (λ k l. h k (omega arith)) then h n (omega arith) in
    record { within = omega (arith, both.within) }

module _ (ws : List ℕ) (roomy : Roomy ws) where
  module _ (b : ℕ) (is : b < buckets ws) where
    holds : Holds ws b
    holds = histogram.holds ws roomy.readable b is

    pub end_small : end ws b < 10 ^ 4
    end_small = omega (arith, roomy.short, (histogram.tiles ws roomy.readable).within b is)

    pub start_small : start ws b < 10 ^ 4
    start_small = omega (arith, end_small, (histogram.tiles ws roomy.readable).not_empty b is)

    pub bucket_short : Short (bucket_line (start ws b) (end ws b) (bucket_at ws b).total (total_number (bucket_at ws b).total)) max_bucket_line
    bucket_short =
        bucket_line_short (start ws b) (end ws b) (bucket_at ws b).total (total_number (bucket_at ws b).total) start_small end_small
        (omega (arith, holds.in_range.total_bits))
        (omega (arith, totals.number_small (bucket_at ws b).total holds.total_valid))

    pub printable : Printable (bucket_at ws b)
    printable =
        record {
          small = λ k h. omega (
            arith,
            prefix_mono k 8 (bucket_at ws b).widths h,
            prefix_all 8 (bucket_at ws b).widths (omega (arith, holds.in_range.eight_widths)),
            holds.in_range.ends,
            end_small,
          );
          class_used = holds.class_used;
        }

    pub part_short : Short (bucket_part ws b) max_bucket_part
    unfolding bucket_part
    part_short = bucket_short then joined_short 8 (bucketlet_part (bucket_at ws b)) max_bucketlet_line (bucketlet_short (bucket_at ws b) printable)

  pub first_line_short : Short (head_line (entries ws) (theta ws) (qn ws) (qd ws) (buckets ws)) max_head_line
  first_line_short =
      let l = histogram.limits ws roomy.readable in
      head_short (entries ws) (theta ws) (qn ws) (qd ws) (buckets ws) (omega (arith, roomy.short)) (omega (arith, l.most_theta)) (omega (arith, l.most_qn)) (omega (arith, l.most_qd)) (omega (arith, roomy.few))

  -- the head and the first b buckets
  pub buckets_short : (b : ℕ) → b ≤ buckets ws
      → Short (head_line (entries ws) (theta ws) (qn ws) (qd ws) (buckets ws) ++ joined b (bucket_part ws)) (max_head_line + b * max_bucket_part)
  buckets_short b h = first_line_short then joined_short b (bucket_part ws) max_bucket_part (λ k l. part_short k (omega arith))

  pub histogram_short : length (histogram_sheet ws) ≤ max_sheet
  unfolding histogram_sheet
  histogram_short = omega (arith, roomy.few, (buckets_short (buckets ws) (omega arith)).within)

-- ---- a list

-- its words have room
pub room : (fs : List ℕ) (theta qn qd : ℕ) → length fs ≤ max_frequencies → refusal (input_sentences fs theta qn qd) ≡ 0 → Roomy (words (quality theta qn qd) fs)
unfolding words
room fs theta qn qd h e =
    let b = building.built fs theta qn qd e in
    record { readable = b.readable; short = h; few = omega (arith, h, b.few) }

-- a refusal is one of the sentences' numbers
abbrev up_to : ℕ → List Sentence → Bool
up_to m [] = true
up_to m (s ∷ ss) = leb s.number m && up_to m ss

refusal_most : (m : ℕ) (ss : List Sentence) → up_to m ss ≡ true → refusal ss ≤ m
unfolding refusal
refusal_most m [] h = omega arith
refusal_most m (s ∷ ss) h = go s.holds (refusal_most m ss (both_right (leb s.number m) (up_to m ss) h))
  where
    go : (t : Bool) → refusal ss ≤ m → cond t s.number (refusal ss) ≤ m
    go true i = leb-true s.number m (both_left (leb s.number m) (up_to m ss) h)
    go false i = i

-- its sheet, by whether the builder refuses it
module _ (fs : List ℕ) (theta qn qd : ℕ) where
  abbrev fault : ℕ
  fault = refusal (input_sentences fs theta qn qd)

  pub list_printed : fault ≡ 0 → list_sheet fs theta qn qd ≡ histogram_sheet (words (quality theta qn qd) fs)
  unfolding list_sheet
  list_printed e = ap (λ (t : Bool). cond t (histogram_sheet (words (quality theta qn qd) fs)) (refused_line fault)) (eq-eqb fault 0 e)

  pub list_refused : (fault ≡ 0 → ⊥) → list_sheet fs theta qn qd ≡ refused_line fault
  unfolding list_sheet
  list_refused h = ap (λ (t : Bool). cond t (histogram_sheet (words (quality theta qn qd) fs)) (refused_line fault)) (ne_eqb fault 0 h)

  pub list_short : length fs ≤ max_frequencies → length (list_sheet fs theta qn qd) ≤ max_sheet
  list_short h = ⊎_elim none some (tested (eqb fault 0))
    where
      none : eqb fault 0 ≡ true → length (list_sheet fs theta qn qd) ≤ max_sheet
      none t =
          let e = eqb-true fault 0 t in
          omega (arith, ap length (list_printed e), histogram_short (words (quality theta qn qd) fs) (room fs theta qn qd h e))

      some : eqb fault 0 ≡ false → length (list_sheet fs theta qn qd) ≤ max_sheet
      some t =
          let most = refused_short fault (omega (arith, refusal_most 24 (input_sentences fs theta qn qd) refl)) in
          omega (arith, ap length (list_refused (eqb-false fault 0 t)), most.within)

-- ---- lent bytes

pub filled_whole : (old text : List ℕ) → length text ≤ length old → filled old text ≡ text ++ drop (length text) old
unfolding filled
filled_whole old [] h = refl
filled_whole [] (c ∷ text) h = absurd (omega arith)
filled_whole (x ∷ old) (c ∷ text) h = ap (λ (l : List ℕ). c ∷ l) (filled_whole old text (omega arith))

pub filled_length : (old text : List ℕ) → length (filled old text) ≡ length old
unfolding filled
filled_length old [] = refl
filled_length [] (c ∷ text) = refl
filled_length (x ∷ old) (c ∷ text) = ap suc (filled_length old text)

sets_cons : (x : ℕ) (old text : List ℕ) (i : ℕ) → sets (x ∷ old) (suc i) text ≡ x ∷ sets old i text
sets_cons x old [] i = refl
sets_cons x old (c ∷ text) i = sets_cons x (set old i c) text (suc i)

sets_none : (text : List ℕ) (i : ℕ) → sets [] i text ≡ []
sets_none [] i = refl
sets_none (c ∷ text) i = sets_none text (suc i)

-- bytes that are stored one by one from the start on
pub sets_filled : (old text : List ℕ) → sets old 0 text ≡ filled old text
unfolding filled
sets_filled old [] = refl
sets_filled [] (c ∷ text) = sets_none text 1
sets_filled (x ∷ old) (c ∷ text) = sets_cons c old text 0 ∙ ap (λ (l : List ℕ). c ∷ l) (sets_filled old text)
