-- Laws of text that is put piece by piece: pieces follow one another, and each line is short enough for its place.
-- Assumes nothing.
use mathlib.Core.Path.{◌≡◌, refl, sym, ap, ◌∙◌, subst}
use mathlib.Core.List.{List, [], ◌++◌, append_assoc}
use Prim.Native.Nat.{ℕ, suc, ◌+◌, ◌-◌, ◌*◌, ◌≤◌, ◌<◌}
use native.Mathlib.Omega.{arith}
use borrow.Rule.Slice.PartMut.{put_mid}
use lib.ListN.{length, take, drop, length-append}
use lib.Seq.{sets, sets-eq, drop-drop}
use Rattle.laws.proofs.SetsLaws.{sets_append}
use Rattle.counts_rules.specs.Total.{total_number}
use Rattle.words_rules.specs.declared.Bucket.{Bucket}
use Rattle.words_rules.specs.declared.Head.{Head}
use Rattle.words_rules.specs.Words.{entries, theta, qn, qd, buckets, head_of, start, end}
use Rattle.words_rules.specs.Decoded.{bucket_at, class_at, bucketlet_start, bucketlet_end, width_at, number_at}
use Rattle.words_rules.proofs.EntryLaws.{bucketlet_end_lem}
use Rattle.sheet_rules.specs.Limits.{max_bucketlet_line, max_bucket_part, sheet_bytes}
use Rattle.sheet_rules.specs.Lines.{head_line, bucket_line, bucketlet_line}
use Rattle.sheet_rules.specs.Sheet.{joined, bucketlet_part, bucket_part, histogram_sheet}
use Rattle.sheet_rules.specs.Private.Room.{Roomy, Printable}
use Rattle.sheet_rules.proofs.SheetLaws.{Short, some_part, bucketlet_short, joined_short, buckets_short}
use Rattle.sheet_text.specs.Private.Printing.{Put}

-- ---- pieces

-- a copy into a part of the bytes puts the text there
pub put_part : (old text : List ℕ) (at n : ℕ) → n ≡ length text → at + n ≤ length old → put_mid at (at + n - at) old text ≡ sets old at text
put_part old text at n e h =
    let k : at + n - at ≡ length text = omega (arith, e) in
    ap (λ (l : List ℕ). take at old ++ (text ++ l)) (drop-drop (at + n - at) at old ∙ ap (λ (m : ℕ). drop (at + m) old) k)
    ∙ sym (append_assoc (take at old) text (drop (at + length text) old))
    ∙ sym (sets-eq text old at (omega (arith, e, h)))

pub put_nothing : (old : List ℕ) (at : ℕ) → Put old old at at []
put_nothing old at = record { bytes = refl; ends = omega arith }

pub put_both : {old middle new text more : List ℕ} {at next end : ℕ} → Put old middle at next text → Put middle new next end more → Put old new at end (text ++ more)
put_both {old} {middle} {new} {text} {more} {at} {next} {end} p q =
    record {
      bytes =
          q.bytes
          ∙ ap (λ (l : List ℕ). sets l next more) p.bytes
          ∙ ap (λ (k : ℕ). sets (sets old at text) k more) p.ends
          ∙ sym (sets_append old at text more);
      ends = omega (arith, p.ends, q.ends, length-append text more);
    }

-- ---- bucketlets

-- the line of a bucketlet, by the numbers in hand
pub part_line : (r : Bucket) (k start end class number : ℕ) → 0 < width_at r k → start ≡ bucketlet_start r k → end ≡ start + width_at r k
    → class ≡ class_at r k → number ≡ number_at r k → bucketlet_line start end class number ≡ bucketlet_part r k
part_line r k start end class number h s e c n =
    let next : end ≡ bucketlet_end r k = omega (arith, s, e, bucketlet_end_lem r k) in
    (λ i. bucketlet_line (s i) (next i) (c i) (n i)) ∙ sym (some_part r k h)

-- the first k of them are put, and the next starts at an entry
pub record Some (r : Bucket) (old out : List ℕ) (from at start k : ℕ) : Type 0 where
  pub up_to : k ≤ 8
  pub begins : start ≡ bucketlet_start r k
  pub done : Put old out from at (joined k (bucketlet_part r))

pub none : (r : Bucket) (old : List ℕ) (from : ℕ) → Some r old old from from r.start 0
unfolding joined
none r old from = record { up_to = omega arith; begins = omega arith; done = put_nothing old from }

pub some_more : (r : Bucket) (old out next : List ℕ) (from at end start k : ℕ) → k < 8 → Some r old out from at start k → Put out next at end (bucketlet_part r k)
    → Some r old next from end (start + width_at r k) (suc k)
unfolding joined
some_more r old out next from at end start k h s p =
    record { up_to = h; begins = omega (arith, s.begins, bucketlet_end_lem r k); done = put_both s.done p }

pub some_room : (r : Bucket) (old out : List ℕ) (from at start k : ℕ) → Printable r → k < 8 → Some r old out from at start k → at ≤ from + k * max_bucketlet_line
some_room r old out from at start k p h s =
    omega (arith, s.done.ends, (joined_short k (bucketlet_part r) max_bucketlet_line (λ j l. bucketlet_short r p j (omega arith))).within)

-- ---- buckets

abbrev pub bucket_text : List ℕ → ℕ → List ℕ
bucket_text ws b = bucket_line (start ws b) (end ws b) (bucket_at ws b).total (total_number (bucket_at ws b).total)

-- a bucket's line, by the bucket and the numbers in hand, and its bucketlets after it
module _ (ws : List ℕ) (b : ℕ) (r : Bucket) (bucket : r ≡ bucket_at ws b) where
  pub bucket_line_lem : (first last number : ℕ) → first ≡ start ws b → last ≡ end ws b → number ≡ total_number r.total
      → bucket_line first last r.total number ≡ bucket_text ws b
  bucket_line_lem first last number s e n =
      (λ i. bucket_line (s i) (e i) r.total (n i)) ∙ ap (λ (x : Bucket). bucket_line (start ws b) (end ws b) x.total (total_number x.total)) bucket

  pub bucket_whole : bucket_text ws b ++ joined 8 (bucketlet_part r) ≡ bucket_part ws b
  unfolding bucket_part
  bucket_whole = ap (λ (x : Bucket). bucket_text ws b ++ joined 8 (bucketlet_part x)) bucket

-- ---- a histogram

abbrev pub head_text : List ℕ → List ℕ
head_text ws = head_line (entries ws) (theta ws) (qn ws) (qd ws) (buckets ws)

-- the head's line, by the head in hand
pub head_text_lem : (ws : List ℕ) (h : Head) → h ≡ head_of ws → head_line h.entries h.theta h.qn h.qd h.buckets ≡ head_text ws
head_text_lem ws h e = ap (λ (x : Head). head_line x.entries x.theta x.qn x.qd x.buckets) e

-- after the head and b buckets there is room for one more
pub next_room : (ws : List ℕ) (old out : List ℕ) (b first at : ℕ) → Roomy ws → b < buckets ws
    → first ≡ length (head_text ws) → Put old out first at (joined b (bucket_part ws)) → at + max_bucket_part ≤ sheet_bytes
next_room ws old out b first at roomy h f p =
    omega (
      arith,
      f,
      p.ends,
      roomy.few,
      (buckets_short ws roomy b (omega arith)).within,
      length-append (head_text ws) (joined b (bucket_part ws)),
    )

pub more_buckets : (ws old out next : List ℕ) (b first at end : ℕ) → Put old out first at (joined b (bucket_part ws)) → Put out next at end (bucket_part ws b)
    → Put old next first end (joined (suc b) (bucket_part ws))
unfolding joined
more_buckets ws old out next b first at end p q = put_both p q

pub all_buckets : (ws old out next : List ℕ) (n from first at : ℕ) → n ≡ buckets ws
    → Put old out from first (head_text ws) → Put out next first at (joined n (bucket_part ws))
    → Put old next from at (histogram_sheet ws)
unfolding histogram_sheet
all_buckets ws old out next n from first at e p q = put_both p (subst (λ (k : ℕ). Put out next first at (joined k (bucket_part ws))) e q)
