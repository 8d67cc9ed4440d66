-- What is known of a readable list (specs/Claims.antt): sentences 7, 24 and 8 to 12 are false, which says what the files beside this one draw from it.
-- Assumes nothing.
use mathlib.Core.Path.{◌≡◌, refl}
use mathlib.Core.Bool.{false}
use mathlib.Core.List.{List}
use Prim.Native.Nat.{ℕ, zero, suc, ◌+◌, ◌^◌, ◌≤◌, ◌<◌}
use native.Mathlib.Omega.{arith}
use borrow.Author.Tests.{ltb-false, eqb-true, not-false}
use Rattle.laws.specs.Each.{some}
use Rattle.laws.specs.Refusal.{refusal}
use Rattle.laws.specs.Sums.{sum}
use Rattle.laws.proofs.EachLaws.{none_at}
use Rattle.laws.proofs.RefusalLaws.{numbered, none_true}
use Rattle.laws.proofs.Tests.{neither_left, neither_right}
use Rattle.words_rules.specs.Words.{word, kind, entries, theta, qn, qd, buckets, head_of, packed_at, start_in, listed_in, start, end, span}
use Rattle.words_rules.specs.Decoded.{class_at, bucket_at, width_at}
use Rattle.words_rules.specs.Reading.{head_fault, large_q_fault, length_fault, word_fault, start_fault, widths_broken, width_fault, class_broken, total_broken, codes_broken, code_fault, read_sentences, Readable}
use Rattle.words_rules.specs.Claims.{HeadLimits, Holds}
use Rattle.words_rules.proofs.DecodedLaws.{decoded, decoded_sum, decoded_width}
use Rattle.laws.proofs.BetweenLaws.{within}
use Rattle.list_rules.proofs.LimitLaws.{good_q}
use Rattle.words_rules.proofs.HeadLaws.{good_head, head_words_lem}
use Rattle.words_rules.proofs.StartLaws.{Starts, starts, tiles}
use Rattle.words_rules.proofs.CodeLaws.{Room, room, ClassGood, class_good, TotalGood, total_good_lem}
use Rattle.words_rules.specs.Limits.{max_width}
use Rattle.list_rules.specs.Limits.{max_entries, max_theta}

pub record NoFault (ws : List ℕ) : Type 0 where
  pub head : head_fault ws ≡ false
  pub q : large_q_fault ws ≡ false
  pub size : length_fault ws ≡ false
  pub words : word_fault ws ≡ false
  pub starts : start_fault ws ≡ false
  pub widths : width_fault ws ≡ false
  pub codes : code_fault ws ≡ false

pub no_fault : (ws : List ℕ) → Readable ws → NoFault ws
unfolding numbered
no_fault ws r =
    let f = none_true (read_sentences ws) refl r in
    record { head = f.0; q = f.1.0; size = f.1.1.0; words = f.1.1.1.0; starts = f.1.1.1.1.0; widths = f.1.1.1.1.1.0; codes = f.1.1.1.1.1.1.0 }

pub readable : (ws : List ℕ) → NoFault ws → Readable ws
unfolding refusal
readable ws f = simp (f.head, f.q, f.size, f.words, f.starts, f.widths, f.codes)

pub limits : (ws : List ℕ) → NoFault ws → HeadLimits ws
unfolding large_q_fault length_fault
limits ws f =
    let words = head_words_lem ws f.head in
    let h = good_head (head_of ws) words.head in
    let d = within 1 max_entries (entries ws) h.entries in
    let t = within 1 max_theta (theta ws) h.theta in
    let q = good_q (qn ws) (qd ws) h.q in
    let n = within 1 (entries ws) (buckets ws) h.buckets in
    record {
      words = eqb-true _ _ (not-false _ f.size);
      kinds = kinds (omega arith) (omega arith) words.q_bits (omega arith);
      some_entries = d.least;
      most_entries = d.most;
      least_theta = t.least;
      most_theta = t.most;
      least_qn_lem = q.num.least;
      most_qn = q.num.most;
      least_qd_lem = q.den.least;
      most_qd = q.den.most;
      least_q = q.least;
      most_q = ltb-false _ _ f.q;
      some_buckets = n.least;
      most_buckets = n.most;
    }
  where
    kinds : word ws 0 < 2 ^ 20 → word ws 1 < 2 ^ 20 → word ws 2 < 2 ^ 20 → word ws 3 < 2 ^ 20 → (i : ℕ) → i < 4 → kind (word ws i) ≡ 0
    kinds a b c e zero h = omega arith
    kinds a b c e (suc zero) h = omega arith
    kinds a b c e (suc (suc zero)) h = omega arith
    kinds a b c e (suc (suc (suc zero))) h = omega arith
    kinds a b c e (suc (suc (suc (suc i)))) h = absurd (omega arith)

pub starts_in : (ws : List ℕ) → NoFault ws → Starts ws
starts_in ws f = starts ws f.starts

module _ (ws : List ℕ) (f : NoFault ws) (b : ℕ) (h : b < buckets ws) where
  room_in : Room (span ws b) (sum (listed_in (packed_at ws b)))
  unfolding width_fault
  room_in = room _ _ (none_at (buckets ws) (λ b. widths_broken (span ws b) (sum (listed_in (packed_at ws b)))) f.widths b h)

  codes_in : codes_broken (bucket_at ws b) ≡ false
  unfolding code_fault
  codes_in = none_at (buckets ws) (λ b. codes_broken (bucket_at ws b)) f.codes b h

  fits_in : start_in (packed_at ws b) + sum (listed_in (packed_at ws b)) ≤ end ws b
  fits_in = let s : start ws b < end ws b = (tiles ws (starts_in ws f)).not_empty b h in let r = room_in.inside in omega arith

  class_in : (k : ℕ) → k < 8 → ClassGood (width_at (bucket_at ws b) k) (class_at (bucket_at ws b) k)
  unfolding codes_broken
  class_in k g =
      let r = bucket_at ws b in
      class_good _ _ (none_at 8 (λ k. class_broken (width_at r k) (class_at r k)) (neither_left _ (total_broken r) codes_in) k g)

  total_in_lem : TotalGood (bucket_at ws b)
  unfolding codes_broken
  total_in_lem =
      let r = bucket_at ws b in
      total_good_lem r (neither_right (some 8 (λ k. class_broken (width_at r k) (class_at r k))) (total_broken r) codes_in)

  pub holds : Holds ws b
  holds =
      let packed = packed_at ws b in
      record {
        in_range = decoded packed (end ws b) fits_in;
        spanned = decoded_sum packed (end ws b) fits_in;
        widths = decoded_width packed (end ws b) max_width (omega arith) room_in.left;
        empty_class = λ k g. (class_in k g).empty;
        class_used = λ k g. (class_in k g).known;
        total_valid = total_in_lem.valid;
        total_0 = total_in_lem.none;
      }
