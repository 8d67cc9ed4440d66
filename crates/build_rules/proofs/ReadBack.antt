-- The words of the definition are a readable list, and what is read of them are its buckets.
-- Assumes nothing.
use mathlib.Core.Path.{◌≡◌, refl, sym, ap, ◌∙◌}
use mathlib.Core.Bool.{Bool, true, false, not}
use mathlib.Core.List.{List, [], ◌++◌}
use mathlib.Core.Logic.{⊎_elim}
use Prim.Native.Nat.{ℕ, zero, suc, ◌+◌, ◌-◌, ◌*◌, ◌^◌, ◌≤◌, ◌<◌}
use native.Mathlib.Nat.{eq-or-lt_of_le}
use native.Mathlib.Numerals.{add-one}
use native.Mathlib.Omega.{arith}
use borrow.Author.Tests.{le-ltb, eq-eqb}
use lib.ListN.{length, get_or, take, drop}
use lib.Seq.{get_or_at}
use Rattle.laws.specs.Each.{some}
use Rattle.laws.specs.Sums.{sum}
use Rattle.laws.proofs.Tests.{neither}
use Rattle.laws.proofs.EachLaws.{some_none}
use Rattle.words_rules.specs.declared.Bucket.{Bucket}
use Rattle.words_rules.specs.Limits.{max_width}
use Rattle.words_rules.specs.Words.{head_words, bucket_words, place, entries, theta, qn, qd, buckets, head_of, encode_head, packed_at, start_in, flag_in, listed_in, start, end, span}
use Rattle.words_rules.specs.Decoded.{with_free, decode, encode, bucket_at}
use Rattle.words_rules.specs.Reading.{head_good, large_q_fault, length_fault, words_broken, word_fault, width_fault, class_broken, total_broken, codes_broken, code_fault, Readable}
use Rattle.words_rules.specs.Claims.{InRange}
use Rattle.words_rules.proofs.DecodedLaws.{sum_with_free, decode_encode, encoded}
use Rattle.laws.proofs.BetweenLaws.{is_within}
use Rattle.list_rules.proofs.LimitLaws.{is_good_q}
use Rattle.words_rules.proofs.HeadLaws.{by_buckets, no_head_fault}
use Rattle.words_rules.proofs.StartLaws.{Starts, end_next, end_last, no_start_fault}
use Rattle.words_rules.proofs.CodeLaws.{Room, no_width_fault, no_class_fault, no_total_fault}
use Rattle.words_rules.proofs.EntryLaws.{part_packed}
use Rattle.words_rules.proofs.ReadingLaws.{readable}
use Rattle.list_rules.specs.Limits.{max_entries, max_theta, max_q}
use Rattle.list_rules.specs.declared.Quality.{Quality}
use Rattle.list_rules.specs.Private.Sound.{Sound}
use Rattle.build_rules.specs.Bucket.{bucket_widths, classes_from, bucket_from}
use Rattle.build_rules.specs.Words.{start_from, stretch, bucket_words_of, head_with, words, words_for}
use Rattle.build_rules.proofs.BucketLaws.{sum_some}
use Rattle.build_rules.proofs.WordsLaws.{words_length}
use Rattle.build_rules.proofs.StretchLaws.{Laid, laid}
use Rattle.build_rules.proofs.RangeLaws.{width_narrow, class_good, total_good_lem, in_range}

-- where the next bucket starts
start_next : (q : Quality) (fs : List ℕ) (end a k : ℕ)
    → start_from q fs end a (suc k) ≡ start_from q fs end a k + sum (bucket_widths q fs end (start_from q fs end a k))
unfolding start_from
start_next q fs end a zero = refl
start_next q fs end a (suc k) = start_next q fs end (a + sum (bucket_widths q fs end a)) k

-- the free width is one of the eight
free_narrow : (flag : Bool) (free : ℕ) (listed widths : List ℕ) → length listed ≡ 7 → with_free flag free listed ≡ widths
    → ((k : ℕ) → k < 8 → get_or widths k 0 ≤ max_width) → free ≤ max_width
free_narrow true free listed widths n e f =
    omega (arith, f 7 (omega arith), ap (λ (l : List ℕ). get_or l 7 0) e, get_or_at listed free [] 0 7 n)
free_narrow false free listed widths n e f = omega (arith, f 0 (omega arith), ap (λ (l : List ℕ). get_or l 0 0) e)

-- a span that the listed widths and the free one fill has room for the listed ones
room_of : (span listed total sum_listed free a start : ℕ) → span ≡ total → listed ≡ sum_listed → start ≡ a → free ≡ a + total - start - sum_listed
    → total ≡ free + sum_listed → free ≤ max_width → Room span listed
room_of span listed total sum_listed free a start p r s f t n = record { inside = omega arith; left = omega arith }

module _ (q : Quality) (fs : List ℕ) (sound : Sound fs q) where
  abbrev d : ℕ
  d = length fs

  abbrev ws : List ℕ
  ws = words q fs

  -- the buckets, and where each starts
  abbrev count : ℕ
  count = length (stretch q fs d 0)

  abbrev pub start_of : ℕ → ℕ
  start_of b = start_from q fs d 0 b

  abbrev bucket_of : ℕ → Bucket
  bucket_of b = bucket_from q fs d (start_of b)

  all : Laid q fs d sound (omega arith) 0 (stretch q fs d 0)
  all = laid q fs d sound (omega arith) d 0 (omega arith) (omega arith)

  words_are : ws ≡ encode_head (head_with q d count) ++ bucket_words_of (stretch q fs d 0)
  unfolding words
  words_are = refl

  pub size : length ws ≡ head_words + bucket_words * count
  unfolding words
  size = let n = words_length (stretch q fs d 0) in omega arith

  pub packed_are : (b : ℕ) → b < count → packed_at ws b ≡ encode (bucket_of b)
  packed_are b h =
      sym (part_packed ws b (omega (arith, size)))
      ∙ ap (λ (l : List ℕ). take bucket_words (drop (place b 0) l)) words_are
      ∙ ap (λ (n : ℕ). take bucket_words (drop n (encode_head (head_with q d count) ++ bucket_words_of (stretch q fs d 0)))) {x = place b 0} {y = suc (suc (suc (suc (bucket_words * b))))} (omega arith)
      ∙ all.words b h

  -- ---- the head

  pub entries_are : entries ws ≡ d
  unfolding words
  entries_are = refl

  pub theta_is : theta ws ≡ q.theta
  unfolding words
  theta_is = refl

  pub buckets_are : buckets ws ≡ count
  unfolding words
  buckets_are = refl

  pub qn_is : qn ws ≡ q.qn
  unfolding words
  qn_is = omega (arith, sound.qn_small, sound.qd_small)

  pub qd_is : qd ws ≡ q.qd
  unfolding words
  qd_is = omega (arith, sound.qn_small, sound.qd_small)

  q_small : get_or ws 2 0 < 2 ^ 20
  unfolding words
  q_small = omega (arith, sound.qn_small, sound.qd_small)

  -- ---- the buckets

  start_below : (b : ℕ) → b < count → start_of b < d
  start_below b h = all.starts b h

  pub start_step : (b : ℕ) → start_of (suc b) ≡ start_of b + sum (bucket_widths q fs d (start_of b))
  start_step b = start_next q fs d 0 b

  range : (b : ℕ) → b < count → InRange (bucket_of b) (start_of b + sum (bucket_widths q fs d (start_of b)))
  range b h = in_range q fs d (start_of b) sound (omega arith) (omega (arith, start_below b h))

  decoded_words : (b : ℕ) → b < count → decode (encode (bucket_of b)) (start_of b + sum (bucket_widths q fs d (start_of b))) ≡ bucket_of b
  decoded_words b h = decode_encode (bucket_of b) (start_of b + sum (bucket_widths q fs d (start_of b))) (range b h)

  start_in_lem : (b : ℕ) → b < count → start_in (encode (bucket_of b)) ≡ start_of b
  unfolding decode bucket_from
  start_in_lem b h = ap (λ (r : Bucket). r.start) (decoded_words b h)

  pub start_is : (b : ℕ) → b < count → start ws b ≡ start_of b
  start_is b h = ap start_in (packed_are b h) ∙ start_in_lem b h

  pub end_is : (b : ℕ) → b < count → end ws b ≡ start_of (suc b)
  end_is b h =
      let n = buckets_are in
      ⊎_elim
      (λ (e : suc b ≡ count). end_last ws b (omega arith) ∙ entries_are ∙ sym (ap start_of e ∙ all.ends))
      (λ (l : suc b < count). end_next ws b (omega arith) ∙ ap (start ws) (add-one b) ∙ start_is (suc b) l)
      (eq-or-lt_of_le h)

  pub bucket_is : (b : ℕ) → b < count → bucket_at ws b ≡ bucket_of b
  bucket_is b h =
      ap (λ (packed : List ℕ). decode packed (end ws b)) (packed_are b h)
      ∙ ap (decode (encode (bucket_of b))) (end_is b h ∙ start_step b)
      ∙ decoded_words b h

  pub span_is : (b : ℕ) → b < count → span ws b ≡ sum (bucket_widths q fs d (start_of b))
  span_is b h = omega (arith, end_is b h, start_is b h, start_step b)

  -- ---- no sentence 7, 24 or 8 to 12 is true

  -- the listed widths leave the free one of what the bucket spans
  listed_room : (b : ℕ) → b < count → Room (span ws b) (sum (listed_in (packed_at ws b)))
  unfolding decode bucket_from
  listed_room b h =
      let packed = encode (bucket_of b) in
      let a = start_of b in
      let widths = bucket_widths q fs d a in
      let free = a + sum widths - start_in packed - sum (listed_in packed) in
      let e : with_free (flag_in packed) free (listed_in packed) ≡ widths = ap (λ (r : Bucket). r.widths) (decoded_words b h) in
      room_of (span ws b) (sum (listed_in (packed_at ws b))) (sum widths) (sum (listed_in packed)) free a (start_in packed)
      (span_is b h) (ap (λ (f : List ℕ). sum (listed_in f)) (packed_are b h)) (start_in_lem b h) refl
      (sym (ap sum e) ∙ sum_with_free (flag_in packed) free (listed_in packed))
      (free_narrow (flag_in packed) free (listed_in packed) widths refl e (λ k g. width_narrow q fs d a k g))

  codes_good : (b : ℕ) → b < count → codes_broken (bucket_at ws b) ≡ false
  unfolding codes_broken bucket_from
  codes_good b h =
      let a = start_of b in
      let below = start_below b h in
      ap codes_broken (bucket_is b h)
      ∙ neither (some 8 (λ k. class_broken (get_or (bucket_widths q fs d a) k 0) (get_or (classes_from fs a (bucket_widths q fs d a)) k 0))) (total_broken (bucket_of b))
      (some_none 8 _ (λ k g. no_class_fault _ _ (class_good q fs d a sound (omega arith) (omega arith) k g)))
      (no_total_fault (bucket_of b) (total_good_lem q fs d a sound (omega arith) (omega arith)))

  zero_start : start_of 0 ≡ 0
  unfolding start_from
  zero_start = refl

  some_buckets : 1 ≤ count
  unfolding start_from
  some_buckets = go count all.ends
    where
      go : (n : ℕ) → start_of n ≡ d → 1 ≤ n
      go zero e = omega (arith, sound.some)
      go (suc n) e = omega arith

  head_good_lem : head_good (head_of ws) ≡ true
  head_good_lem =
      by_buckets (head_of ws)
      (rw entries_are (is_within 1 max_entries d (record { least = sound.some; most = sound.many })))
      (rw theta_is (is_within 1 max_theta q.theta (record { least = sound.theta_some; most = sound.theta_small })))
      (rw (qn_is, qd_is)
      (is_good_q q.qn q.qd
      (record {
        num = record { least = omega (arith, sound.factor, sound.qd_some); most = sound.qn_small };
        den = record { least = sound.qd_some; most = sound.qd_small };
        least = sound.factor;
      })))
      ∙ rw (entries_are, buckets_are) (is_within 1 d count (record { least = some_buckets; most = omega (arith, all.few, sound.some) }))

  starts_are : Starts ws
  starts_are =
      let n = buckets_are in
      record {
        first = start_is 0 some_buckets ∙ zero_start;
        rise = λ b h. rw (start_is b (omega arith), ap (start ws) (add-one b) ∙ start_is (suc b) (omega arith)) (rises b (omega arith));
        below = λ b h. rw (start_is b (omega arith), entries_are) (start_below b (omega arith));
      }
    where
      rises : (b : ℕ) → b < count → start_of b < start_of (suc b)
      rises b h = omega (arith, start_step b, sum_some q fs d (start_of b) sound (omega arith) (start_below b h))

  pub readable_words : Readable ws
  unfolding large_q_fault length_fault word_fault width_fault code_fault
  readable_words =
      let n = buckets_are in
      readable ws
      (record {
        head = no_head_fault ws (record { words = omega (arith, size); q_bits = q_small; head = head_good_lem });
        q = rw (qn_is, qd_is) (le-ltb (max_q * q.qd) q.qn sound.factor_small);
        size = ap not (eq-eqb (length ws) (head_words + bucket_words * buckets ws) (size ∙ ap (λ (b : ℕ). head_words + bucket_words * b) (sym n)));
        words = some_none (buckets ws) _ (λ b h. ap words_broken (packed_are b (omega arith)) ∙ encoded (bucket_of b));
        starts = no_start_fault ws starts_are;
        widths = some_none (buckets ws) _ (λ b h. no_width_fault _ _ (listed_room b (omega arith)));
        codes = some_none (buckets ws) _ (λ b h. codes_good b (omega arith));
      })

  pub few : 8 * buckets ws ≤ d + 7
  few = omega (arith, all.few, buckets_are)

  pub short : length ws ≤ words_for d
  short = omega (arith, all.few, size)
