-- The histogram of the definition is accepted for its list: each width fits by its rule, and each total is within 65/64 of its count.
-- Assumes nothing.
use mathlib.Core.Path.{◌≡◌, refl, sym, ap, ◌∙◌}
use mathlib.Core.Bool.{true, false, not}
use mathlib.Core.List.{List, [], ◌∷◌, ◌++◌}
use mathlib.Core.Logic.{⊎_elim}
use Prim.Native.Nat.{ℕ, ◌*◌, ◌≤◌, ◌<◌}
use native.Mathlib.Nat.{eq-or-lt_of_le, mul-le-mul_left, mul-le-mul_right}
use native.Mathlib.Omega.{arith}
use borrow.Author.Tests.{eq-eqb}
use lib.Dec.{eqb}
use lib.ListN.{length, get_or}
use Rattle.laws.specs.Each.{each}
use Rattle.laws.specs.Sums.{sum, part_sum}
use Rattle.laws.proofs.Tests.{both, holds_left, holds_right}
use Rattle.laws.proofs.EachLaws.{each_all}
use Rattle.laws.proofs.RefusalLaws.{numbered, append_passed, none_left}
use Rattle.laws.proofs.RefusalLaws as law
use Rattle.counts_rules.specs.Limit.{limit}
use Rattle.counts_rules.specs.Form.{base}
use Rattle.counts_rules.specs.Class.{class_number}
use Rattle.counts_rules.specs.Total.{total_code, total_number}
use Rattle.counts_rules.proofs.TotalLaws.{count_within, number_within}
use Rattle.words_rules.specs.declared.Bucket.{Bucket}
use Rattle.words_rules.specs.Words.{entries, buckets, span}
use Rattle.words_rules.specs.Decoded.{bucket_at}
use Rattle.words_rules.specs.Reading.{read_sentences}
use Rattle.list_rules.specs.declared.Quality.{Quality}
use Rattle.fit.specs.Fit.{bucketlet_fits}
use Rattle.list_rules.specs.Frequencies.{list_sentences, list_fault}
use Rattle.fit.specs.Accepted.{mismatch, check_fault, quality_of, bucketlet_good, total_good, bucket_good, accepted}
use Rattle.fit.proofs.FitLaws.{says_near}
use Rattle.list_rules.specs.Private.Sound.{Sound}
use Rattle.build_rules.specs.Width.{fits_at}
use Rattle.build_rules.specs.Bucket.{bucket_widths, bucket_from}
use Rattle.build_rules.specs.Words.{stretch, words}
use Rattle.build_rules.proofs.WidthLaws.{count_small, width_fits}
use Rattle.build_rules.proofs.BucketLaws.{place_of, widths_length, width_at_lem, class_at_lem}
use Rattle.build_rules.proofs.ReadBack.{start_of, entries_are, theta_is, qn_is, qd_is, buckets_are, start_is, span_is, bucket_is, readable_words}

module _ (q : Quality) (fs : List ℕ) (sound : Sound fs q) where
  -- a bucketlet that holds an entry fits
  bucketlet_good_lem : (end a k : ℕ) → k < 8 → bucketlet_good q fs (bucket_from q fs end a) k ≡ true
  unfolding bucket_from fits_at
  bucketlet_good_lem end a k h =
      let ws = bucket_widths q fs end a in
      let place = place_of q fs end a k in
      let w = get_or ws k 0 in
      ⊎_elim
      (λ (e : 0 ≡ w). holds_left (eqb w 0) _ (eq-eqb w 0 (sym e)))
      (λ (l : 0 < w).
      let c = class_at_lem fs a ws k (omega (arith, widths_length q fs end a)) in
      holds_right (eqb w 0) _ (ap (λ (c : ℕ). bucketlet_fits q fs place w (class_number base c)) c ∙ width_fits q fs place _ w (width_at_lem q fs end a k h) l))
      (eq-or-lt_of_le (omega arith))

  -- a total and the number of its code are within 65/64, and so within q
  total_good_lem : (f : ℕ) → f ≤ limit → total_good q f (total_code f) ≡ true
  total_good_lem f h =
      let n = total_number (total_code f) in
      let over : 260 * (q.qd * f) ≤ 260 * (q.qn * n) = omega (arith, mul-le-mul_left q.qd (count_within f h), mul-le-mul_right n sound.factor) in
      let under : 260 * (q.qd * n) ≤ 260 * (q.qn * f) = omega (arith, mul-le-mul_left q.qd (number_within f h), mul-le-mul_right f sound.factor) in
      says_near q f n 1 (record { count = omega arith; estimate = omega arith })

  bucket_good_lem : (b : ℕ) → b < length (stretch q fs (length fs) 0) → bucket_good q fs (words q fs) b ≡ true
  unfolding bucket_from
  bucket_good_lem b h =
      let ws = words q fs in
      let a = start_of q fs sound b in
      let f = part_sum a (sum (bucket_widths q fs (length fs) a)) fs in
      both (each 8 (bucketlet_good q fs (bucket_at ws b))) _
      (rw (bucket_is q fs sound b h) (each_all 8 _ (λ k l. bucketlet_good_lem (length fs) a k l)))
      (ap (λ (x : ℕ). total_good q (part_sum x (span ws b) fs) (bucket_at ws b).total) (start_is q fs sound b h)
      ∙ ap (λ (x : ℕ). total_good q (part_sum a x fs) (bucket_at ws b).total) (span_is q fs sound b h)
      ∙ ap (λ (r : Bucket). total_good q f r.total) (bucket_is q fs sound b h)
      ∙ total_good_lem f (count_small q fs sound a (sum (bucket_widths q fs (length fs) a))))

  quality_is : quality_of (words q fs) ≡ q
  quality_is = rw (theta_is q fs sound, qn_is q fs sound, qd_is q fs sound)

  matches : mismatch fs (words q fs) ≡ false
  unfolding mismatch
  matches = ap not (eq-eqb (length fs) (entries (words q fs)) (sym (entries_are q fs sound)))

  no_fault : list_fault fs ≡ 0 → check_fault fs (words q fs) ≡ 0
  unfolding numbered
  no_fault e =
      let ws = words q fs in
      append_passed (list_sentences fs ++ read_sentences ws) (record { number = 13; holds = mismatch fs ws } ∷ []) refl (append_passed (list_sentences fs) (read_sentences ws) refl e ∙ readable_words q fs sound)
      ∙ law.passed (record { number = 13; holds = mismatch fs ws }) [] matches
      ∙ none_left

  pub accepted_words : list_fault fs ≡ 0 → accepted fs (words q fs) ≡ true
  unfolding accepted
  accepted_words e =
      let ws = words q fs in
      let n = buckets_are q fs sound in
      both (eqb (check_fault fs ws) 0) _ (eq-eqb (check_fault fs ws) 0 (no_fault e)) (rw quality_is (each_all (buckets ws) _ (λ b h. bucket_good_lem b (omega arith))))
