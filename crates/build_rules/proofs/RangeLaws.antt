-- The fields of a bucket that is laid out are in range: its words hold them all.
-- Assumes nothing.
use mathlib.Core.Path.{◌≡◌, refl, ap, subst, ◌∙◌}
use mathlib.Core.Bool.{Bool, true, false, cond, not, ◌||◌}
use mathlib.Core.List.{List, [], ◌∷◌}
use Prim.Native.Nat.{ℕ, zero, suc, ◌+◌, ◌≤◌, ◌<◌}
use native.Mathlib.Omega.{arith}
use borrow.Author.Tests.{ltb-false, leb-true, lt-leb, ne_eqb}
use lib.Dec.{leb, eqb}
use lib.ListN.{length, get_or}
use Rattle.laws.specs.Sums.{sum, part_sum}
use Rattle.laws.proofs.Tests.{true_not_false, holds_other, neither}
use Rattle.laws.proofs.Table.{at}
use Rattle.laws.proofs.SumsLaws.{prefix_mono, part_within}
use Rattle.counts_rules.specs.Form.{base, used_class}
use Rattle.counts_rules.specs.Total.{code_bits, code_shift, total_code}
use Rattle.counts_rules.proofs.ClassLaws.{class_none}
use Rattle.counts_rules.proofs.BaseLaws.{class_used, used_says}
use Rattle.counts_rules.proofs.TotalLaws.{code_valid, valid_says, only_none}
use Rattle.words_rules.specs.Limits.{max_listed, max_width}
use Rattle.words_rules.specs.Claims.{InRange}
use Rattle.words_rules.proofs.CodeLaws.{ClassGood, TotalGood}
use Rattle.list_rules.specs.declared.Quality.{Quality}
use Rattle.list_rules.specs.Private.Sound.{Sound}
use Rattle.build_rules.specs.Bucket.{first_free, limits_of, bucket_widths, classes_from, bucket_from}
use Rattle.build_rules.proofs.WidthLaws.{count_small}
use Rattle.build_rules.proofs.BucketLaws.{place_of, limit_bounds, widths_length, first_is, width_limited, place_next, next_is, classes_length, class_at_lem, class_of_none}

-- the limits but the first are those of listed widths, the last where the first is wide
limit_listed : (first k : ℕ) → 1 ≤ k → k < 8 → (k ≡ 7 → first_free first ≡ true) → get_or (limits_of first) k 0 ≤ max_listed
limit_listed first k h l f = go (first_free first) refl
  where
    limits : Bool → List ℕ
    limits t = max_width ∷ max_listed ∷ max_listed ∷ max_listed ∷ max_listed ∷ max_listed ∷ max_listed ∷ cond t max_listed max_width ∷ []

    go : (t : Bool) → first_free first ≡ t → get_or (limits t) k 0 ≤ max_listed
    go true e = leb-true _ max_listed (holds_other (leb k 0) _ (at (λ k x. leb k 0 || leb x max_listed) (limits true) refl k l) (lt-leb k 0 h))
    go false e =
        let n : k ≡ 7 → ⊥ = λ z. true_not_false (f z) e in
        leb-true _ max_listed
        (holds_other (leb k 0 || eqb k 7) _ (at (λ k x. (leb k 0 || eqb k 7) || leb x max_listed) (limits false) refl k l) (neither (leb k 0) (eqb k 7) (lt-leb k 0 h) (ne_eqb k 7 n)))

module _ (q : Quality) (fs : List ℕ) (end a : ℕ) where
  abbrev ws : List ℕ
  ws = bucket_widths q fs end a

  pub width_narrow : (k : ℕ) → k < 8 → get_or ws k 0 ≤ max_width
  width_narrow k h = omega (arith, width_limited q fs end a k h, limit_bounds (get_or ws 0 0) k h)

  -- all but the free one have nine bits
  listed : (k : ℕ) → k < 7 → get_or ws (cond (not (first_free (get_or ws 0 0))) k (suc k)) 0 ≤ max_listed
  listed k h = go (first_free (get_or ws 0 0)) refl k h
    where
      narrow : (k : ℕ) → k < 7 → first_free (get_or ws 0 0) ≡ false → get_or ws k 0 ≤ max_listed
      narrow zero h e = ltb-false max_listed (get_or ws 0 0) e
      narrow (suc k) h e = omega (arith, width_limited q fs end a (suc k) (omega arith), limit_listed (get_or ws 0 0) (suc k) (omega arith) (omega arith) (λ z. absurd (omega arith)))

      go : (t : Bool) → first_free (get_or ws 0 0) ≡ t → (k : ℕ) → k < 7 → get_or ws (cond (not t) k (suc k)) 0 ≤ max_listed
      go true e k h = omega (arith, width_limited q fs end a (suc k) (omega arith), limit_listed (get_or ws 0 0) (suc k) (omega arith) (omega arith) (λ z. e))
      go false e k h = narrow k h e

  module _ (sound : Sound fs q) (inside : end ≤ length fs) (before : a ≤ end) where
    long : (k : ℕ) → k < 8 → k < length ws
    long k h = omega (arith, widths_length q fs end a)

    -- what sentence 12 asks of its classes
    pub class_good : (k : ℕ) → k < 8 → ClassGood (get_or ws k 0) (get_or (classes_from fs a ws) k 0)
    class_good k h =
        let place = place_of q fs end a k in
        record {
          known = ap used_class (class_at_lem fs a ws k (long k h)) ∙ class_used (part_sum place (get_or ws k 0) fs) (count_small q fs sound place (get_or ws k 0));
          empty = class_of_none fs a ws k (long k h);
        }

    -- and of its total: where that is 0, so is the count of each bucketlet
    pub total_good_lem : TotalGood (bucket_from q fs end a)
    unfolding bucket_from
    total_good_lem =
        record { valid = code_valid (part_sum a (sum ws) fs) (count_small q fs sound a (sum ws)); none = λ e k h. class_at_lem fs a ws k (long k h) ∙ class_none base (omega arith) (omega arith) _ (none e k h) }
      where
        none : total_code (part_sum a (sum ws) fs) ≡ 0 → (k : ℕ) → k < 8 → part_sum (place_of q fs end a k) (get_or ws k 0) fs ≡ 0
        none e k h =
            let whole = only_none (part_sum a (sum ws) fs) (count_small q fs sound a (sum ws)) e in
            let upto = prefix_mono (suc k) 8 ws h in
            let part = part_within a (sum ws) (place_of q fs end a k) (get_or ws k 0) fs (omega arith) (omega (arith, place_next q fs end a k, next_is q fs end a)) in
            omega arith

    pub in_range : InRange (bucket_from q fs end a) (a + sum ws)
    unfolding bucket_from
    in_range =
        let v = valid_says (code_bits (bucket_from q fs end a).total) (code_shift (bucket_from q fs end a).total) total_good_lem.valid in
        record {
          eight_widths = widths_length q fs end a;
          eight_classes = classes_length fs a ws ∙ widths_length q fs end a;
          start_bits = omega (arith, sound.many);
          listed_bits = λ k h. subst (λ (n : ℕ). get_or ws (cond (not (first_free n)) k (suc k)) 0 ≤ max_listed) (first_is q fs end a) (listed k h);
          class_bits_lem = λ k h. omega (arith, (used_says (get_or (classes_from fs a ws) k 0) (class_good k h).known).0);
          total_bits = omega (arith, v.bits_top);
          ends = refl;
        }
