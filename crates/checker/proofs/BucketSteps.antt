-- The steps from bucketlet to bucketlet: nothing fails in those before the one in hand, and they end where it starts. Assumes
-- nothing.
use mathlib.Core.Path.{◌≡◌, sym, ap, subst, ◌∙◌}
use mathlib.Core.List.{List}
use mathlib.Core.Logic.{⊎_elim}
use Prim.Native.Nat.{ℕ, ◌+◌, ◌≤◌, ◌<◌, min}
use native.Mathlib.Nat.{eq-or-lt_of_le}
use native.Mathlib.Numerals.{add-one}
use native.Mathlib.Omega.{arith}
use lib.ListN.{length, get_or}
use Rattle.laws.proofs.SumsLaws.{prefix_suc, prefix_all}
use Rattle.counts_rules.specs.Form.{base}
use Rattle.counts_rules.specs.Class.{class_number}
use Rattle.counts_rules.specs.Total.{valid_code}
use Rattle.words_rules.specs.declared.Bucket.{Bucket}
use Rattle.words_rules.specs.Words.{buckets, start, end}
use Rattle.words_rules.specs.Decoded.{decode, bucket_at, class_at, bucketlet_start, width_at}
use Rattle.list_rules.specs.declared.Quality.{Quality}
use Rattle.check_rules.specs.declared.Failing.{Failing}
use Rattle.check_rules.specs.declared.Verdict.{Verdict}
use Rattle.check_rules.specs.declared.Verdict.TheVariants.{Accepted, Fails}
use Rattle.check_rules.specs.Failing.{first_failing, bucketlet_verdict}
use Rattle.check_rules.specs.Checking.{bucketlet_answer, total_verdict, bucket_verdict}
use Rattle.check_rules.proofs.FirstLaws.{first_at}
use Rattle.check_rules.proofs.RangeLaws.{not_accepted}
use Rattle.check_rules.proofs.CheckLaws.{total_decides, bucketlet_decides}
use Rattle.checker.specs.Private.Searching.{Checkable, Classed, Totalled}
use Rattle.checker.proofs.HistogramLaws.{held, end_inside, classed}

-- the first that fails
pub first_fails : (answer : ℕ → Verdict) (n k : ℕ) (f : Failing) → k < n → ((m : ℕ) → m < k → answer m ≡ Accepted) → answer k ≡ Fails f
    → first_failing answer n 0 ≡ Fails f
first_fails answer n k f h before e = first_at answer n 0 k (omega arith) (omega arith) (λ m _ l. before m l) (λ a. not_accepted (sym e ∙ a)) ∙ e

module _ (q : Quality) (fs : List ℕ) (r : Bucket) where
  pub record Passed (at k : ℕ) : Type 0 where
    pub places : k ≤ 8
    pub at_place : at ≡ bucketlet_start r k
    pub accepted : (m : ℕ) → m < k → bucketlet_answer q fs r m ≡ Accepted

-- a decoded bucket of a histogram without a fault
module _ (fs ws : List ℕ) (q : Quality) (p : Checkable fs ws q) (b : ℕ) (is_bucket : b < buckets ws) where
  -- its bucketlet in hand
  pub record Turn (at k width class : ℕ) : Type 0 where
    pub passed : Passed q fs (bucket_at ws b) at k
    pub place : k < 8
    pub width_is : width ≡ width_at (bucket_at ws b) k
    pub class_is : class ≡ class_at (bucket_at ws b) k

  -- the answer of one in hand
  answer_is : (at k width class : ℕ) (v : Verdict) → Turn at k width class → v ≡ bucketlet_verdict q fs at width (class_number base class)
      → v ≡ bucketlet_answer q fs (bucket_at ws b) k
  answer_is at k width class v t e = e ∙ (λ i. bucketlet_verdict q fs (t.passed.at_place i) (t.width_is i) (class_number base (t.class_is i)))

  pub searchable : (at k width class : ℕ) → Turn at k width class → Classed fs at width class
  searchable at k width class t = rw (t.passed.at_place, t.width_is, t.class_is) (classed fs ws p.no_fault b is_bucket k t.place)

  pub next_passed : (at k width class : ℕ) → Turn at k width class → Accepted ≡ bucketlet_verdict q fs at width (class_number base class)
      → Passed q fs (bucket_at ws b) (at + width) (k + 1)
  next_passed at k width class t e =
      let r = bucket_at ws b in
      record {
        places = omega (arith, t.place);
        at_place = rw (add-one k) (omega (arith, t.passed.at_place, t.width_is, prefix_suc k r.widths));
        accepted = λ m g. ⊎_elim (λ (d : m ≡ k). ap (bucketlet_answer q fs r) d ∙ sym (answer_is at k width class _ t e)) (λ (d : m < k). t.passed.accepted m d) (eq-or-lt_of_le (omega arith));
      }

  -- the first bucketlet in which something fails is the bucket's answer
  pub bucketlet_answers : (at k width class : ℕ) (f : Failing) → Turn at k width class → Fails f ≡ bucketlet_verdict q fs at width (class_number base class)
      → Fails f ≡ bucket_verdict q fs ws b
  bucketlet_answers at k width class f t e =
      let i = answer_is at k width class (Fails f) t e in
      i ∙ sym (bucketlet_decides q fs ws b k t.place t.passed.accepted (λ a. not_accepted (i ∙ a)))

  -- after the eighth bucketlet it ends
  at_end : (at : ℕ) → Passed q fs (bucket_at ws b) at 8 → at ≡ end ws b
  at_end at d =
      let r = bucket_at ws b in
      let h = (held fs ws p.no_fault b is_bucket).in_range in
      omega (arith, d.at_place, h.ends, prefix_all 8 r.widths (omega (arith, h.eight_widths)))

  module _ (r : Bucket) (e : r ≡ bucket_at ws b) where
    eight_widths : length r.widths ≡ 8
    eight_widths = rw e (held fs ws p.no_fault b is_bucket).in_range.eight_widths

    eight_classes : length r.classes ≡ 8
    eight_classes = rw e (held fs ws p.no_fault b is_bucket).in_range.eight_classes

    -- the turn of a loop over widths and classes
    pub turn : (at k width class : ℕ) → Passed q fs (bucket_at ws b) at k
        → (k < length r.widths) × (k < length r.classes) × ((d : ℕ) → width ≡ get_or r.widths k d) × ((d : ℕ) → class ≡ get_or r.classes k d)
        → Turn at k width class
    turn at k width class d t =
        record {
          passed = d;
          place = omega (arith, t.0, eight_widths);
          width_is = t.2 0 ∙ ap (λ (r : Bucket). width_at r k) e;
          class_is = t.3 0 ∙ ap (λ (r : Bucket). class_at r k) e;
        }

    -- after which all eight are passed
    pub all_passed : (at k : ℕ) → Passed q fs (bucket_at ws b) at k → k ≡ min (length r.widths) (length r.classes) → Passed q fs (bucket_at ws b) at 8
    all_passed at k d m = subst (Passed q fs (bucket_at ws b) at) {x = k} {y = 8} (omega (arith, eight_widths, eight_classes)) d

    pub totalled : (at : ℕ) → Passed q fs (bucket_at ws b) at 8 → Totalled fs r.start at r.total
    totalled at d =
        let a = at_end at d in
        record {
          ordered = omega (arith, d.at_place, ap (λ (r : Bucket). r.start) e);
          inside = omega (arith, end_inside fs ws p.no_fault b is_bucket);
          valid = ap (λ (r : Bucket). valid_code r.total) e ∙ (held fs ws p.no_fault b is_bucket).total_valid;
        }

    -- and its total decides
    pub total_answers : (at : ℕ) (v : Verdict) → Passed q fs (bucket_at ws b) at 8 → v ≡ total_verdict q fs r.start at r.total → v ≡ bucket_verdict q fs ws b
    unfolding decode
    total_answers at v d i =
        i
        ∙ ap (λ (r : Bucket). total_verdict q fs r.start at r.total) e
        ∙ ap (λ (x : ℕ). total_verdict q fs (start ws b) x (bucket_at ws b).total) (at_end at d)
        ∙ sym (total_decides q fs ws b d.accepted)
