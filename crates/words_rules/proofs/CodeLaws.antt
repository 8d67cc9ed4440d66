-- What a bucket's widths, classes and total are where they are not at fault (specs/Reading.antt, sentences 11 and 12).
-- Assumes nothing.
use mathlib.Core.Path.{◌≡◌, refl}
use mathlib.Core.Bool.{Bool, true, false, not, ◌&&◌, ◌||◌}
use Prim.Native.Nat.{ℕ, ◌-◌, ◌≤◌, ◌<◌}
use borrow.Author.Tests.{ltb-false, le-ltb, eqb-true, eq-eqb, ne_eqb, not-true, not-false}
use lib.Dec.{ltb, eqb}
use Rattle.laws.proofs.EachLaws.{none_at, some_none}
use Rattle.laws.proofs.Tests.{true_not_false, both_left, both_right, fails_other, neither, neither_left, neither_right, not_fails, is_false}
use Rattle.counts_rules.specs.Form.{used_class}
use Rattle.counts_rules.specs.Total.{valid_fields, valid_code}
use Rattle.words_rules.specs.declared.Bucket.{Bucket}
use Rattle.words_rules.specs.Decoded.{class_at}
use Rattle.words_rules.specs.Reading.{widths_broken, class_broken, has_class, some_class, total_broken}
use Rattle.words_rules.specs.Limits.{max_width}

-- the listed widths lie within the span, and leave at most 4,095 of it
pub record Room (span listed : ℕ) : Type 0 where
  pub inside : listed ≤ span
  pub left : span - listed ≤ max_width

module _ (span listed : ℕ) where
  pub room : widths_broken span listed ≡ false → Room span listed
  unfolding widths_broken
  room f =
      record {
        inside = ltb-false span listed (neither_left (ltb span listed) _ f);
        left = ltb-false max_width (span - listed) (neither_right (ltb span listed) _ f);
      }

  pub no_width_fault : Room span listed → widths_broken span listed ≡ false
  unfolding widths_broken
  no_width_fault r = neither (ltb span listed) _ (le-ltb span listed r.inside) (le-ltb max_width (span - listed) r.left)

or_false : (t : Bool) → (t || false) ≡ t
or_false true = refl
or_false false = refl

-- a class is one that counts have, and is 0 where the width is
pub record ClassGood (width class : ℕ) : Type 0 where
  pub known : used_class class ≡ true
  pub empty : width ≡ 0 → class ≡ 0

module _ (width class : ℕ) where
  abbrev at_none : Bool
  at_none = eqb width 0 && not (eqb class 0)

  pub class_good : class_broken width class ≡ false → ClassGood width class
  unfolding class_broken
  class_good f =
      record {
        known = not-false _ (neither_left (not (used_class class)) at_none f);
        empty = λ e. eqb-true class 0 (not-false _ (fails_other (eqb width 0) _ (neither_right (not (used_class class)) at_none f) (eq-eqb width 0 e)));
      }

  pub no_class_fault : ClassGood width class → class_broken width class ≡ false
  unfolding class_broken
  no_class_fault g =
      neither (not (used_class class)) at_none (not_fails _ g.known)
      (is_false at_none (λ t. true_not_false
      (eq-eqb class 0 (g.empty (eqb-true width 0 (both_left (eqb width 0) _ t))))
      (not-true (eqb class 0) (both_right (eqb width 0) _ t))))

  -- at a width the class alone decides
  pub class_at_width : (width ≡ 0 → ⊥) → class_broken width class ≡ not (used_class class)
  unfolding class_broken
  class_at_width n = simp (ne_eqb width 0 n) (or_false (not (used_class class)))

-- a total code is valid, and 0 only where the eight classes are
pub record TotalGood (r : Bucket) : Type 0 where
  pub valid : valid_code r.total ≡ true
  pub none : r.total ≡ 0 → (k : ℕ) → k < 8 → class_at r k ≡ 0

module _ (r : Bucket) where
  no_class : some_class r ≡ false → (k : ℕ) → k < 8 → class_at r k ≡ 0
  no_class f k h = eqb-true (class_at r k) 0 (not-false _ (none_at 8 (has_class r) f k h))

  pub total_good_lem : total_broken r ≡ false → TotalGood r
  unfolding total_broken
  total_good_lem f =
      record {
        valid = not-false _ (neither_left (not (valid_code r.total)) _ f);
        none = λ e. no_class (fails_other (eqb r.total 0) _ (neither_right (not (valid_code r.total)) _ f) (eq-eqb r.total 0 e));
      }

  pub no_total_fault : TotalGood r → total_broken r ≡ false
  unfolding total_broken
  no_total_fault g =
      neither (not (valid_code r.total)) _ (not_fails _ g.valid)
      (is_false (eqb r.total 0 && some_class r) (λ t. true_not_false
      (both_right (eqb r.total 0) _ t)
      (some_none 8 (has_class r) (λ k h. not_fails _ (eq-eqb (class_at r k) 0 (g.none (eqb-true r.total 0 (both_left (eqb r.total 0) _ t)) k h))))))

  -- code 0 is valid
  pub total_at_0 : r.total ≡ 0 → total_broken r ≡ some_class r
  unfolding total_broken valid_fields
  total_at_0 e = rw e

  pub total_else : (r.total ≡ 0 → ⊥) → total_broken r ≡ not (valid_code r.total)
  unfolding total_broken
  total_else n = simp (ne_eqb r.total 0 n) (or_false (not (valid_code r.total)))
