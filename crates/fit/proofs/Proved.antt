-- The claims of specs/Claims.antt. Assumes nothing.
use mathlib.Core.Path.{◌≡◌, refl, sym, ap, subst, ◌∙◌}
use mathlib.Core.Bool.{true}
use mathlib.Core.List.{List}
use Prim.Native.Nat.{ℕ, zero, suc, ◌≤◌, ◌<◌}
use native.Mathlib.Omega.{arith}
use Rattle.laws.specs.Sums.{part_sum, prefix_sum}
use Rattle.laws.proofs.SumsLaws.{prefix_suc, prefix_all, part_add}
use Rattle.counts_rules.specs.Form.{base}
use Rattle.counts_rules.specs.Class.{class_number}
use Rattle.counts_rules.specs.Total.{total_code, total_number}
use Rattle.counts_rules.proofs.BaseLaws.{number_none}
use Rattle.counts_rules.proofs.TotalLaws.{number_has_code, code_none}
use Rattle.words_rules.specs.Words.{buckets, start, span}
use Rattle.words_rules.specs.Decoded.{decode, class_at, bucket_at, bucketlet_start, width_at, number_at}
use Rattle.words_rules.proofs.Proved.{histogram}
use Rattle.fit.specs.Accepted.{quality_of, accepted}
use Rattle.fit.specs.Claims.{Factors, NoClass, Zeros}
use Rattle.fit.proofs.FitLaws.{Near, says_near}
use Rattle.fit.proofs.ZeroLaws.{both_0, count_0, number_0, none_counted}
use Rattle.fit.proofs.AcceptedLaws.{Fitting, fitting}

pub factors : Factors
factors = record { most_q = λ fs ws t. (histogram.limits ws (fitting fs ws t).readable).most_q }

module _ (fs ws : List ℕ) (t : accepted fs ws ≡ true) (b : ℕ) (h : b < buckets ws) where
  ok : Fitting fs ws
  ok = fitting fs ws t

  least : 1 ≤ (quality_of ws).qd
  least = (histogram.limits ws ok.readable).least_qd_lem

  class_0 : (k : ℕ) → k < 8 → class_at (bucket_at ws b) k ≡ 0 → part_sum (bucketlet_start (bucket_at ws b) k) (width_at (bucket_at ws b) k) fs ≡ 0
  class_0 k l e =
      let r = bucket_at ws b in
      none_counted (quality_of ws) fs (bucketlet_start r k) (width_at r k) (number_at r k) least (ok.bucketlets b k h l) (ap (class_number base) e ∙ number_none)

  -- the first k bucketlets count nothing
  none_before : NoClass ws b → (k : ℕ) → k ≤ 8 → part_sum (bucket_at ws b).start (prefix_sum k (bucket_at ws b).widths) fs ≡ 0
  none_before n zero l = refl
  none_before n (suc k) l =
      let r = bucket_at ws b in
      ap (λ (m : ℕ). part_sum r.start m fs) (prefix_suc k r.widths)
      ∙ part_add r.start (prefix_sum k r.widths) (width_at r k) fs
      ∙ omega (arith, none_before n k (omega arith), class_0 k l (n k l))

  bucket_none : NoClass ws b → part_sum (start ws b) (span ws b) fs ≡ 0
  unfolding decode
  bucket_none n =
      let holds = histogram.holds ws ok.readable b h in
      ap (λ (m : ℕ). part_sum (start ws b) m fs) (sym (prefix_all 8 (bucket_at ws b).widths (omega (arith, holds.in_range.eight_widths)) ∙ holds.spanned))
      ∙ none_before n 8 (omega arith)

  code_0 : NoClass ws b → (bucket_at ws b).total ≡ 0
  code_0 n =
      let code = (bucket_at ws b).total in
      let near = subst (λ (f : ℕ). Near (quality_of ws) f (total_number code) 1) (bucket_none n) (ok.totals b h) in
      let z : total_number code ≡ 0 = count_0 (quality_of ws) (total_number code) 1 least (says_near (quality_of ws) 0 (total_number code) 1 near) in
      sym (number_has_code code (histogram.holds ws ok.readable b h).total_valid) ∙ ap total_code z ∙ code_none

pub zeros : Zeros
zeros = record { both_0 = both_0; count_0 = count_0; number_0 = number_0; class_0 = λ fs ws t b k h. class_0 fs ws t b h k; code_0 = code_0 }
