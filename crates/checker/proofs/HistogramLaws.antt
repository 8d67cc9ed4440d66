-- What a list and a histogram without a fault give the checker: limits, and bucketlets inside the list with classes in use.
-- Assumes nothing.
use mathlib.Core.Path.{◌≡◌, refl, ap, ◌∙◌}
use mathlib.Core.Bool.{not}
use mathlib.Core.List.{List}
use Prim.Native.Nat.{ℕ, suc, ◌+◌, ◌≤◌, ◌<◌}
use native.Mathlib.Omega.{arith}
use borrow.Author.Tests.{le-ltb}
use lib.ListN.{length}
use Rattle.laws.proofs.RefusalLaws.{numbered, passed, none_left, append_passed}
use Rattle.laws.proofs.SumsLaws.{prefix_suc, prefix_mono, prefix_all}
use Rattle.list_rules.specs.Limits.{max_theta}
use Rattle.words_rules.specs.Words.{theta, qn, qd, buckets, end}
use Rattle.words_rules.specs.Decoded.{bucket_at, class_at, bucketlet_start, width_at}
use Rattle.words_rules.specs.Claims.{Holds}
use Rattle.words_rules.proofs.Proved.{histogram}
use Rattle.list_rules.specs.Frequencies.{list_sentences}
use Rattle.fit.specs.Accepted.{check_fault, quality_of}
use Rattle.laws.proofs.BetweenLaws.{is_within}
use Rattle.list_rules.proofs.LimitLaws.{is_good_q}
use Rattle.fit.proofs.FaultLaws.{matching}
use Rattle.list_rules.specs.Private.Sound.{Sound}
use Rattle.list_rules.specs.Quality.{quality_sentences}
use Rattle.list_rules.proofs.SoundLaws.{sound_of}
use Rattle.checker.specs.Private.Searching.{Classed}

module _ (fs ws : List ℕ) (e : check_fault fs ws ≡ 0) where
  pub sound : Sound fs (quality_of ws)
  unfolding numbered
  sound =
      let l = histogram.limits ws (matching fs ws e).readable in
      let t = is_within 1 max_theta (theta ws) (record { least = l.least_theta; most = l.most_theta }) in
      let q = is_good_q (qn ws) (qd ws) (record { num = record { least = l.least_qn_lem; most = l.most_qn }; den = record { least = l.least_qd_lem; most = l.most_qd }; least = l.least_q }) in
      sound_of fs (theta ws) (qn ws) (qd ws)
      (append_passed (list_sentences fs) (quality_sentences (theta ws) (qn ws) (qd ws)) refl (matching fs ws e).listed ∙ passed _ _ (ap not t) ∙ passed _ _ (ap not q) ∙ passed _ _ (le-ltb _ _ l.most_q) ∙ none_left)

  module _ (b : ℕ) (h : b < buckets ws) where
    pub held : Holds ws b
    held = histogram.holds ws (matching fs ws e).readable b h

    -- the bucket lies inside the list
    pub end_inside : end ws b ≤ length fs
    end_inside = let m = matching fs ws e in let i = (histogram.tiles ws m.readable).within b h in omega (arith, m.same_length)

    -- and so do its bucketlets
    bucketlet_inside : (k : ℕ) → k < 8 → bucketlet_start (bucket_at ws b) k + width_at (bucket_at ws b) k ≤ length fs
    bucketlet_inside k g =
        let r = bucket_at ws b in
        let n = held.in_range.eight_widths in
        omega (arith, prefix_suc k r.widths, prefix_mono (suc k) 8 r.widths g, prefix_all 8 r.widths (omega arith), held.in_range.ends, end_inside)

    pub classed : (k : ℕ) → k < 8 → Classed fs (bucketlet_start (bucket_at ws b) k) (width_at (bucket_at ws b) k) (class_at (bucket_at ws b) k)
    classed k g = record { inside = bucketlet_inside k g; narrow = held.widths k; used = held.class_used k g }
