-- A list and a quality of which none of the sentences 1, 3, 4, 5 and 24 is true are sound.
-- Assumes nothing.
use mathlib.Core.Path.{◌≡◌, refl}
use mathlib.Core.List.{List}
use Prim.Native.Nat.{ℕ}
use native.Mathlib.Omega.{arith}
use borrow.Author.Tests.{ltb-false, not-false}
use lib.ListN.{length}
use Rattle.laws.specs.Refusal.{refusal}
use Rattle.laws.specs.Sums.{sum}
use Rattle.laws.proofs.RefusalLaws.{numbered, none_true}
use Rattle.counts_rules.specs.Limit.{limit}
use Rattle.laws.proofs.BetweenLaws.{within}
use Rattle.list_rules.proofs.LimitLaws.{good_q}
use Rattle.list_rules.specs.Limits.{max_entries, max_theta}
use Rattle.list_rules.specs.Frequencies.{entries_fault, sum_fault}
use Rattle.list_rules.specs.Private.Sound.{Sound}
use Rattle.list_rules.specs.Quality.{quality, input_sentences}

pub sound_of : (fs : List ℕ) (theta qn qd : ℕ) → refusal (input_sentences fs theta qn qd) ≡ 0 → Sound fs (quality theta qn qd)
unfolding numbered entries_fault sum_fault
sound_of fs theta qn qd e =
    let n = none_true (input_sentences fs theta qn qd) refl e in
    let l = within 1 max_entries (length fs) (not-false _ n.0) in
    let t = within 1 max_theta theta (not-false _ n.1.1.0) in
    let f = good_q qn qd (not-false _ n.1.1.1.0) in
    let large = n.1.1.1.1.0 in
    record {
      some = l.least;
      many = l.most;
      total = ltb-false limit (sum fs) n.1.0;
      theta_some = t.least;
      theta_small = t.most;
      qn_small = f.num.most;
      qd_some = f.den.least;
      qd_small = f.den.most;
      factor = f.least;
      factor_small = omega (arith, ltb-false);
    }
