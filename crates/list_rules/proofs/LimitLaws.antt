-- q is good exactly where it keeps its limits.
-- Assumes nothing.
use mathlib.Core.Path.{◌≡◌}
use mathlib.Core.Bool.{true, ◌&&◌}
use Prim.Native.Nat.{ℕ, ◌*◌, ◌≤◌}
use borrow.Author.Tests.{leb-true, le-leb}
use lib.Dec.{leb}
use Rattle.laws.specs.Between.{between}
use Rattle.counts_rules.specs.Form.{form}
use Rattle.laws.proofs.BetweenLaws.{Within, within, is_within}
use Rattle.laws.proofs.Tests.{both_left, both_right}
use Rattle.list_rules.specs.Limits.{max_q_part, q_good}

pub record GoodQ (qn qd : ℕ) : Type 0 where
  pub num : Within 1 max_q_part qn
  pub den : Within 1 max_q_part qd
  pub least : form.least_qn * qd ≤ form.least_qd * qn

module _ (qn qd : ℕ) where
  pub good_q : q_good qn qd ≡ true → GoodQ qn qd
  good_q t =
      let n = between 1 max_q_part qn in
      let d = between 1 max_q_part qd in
      let q = leb (form.least_qn * qd) (form.least_qd * qn) in
      let nd = both_left (n && d) q t in
      record { num = within _ _ _ (both_left n d nd); den = within _ _ _ (both_right n d nd); least = leb-true _ _ (both_right (n && d) q t) }

  pub is_good_q : GoodQ qn qd → q_good qn qd ≡ true
  is_good_q g = simp (is_within _ _ _ g.num, is_within _ _ _ g.den, le-leb _ _ g.least)
