-- What sentences 1, 3, 4, 5 and 24 ask of a list, of theta and of q, as statements.
-- Assumes nothing.
use Rattle.std.specs.Prelude.{List, ℕ, ◌*◌, ◌≤◌, length}
use Rattle.laws.specs.Sums.{sum}
use Rattle.counts_rules.specs.Limit.{limit}
use Rattle.counts_rules.specs.Form.{form}
use Rattle.list_rules.specs.Limits.{max_entries, max_theta, max_q_part, max_q}
use Rattle.list_rules.specs.declared.Quality.{Quality}

pub record Sound (fs : List ℕ) (q : Quality) : Type 0 where
  pub some : 1 ≤ length fs
  pub many : length fs ≤ max_entries
  pub total : sum fs ≤ limit
  pub theta_some : 1 ≤ q.theta
  pub theta_small : q.theta ≤ max_theta
  pub qn_small : q.qn ≤ max_q_part
  pub qd_some : 1 ≤ q.qd
  pub qd_small : q.qd ≤ max_q_part
  pub factor : form.least_qn * q.qd ≤ form.least_qd * q.qn
  pub factor_small : q.qn ≤ max_q * q.qd
