-- The limits of a list, of theta and of q (document 01, "The list and the range"; document 02, request v).
-- Assumes nothing.
use Rattle.std.specs.Prelude.{Bool, ◌&&◌, ℕ, ◌*◌, leb, ltb}
use Rattle.laws.specs.Between.{between}
use Rattle.counts_rules.specs.Form.{form}

-- the number of entries, d
abbrev pub max_entries : ℕ
max_entries = 65536

abbrev pub entries_good : ℕ → Bool
entries_good d = between 1 max_entries d

abbrev pub max_theta : ℕ
max_theta = 1048575

abbrev pub theta_good : ℕ → Bool
theta_good theta = between 1 max_theta theta

-- of qn and of qd; q is qn/qd, and at least that of the form
abbrev pub max_q_part : ℕ
max_q_part = 1000

abbrev pub q_good : ℕ → ℕ → Bool
q_good qn qd = between 1 max_q_part qn && between 1 max_q_part qd && leb (form.least_qn * qd) (form.least_qd * qn)

-- a larger factor has no use, and is taken for a slip
abbrev pub max_q : ℕ
max_q = 8

-- 24: q is above 8. Nothing is divided, so that it has a value for every qd.
abbrev pub q_large : ℕ → ℕ → Bool
q_large qn qd = ltb (max_q * qd) qn
