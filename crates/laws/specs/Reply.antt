-- What a call answers: a refusal's number, or 0 and a value.
-- Assumes nothing.
use Rattle.std.specs.Prelude.{ℕ}

pub record Reply : Type 0 where
  pub refusal : ℕ
  pub value : ℕ

abbrev pub answered : ℕ → Reply
answered v = record { refusal = 0; value = v }

abbrev pub refused : ℕ → Reply
refused n = record { refusal = n; value = 0 }
