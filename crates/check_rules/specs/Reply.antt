-- The number and the values of the checker's answer (document 01, "Asking" and "When a call is turned away"). No two answers have the same (claim
-- `same_answer`).
-- Assumes nothing.
use Rattle.std.specs.Prelude.{Bool, true, false, ℕ, Result, Ok, Err}
use Rattle.refusals.specs.declared.Refusal.{Refusal}
use Rattle.refusals.specs.Numbers.{number_of}
use Rattle.check_rules.specs.declared.Sort.{Sort}
use Rattle.check_rules.specs.declared.Sort.TheVariants.{Bucketlet, Part, Bucket}
use Rattle.check_rules.specs.declared.Verdict.{Verdict}
use Rattle.check_rules.specs.declared.Verdict.TheVariants.{Accepted, Fails}

-- a refusal's number, or 0; whether it is accepted; the sort of what fails, or 0; the range that fails, or 0 to 0
pub record Answer : Type 0 where
  pub refusal : ℕ
  pub accepted : Bool
  pub sort : ℕ
  pub start : ℕ
  pub end : ℕ

abbrev pub refused_answer : ℕ → Answer
refused_answer n = record { refusal = n; accepted = false; sort = 0; start = 0; end = 0 }

abbrev pub accepted_answer : Answer
accepted_answer = record { refusal = 0; accepted = true; sort = 0; start = 0; end = 0 }

abbrev pub failed_answer : ℕ → ℕ → ℕ → Answer
failed_answer sort start end = record { refusal = 0; accepted = false; sort = sort; start = start; end = end }

abbrev pub sort_number : Sort → ℕ
sort_number Bucketlet = 1
sort_number Part = 2
sort_number Bucket = 3

abbrev pub verdict_reply : Verdict → Answer
verdict_reply Accepted = accepted_answer
verdict_reply (Fails f) = failed_answer (sort_number f.sort) f.start f.end

abbrev pub answer_of : Result Verdict Refusal → Answer
answer_of (Ok v) = verdict_reply v
answer_of (Err e) = refused_answer (number_of e)
