-- What a test and a call answer, as the number and the value that a reply has. No two answers are the same number or reply, since no sentence has the number 0
-- (claims `same_fault` and `same_reply`).
-- Assumes nothing.
use Rattle.std.specs.Prelude.{ℕ, Result, Ok, Err}
use Rattle.laws.specs.Reply.{Reply, answered, refused}
use Rattle.refusals.specs.declared.Refusal.{Refusal}
use Rattle.refusals.specs.Numbers.{number_of}

-- of a test, whatever it hands on: 0 if it passes
abbrev pub fault_of : {A : Type 0} → Result A Refusal → ℕ
fault_of (Ok _) = 0
fault_of (Err e) = number_of e

abbrev pub reply_of : Result ℕ Refusal → Reply
reply_of (Ok n) = answered n
reply_of (Err e) = refused (number_of e)
