-- The claims of specs/Claims.antt.
-- Assumes nothing.
use Rattle.std.proofs.Common.{◌≡◌, ℕ, refl, sym, ap, arith}
use Rattle.std.specs.Prelude.{Result, Ok, Err}
use Rattle.laws.specs.Reply.{Reply}
use Rattle.refusals.specs.declared.Refusal.{Refusal}
use Rattle.refusals.specs.Numbers.{number_of}
use Rattle.refusals.specs.Answers.{fault_of, reply_of}
use Rattle.refusals.specs.Claims.{Answers}
use Rattle.refusals.proofs.NumberLaws.{numbered, same_number}

same_fault : (a b : Result Unit Refusal) → fault_of a ≡ fault_of b → a ≡ b
same_fault (Ok a) (Ok b) h = refl
same_fault (Ok _) (Err f) h = absurd (let n = numbered f in omega (arith, h))
same_fault (Err e) (Ok _) h = absurd (let n = numbered e in omega (arith, h))
same_fault (Err e) (Err f) h = ap Err (same_number e f h)

same_reply : (a b : Result ℕ Refusal) → reply_of a ≡ reply_of b → a ≡ b
same_reply (Ok m) (Ok n) h = ap Ok (ap (λ (r : Reply). r.value) h)
same_reply (Ok m) (Err f) h = absurd (let n = numbered f in omega (arith, ap (λ (r : Reply). r.refusal) h))
same_reply (Err e) (Ok n) h = absurd (let n = numbered e in omega (arith, ap (λ (r : Reply). r.refusal) h))
same_reply (Err e) (Err f) h = ap Err (same_number e f (ap (λ (r : Reply). r.refusal) h))

pub answers : Answers
answers = record { numbered = numbered; same_number = same_number; same_fault = same_fault; same_reply = same_reply }
