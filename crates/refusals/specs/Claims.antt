-- What is proved of refusals and answers (proofs/Proved.antt).
-- Assumes nothing.
use Rattle.std.specs.Prelude.{◌≡◌, ℕ, ◌<◌, Result}
use Rattle.laws.specs.Reply.{Reply}
use Rattle.refusals.specs.declared.Refusal.{Refusal}
use Rattle.refusals.specs.Numbers.{number_of}
use Rattle.refusals.specs.Answers.{fault_of, reply_of}

-- an answer's number or reply is no other answer's: to say which it is says all
pub record Answers : Type 0 where
  pub numbered : (e : Refusal) → 0 < number_of e
  pub same_number : (e f : Refusal) → number_of e ≡ number_of f → e ≡ f
  pub same_fault : (a b : Result Unit Refusal) → fault_of a ≡ fault_of b → a ≡ b
  pub same_reply : (a b : Result ℕ Refusal) → reply_of a ≡ reply_of b → a ≡ b
